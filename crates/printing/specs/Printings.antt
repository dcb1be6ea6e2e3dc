-- What the printer promises: a text whole in front of the buffer, or a refusal and the buffer as it was. Definitions only.
use Rattle.std.specs.Prelude.{◌≡◌, Bool, cond, ◌||◌, List, [], ◌∷◌, ◌++◌, ℕ, ltb, length, Result, Ok, Err, Float}
use Rattle.numbers.specs.Words.{longest, when_done, headed}
use Rattle.texts.specs.Texts.{newline, decimal}
use Rattle.printing.specs.declared.PrintError.{PrintError}
use Rattle.printing.specs.declared.PrintError.TheVariants.{InputSize, Limit}

-- the number of an answer, and the values that it carries (RULES, Numbers)
abbrev pub number_of : Result ℕ PrintError → ℕ
number_of (Ok size) = 0
number_of (Err (InputSize need have)) = 10
number_of (Err Limit) = 11

abbrev pub values_of : Result ℕ PrintError → List ℕ
values_of (Ok size) = size ∷ []
values_of (Err (InputSize need have)) = need ∷ have ∷ []
values_of (Err Limit) = []

-- the first test that fails, of a text whose numbers are too many or not; done where none does
abbrev pub answer_of : Bool → ℕ → ℕ → Result ℕ PrintError
answer_of over need have = cond over (Err Limit) (cond (ltb have need) (Err (InputSize need have)) (Ok need))

-- a band has more numbers than may be given
abbrev pub too_long : List Float → List Float → Bool
too_long approx detail = ltb longest (length approx) || ltb longest (length detail)

-- what an entry promises
pub record Printed (over : Bool) (text out : List ℕ) (r : Result ℕ PrintError) (out' : List ℕ) : Type 0 where
  pub answer : r ≡ answer_of over (length text) (length out)
  pub held : out' ≡ when_done (number_of r) (headed text out) out

-- a word that has its space, a number, and the end of the line
abbrev pub count_text : List ℕ → ℕ → List ℕ
count_text word n = word ++ (decimal n ++ (newline ∷ []))
