-- Parsing: the answers with their numbers, and what the lent buffer then holds. Definitions only.
use Rattle.std.specs.Prelude.{◌≡◌, cond, List, [], ◌∷◌, ◌++◌, ℕ, ltb, length, ℤ, Result, Ok, Err, Float}
use Rattle.std.specs.Float.{binary64}
use Rattle.numbers.specs.Words.{when_done, headed}
use Rattle.whole.specs.Floats.{floats}
use Rattle.texts.specs.Texts.{Request, Stands}
use Rattle.border.specs.declared.Border.{Border}
use Rattle.parsing.specs.declared.Request as parsed
use Rattle.parsing.specs.declared.ParseError.{ParseError}
use Rattle.parsing.specs.declared.ParseError.TheVariants.{InputSize, Unreadable}

-- the number of an answer, and the values that it carries (RULES, Numbers)
abbrev pub number_of : Result parsed.Request ParseError → ℕ
number_of (Ok request) = 0
number_of (Err (InputSize need have)) = 10
number_of (Err Unreadable) = 14

abbrev pub values_of : Result parsed.Request ParseError → List ℕ
values_of (Ok request) = request.low ∷ request.high ∷ request.samples ∷ []
values_of (Err (InputSize need have)) = need ∷ have ∷ []
values_of (Err Unreadable) = []

-- all numbers of a request, in the order of its text
abbrev pub numbers_of : Request → List ℤ
numbers_of q = q.low ++ (q.high ++ q.samples)

-- a border, and how many numbers each list has
abbrev pub request : Border → ℕ → ℕ → ℕ → parsed.Request
request b l h s = record { border = b; low = l; high = h; samples = s }

-- the answer to a text that stands for q, where the buffer has so many places
abbrev pub answer_of : Request → ℕ → Result parsed.Request ParseError
answer_of q have =
    cond (ltb have (length (numbers_of q))) (Err (InputSize (length (numbers_of q)) have))
    (Ok (request q.border (length q.low) (length q.high) (length q.samples)))

-- a buffer that begins with its numbers and is as it was beyond them
abbrev pub held_by : Request → List Float → List Float
held_by q numbers = headed (floats binary64 (numbers_of q)) numbers

-- where the text stands for a request it is answered by it; where it stands for none it is unreadable
pub record TextParsed (text : List ℕ) (numbers : List Float) (r : Result parsed.Request ParseError) (numbers' : List Float) : Type 0 where
  pub answer : (q : Request) → Stands q text → r ≡ answer_of q (length numbers)
  pub held : (q : Request) → Stands q text → numbers' ≡ when_done (number_of r) (held_by q numbers) numbers
  pub unreadable : ((q : Request) → Stands q text → ⊥) → r ≡ Err Unreadable
  pub kept : ((q : Request) → Stands q text → ⊥) → numbers' ≡ numbers
