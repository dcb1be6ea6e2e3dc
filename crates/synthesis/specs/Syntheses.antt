-- Synthesis of one line: the answers with their numbers, and what the output then holds. Definitions only.
use Rattle.std.specs.Prelude.{◌≡◌, cond, not, ◌||◌, List, [], ◌∷◌, ℕ, ◌+◌, ◌*◌, ltb, leb, eqb, length, Result, ⊤, Ok, Err, Float}
use Rattle.std.specs.Float.{Format}
use Rattle.numbers.specs.Words.{longest, when_done}
use Rattle.synthesis.specs.declared.SynthesisError.{SynthesisError}
use Rattle.synthesis.specs.declared.SynthesisError.TheVariants.{ApproxDetailsNotMatches, OutputSizeIsNotValid, ZeroedBaseSize, Limit, Taps}
use Rattle.synthesis.specs.Lines.{synthesised}
use Rattle.bank.specs.Lengths.{bad_taps, line_length}

-- the number of an answer, and the values that it carries (RULES, Numbers)
abbrev pub number_of : Result ⊤ SynthesisError → ℕ
number_of (Ok done) = 0
number_of (Err (ApproxDetailsNotMatches a d)) = 3
number_of (Err (OutputSizeIsNotValid have need)) = 4
number_of (Err ZeroedBaseSize) = 7
number_of (Err Limit) = 11
number_of (Err Taps) = 12

abbrev pub values_of : Result ⊤ SynthesisError → List ℕ
values_of (Ok done) = []
values_of (Err (ApproxDetailsNotMatches a d)) = a ∷ d ∷ []
values_of (Err (OutputSizeIsNotValid have need)) = have ∷ need ∷ []
values_of (Err ZeroedBaseSize) = []
values_of (Err Limit) = []
values_of (Err Taps) = []

-- the first test that fails, of f taps, bands of a and d, and an output of o
unfoldable pub answer_of : ℕ → ℕ → ℕ → ℕ → Result ⊤ SynthesisError
answer_of f a d o =
    cond (bad_taps f) (Err Taps)
    (cond (ltb longest a || ltb longest d) (Err Limit)
    (cond (not (eqb a d)) (Err (ApproxDetailsNotMatches a d))
    (cond (leb (2 * a + 2) f) (Err ZeroedBaseSize)
    (cond (not (eqb o (line_length a f))) (Err (OutputSizeIsNotValid o (line_length a f)))
    (Ok tt)))))

-- in a format, by the first f of either tap list: of a bank its arrays and count
pub record Synthesised (w : Format) (low high : List Float) (f : ℕ) (approx detail out : List Float) (r : Result ⊤ SynthesisError) (out' : List Float) : Type 0 where
  pub answer : r ≡ answer_of f (length approx) (length detail) (length out)
  pub joined : out' ≡ when_done (number_of r) (synthesised w f low high approx detail out) out
