-- Analysis of one line: the answers with their numbers, and what every lent buffer then holds. Definitions only.
use Rattle.std.specs.Prelude.{◌≡◌, cond, not, List, [], ◌∷◌, ℕ, ltb, eqb, length, Result, ⊤, Ok, Err, Float}
use Rattle.std.specs.Float.{Format}
use Rattle.numbers.specs.Words.{longest, when_done}
use Rattle.border.specs.declared.Border.{Border}
use Rattle.analysis.specs.declared.AnalysisError.{AnalysisError}
use Rattle.analysis.specs.declared.AnalysisError.TheVariants.{MinFilterSize, ApproxDetailsSize, ScratchSize, Limit, Taps}
use Rattle.analysis.specs.Lines.{band, padded_into}
use Rattle.bank.specs.Lengths.{bad_taps, padded_length, pairs}

-- the number of an answer, and the values that it carries (RULES, Numbers)
abbrev pub number_of : Result ⊤ AnalysisError → ℕ
number_of (Ok done) = 0
number_of (Err (MinFilterSize n f)) = 1
number_of (Err (ApproxDetailsSize l)) = 2
number_of (Err (ScratchSize need have)) = 5
number_of (Err Limit) = 11
number_of (Err Taps) = 12

abbrev pub values_of : Result ⊤ AnalysisError → List ℕ
values_of (Ok done) = []
values_of (Err (MinFilterSize n f)) = n ∷ f ∷ []
values_of (Err (ApproxDetailsSize l)) = l ∷ []
values_of (Err (ScratchSize need have)) = need ∷ have ∷ []
values_of (Err Limit) = []
values_of (Err Taps) = []

-- the first test that fails, of f taps, a line of n, bands of a and d, and a scratch of s
unfoldable pub answer_of : ℕ → ℕ → ℕ → ℕ → ℕ → Result ⊤ AnalysisError
answer_of f n a d s =
    cond (bad_taps f) (Err Taps)
    (cond (ltb longest n) (Err Limit)
    (cond (ltb n f) (Err (MinFilterSize n f))
    (cond (not (eqb a (pairs n f))) (Err (ApproxDetailsSize a))
    (cond (not (eqb d (pairs n f))) (Err (ApproxDetailsSize d))
    (cond (ltb s (padded_length n f)) (Err (ScratchSize (padded_length n f) s))
    (Ok tt))))))

-- in a format, by the first f of either tap list, under a border: of a bank its arrays, count and border
pub record Analysed (w : Format) (low high : List Float) (f : ℕ) (b : Border) (line approx detail scratch : List Float) (r : Result ⊤ AnalysisError) (approx' detail' scratch' : List Float) : Type 0 where
  pub answer : r ≡ answer_of f (length line) (length approx) (length detail) (length scratch)
  pub approxes : approx' ≡ when_done (number_of r) (band w low f b line) approx
  pub details : detail' ≡ when_done (number_of r) (band w high f b line) detail
  pub scratched : scratch' ≡ when_done (number_of r) (padded_into f b line scratch) scratch
