-- There and back: the answers with their numbers, what every lent buffer then holds, and that the line is restored where it can be. Definitions only.
use Rattle.std.specs.Prelude.{◌≡◌, List, [], ℕ, ◌≤◌, length, ℤ, Result, ⊤, Ok, Err, Float}
use Rattle.std.specs.Result.{result_and, result_map_both}
use Rattle.std.specs.Float.{Format}
use Rattle.numbers.specs.Words.{cleared, when_done}
use Rattle.border.specs.declared.Border.{Border}
use Rattle.bank.specs.Lengths.{pairs, padded_length, line_length}
use Rattle.analysis.specs.Analyses as Analyses
use Rattle.analysis.specs.Lines.{band, padded_into}
use Rattle.synthesis.specs.Syntheses as Syntheses
use Rattle.exact.specs.declared.BackError.{BackError}
use Rattle.exact.specs.declared.BackError.TheVariants.{Analysis, Synthesis}
use Rattle.exact.specs.Restoring.{squares, Premises, PairPremises, there_and_back, Restored}

-- the number of an answer, and the values that it carries (RULES, Numbers): those of the way that was refused
abbrev pub number_of : Result ⊤ BackError → ℕ
number_of (Ok done) = 0
number_of (Err (Analysis a)) = Analyses.number_of (Err a)
number_of (Err (Synthesis s)) = Syntheses.number_of (Err s)

abbrev pub values_of : Result ⊤ BackError → List ℕ
values_of (Ok done) = []
values_of (Err (Analysis a)) = Analyses.values_of (Err a)
values_of (Err (Synthesis s)) = Syntheses.values_of (Err s)

-- the first test that fails, of f taps, a line of n, bands of a and d, a scratch of s, and an output of o
unfoldable pub answer_of : ℕ → ℕ → ℕ → ℕ → ℕ → ℕ → Result ⊤ BackError
answer_of f n a d s o =
    let there = Analyses.answer_of f n a d s in
    let back = Syntheses.answer_of f a d o in
    result_and (result_map_both (λ done. done) Analysis there) (result_map_both (λ done. done) Synthesis back)

-- buffers of the ruled lengths for n samples and f taps
pub record Ruled (n f a d s o : ℕ) : Type 0 where
  pub approxed : a ≡ pairs n f
  pub detailed : d ≡ pairs n f
  pub room : padded_length n f ≤ s
  pub placed : o ≡ line_length (pairs n f) f

-- in a format, by f taps of al and ah there, of sl and sh back, into an output that is cleared
pub record Returned (w : Format) (al ah sl sh : List Float) (f : ℕ) (b : Border) (line approx detail scratch out : List Float) (r : Result ⊤ BackError) (approx' detail' scratch' out' : List Float) : Type 0 where
  pub answer : r ≡ answer_of f (length line) (length approx) (length detail) (length scratch) (length out)
  pub approxes : approx' ≡ when_done (number_of r) (band w al f b line) approx
  pub details : detail' ≡ when_done (number_of r) (band w ah f b line) detail
  pub scratched : scratch' ≡ when_done (number_of r) (padded_into f b line scratch) scratch
  pub joined : out' ≡ when_done (number_of r) (there_and_back w f al ah sl sh b line (cleared (length out))) out
  -- whatever meets the premises is taken, and comes back exactly: by the same pair both ways
  pub exact : sl ≡ al → sh ≡ ah → (z v : List ℤ) (A : ℕ) → Premises w f al ah line z v A
      → Ruled (length line) f (length approx) (length detail) (length scratch) (length out)
      → (r ≡ Ok tt) × Restored b (squares z) v out'
  -- and by a pair for each way
  pub exact_pairs : (alℤ ahℤ slℤ shℤ v : List ℤ) (S : ℤ) (A : ℕ) → PairPremises w f al ah sl sh line alℤ ahℤ slℤ shℤ v S A
      → Ruled (length line) f (length approx) (length detail) (length scratch) (length out)
      → (r ≡ Ok tt) × Restored b S v out'
