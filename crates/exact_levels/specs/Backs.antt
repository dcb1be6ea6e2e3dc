-- There and back over levels: the answers with their numbers, what every lent buffer then holds, and that the line is given back where it can be. Definitions only.
use Rattle.std.specs.Prelude.{◌≡◌, false, cond, List, [], ℕ, ◌%◌, ◌≤◌, eqb, length, take, Result, Ok, Err, ⊤, ℤ, Float}
use Rattle.std.specs.Float.{binary64}
use Rattle.numbers.specs.Words.{when_done}
use Rattle.border.specs.declared.Border.{Border}
use Rattle.packed.specs.Lengths.{levels_of, too_short, packed_length, levels_scratch, restoring_length}
use Rattle.packed.specs.Answers as Answers
use Rattle.levels.specs.Lines.{packed_line, padded_lines}
use Rattle.levels.specs.Analyses as Analyses
use Rattle.dividing.specs.Divisions.{divided}
use Rattle.restoring.specs.Lines.{first_by, second_by}
use Rattle.restoring.specs.Dividings as Dividings
use Rattle.exact_levels.specs.declared.LevelsBackError.{LevelsBackError}
use Rattle.exact_levels.specs.declared.LevelsBackError.TheVariants.{Analysis, Restoring}
use Rattle.exact_levels.specs.Through.{ThroughPremises, Regained}

-- the number of an answer, and the values that it carries (RULES, Numbers): those of the way that was refused
abbrev pub number_of : Result ⊤ LevelsBackError → ℕ
number_of (Ok done) = 0
number_of (Err (Analysis e)) = Answers.number_of (Err e)
number_of (Err (Restoring e)) = Dividings.number_of (Err e)

abbrev pub values_of : Result ⊤ LevelsBackError → List ℕ
values_of (Ok done) = []
values_of (Err (Analysis e)) = Answers.values_of (Err e)
values_of (Err (Restoring e)) = Dividings.values_of (Err e)

-- the first test that fails, of n samples, f taps, a divisor s, a packed buffer of p, a scratch of c, and work buffers of a and b
unfoldable pub answer_of : ℕ → ℕ → Float → ℕ → ℕ → ℕ → ℕ → ℕ → Result ⊤ LevelsBackError
answer_of n f s levels p c a b =
    Answers.when_ok (Analyses.answer_of n f levels p c)
    (Answers.when_ok (Dividings.answer_of n f s levels p a b) (Ok tt) (λ e. Err (Restoring e)))
    (λ e. Err (Analysis e))

-- levels that n samples allow by f taps, and buffers of the ruled lengths
pub record Ruled (n f levels p c a b : ℕ) : Type 0 where
  pub allowed : too_short n f (levels_of levels) ≡ false
  pub packs : p ≡ packed_length n f levels
  pub scratched : levels_scratch n f ≤ c
  pub room : restoring_length n f ≤ a
  pub space : restoring_length n f ≤ b

-- by f taps of al and ah there, of sl and sh back, each joined line divided by s
pub record ThereAndBack (al ah sl sh : List Float) (f : ℕ) (border : Border) (s : Float) (line : List Float) (levels : ℕ) (packed scratch first second : List Float)
    (r : Result ⊤ LevelsBackError) (packed' scratch' first' second' : List Float) : Type 0 where
  pub answer : r ≡ answer_of (length line) f s levels (length packed) (length scratch) (length first) (length second)
  pub packs : packed' ≡ when_done (number_of r) (packed_line binary64 al ah f border line (levels_of levels)) packed
  pub scratched : scratch' ≡ when_done (number_of r) (padded_lines binary64 al f border line (levels_of levels) scratch) scratch
  pub firsts : first' ≡ when_done (number_of r) (first_by (divided binary64 s) binary64 f sl sh (packed_line binary64 al ah f border line (levels_of levels)) (length line) (levels_of levels) (levels_of levels) first) first
  pub seconds : second' ≡ when_done (number_of r) (second_by (divided binary64 s) binary64 f sl sh (packed_line binary64 al ah f border line (levels_of levels)) (length line) (levels_of levels) (levels_of levels) second) second
  -- whatever meets the premises is taken, and given back at the front of the buffer that holds the line: by the same pair both ways
  pub exact : sl ≡ al → sh ≡ ah → (z v : List ℤ) (A : ℕ → ℕ) → ThroughPremises binary64 f al ah border line s (levels_of levels) z v A
      → Ruled (length line) f levels (length packed) (length scratch) (length first) (length second)
      → (r ≡ Ok tt) × Regained binary64 border v (take (restoring_length (length line) f) (cond (eqb (levels_of levels % 2) 0) second' first'))
