-- Analysis over levels: the answers, and what every lent buffer then holds. Definitions only.
-- The enum with its numbers and values stands in `packed` (Answers).
use Rattle.std.specs.Prelude.{◌≡◌, cond, List, ℕ, ltb, length, Result, Ok, Err, ⊤, Float}
use Rattle.std.specs.Float.{binary64}
use Rattle.numbers.specs.Words.{when_done, and_then}
use Rattle.border.specs.declared.Border.{Border}
use Rattle.packed.specs.declared.LevelsError.{LevelsError}
use Rattle.packed.specs.declared.LevelsError.TheVariants.{ScratchSize}
use Rattle.packed.specs.Lengths.{levels_of, levels_scratch}
use Rattle.packed.specs.Answers.{number_of, held_of}
use Rattle.levels.specs.Lines.{packed_line, padded_lines}

-- the first test that fails, of n samples, f taps, a packed buffer of p and a scratch of s: up to 10, then 5
unfoldable pub answer_of : ℕ → ℕ → ℕ → ℕ → ℕ → Result ⊤ LevelsError
answer_of n f levels p s = and_then number_of (held_of n f levels p) (cond (ltb s (levels_scratch n f)) (Err (ScratchSize (levels_scratch n f) s)) (Ok tt))

-- by the first f of either tap list, under a border: of a bank its arrays, count and border
pub record Analysed (low high : List Float) (f : ℕ) (b : Border) (line : List Float) (levels : ℕ) (packed scratch : List Float) (r : Result ⊤ LevelsError) (packed' scratch' : List Float) : Type 0 where
  pub answer : r ≡ answer_of (length line) f levels (length packed) (length scratch)
  pub packs : packed' ≡ when_done (number_of r) (packed_line binary64 low high f b line (levels_of levels)) packed
  pub scratched : scratch' ≡ when_done (number_of r) (padded_lines binary64 low f b line (levels_of levels) scratch) scratch
