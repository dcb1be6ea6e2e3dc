-- Restoring several levels: the answers, and what both buffers and the part handed out then hold. Definitions only.
-- The enum with its numbers and values stands in `packed` (Answers).
use Rattle.std.specs.Prelude.{◌≡◌, cond, List, [], ℕ, ◌%◌, eqb, ltb, length, Result, Ok, Err, ⊤, Float}
use Rattle.std.specs.Float.{binary64}
use Rattle.std.specs.Borrow.{MutBor}
use Rattle.numbers.specs.Words.{when_done, and_then}
use Rattle.packed.specs.declared.LevelsError.{LevelsError}
use Rattle.packed.specs.declared.LevelsError.TheVariants.{ScratchSize}
use Rattle.packed.specs.Lengths.{levels_of, restoring_length}
use Rattle.packed.specs.Answers.{number_of, held_of}
use Rattle.restoring.specs.Lines.{restored, first_after, second_after}

-- the first test that fails, of n samples, f taps, a packed buffer of p and work buffers of a and b: up to 10, then 5 for each
unfoldable pub answer_of : ℕ → ℕ → ℕ → ℕ → ℕ → ℕ → Result ⊤ LevelsError
answer_of n f levels p a b =
    and_then number_of (held_of n f levels p)
    (cond (ltb a (restoring_length n f)) (Err (ScratchSize (restoring_length n f) a))
    (cond (ltb b (restoring_length n f)) (Err (ScratchSize (restoring_length n f) b))
    (Ok tt)))

-- by the first f of either tap list: of a bank its arrays and count
pub record Restored (low high : List Float) (f : ℕ) (packed : List Float) (n levels : ℕ) (first second : List Float) (r : Result ⊤ LevelsError) (first' second' : List Float) : Type 0 where
  pub answer : r ≡ answer_of n f levels (length packed) (length first) (length second)
  pub firsts : first' ≡ when_done (number_of r) (first_after binary64 f low high packed n (levels_of levels) (levels_of levels) first) first
  pub seconds : second' ≡ when_done (number_of r) (second_after binary64 f low high packed n (levels_of levels) (levels_of levels) second) second

-- the line, and the empty part on a refusal: its numbers, and that it lies at the front of the buffer that holds the line, of the first on a refusal
pub record HandedOut (low high : List Float) (f : ℕ) (packed : List Float) (n levels : ℕ) (first second part : MutBor (List Float)) : Type 0 where
  pub handed : part.now ≡ when_done (number_of (answer_of n f levels (length packed) (length first.now) (length second.now)))
      (restored binary64 f low high packed n (levels_of levels)) []
  pub lies : part.ref_ptr ≡ when_done (number_of (answer_of n f levels (length packed) (length first.now) (length second.now)))
      (cond (eqb (levels_of levels % 2) 0) second.ref_ptr first.ref_ptr) first.ref_ptr
