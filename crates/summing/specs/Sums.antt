-- The sum of taps over a line in a format f: each product is rounded, then each sum. Definitions only.
-- Taps and lines are functions from a place to a float; a list is read so by `at`.
use Rattle.std.specs.Prelude.{List, ℕ, zero, suc, ◌+◌, ◌≤◌, Float}
use Rattle.std.specs.Float.{Format}
use Rattle.std.specs.Float.Ieee.{add, mul}
use Rattle.numbers.specs.Words.{plus_zero, at}

-- starts at +0 and adds tap j times line place j, j rising, n of them
unfoldable pub dot : Format → (ℕ → Float) → (ℕ → Float) → ℕ → Float
dot f tap x zero = plus_zero
dot f tap x (suc j) = add f (dot f tap x j) (mul f (tap j) (x j))

-- the sum of k taps over a line that holds the padded samples, from a place of it on
unfoldable pub tap_sum : Format → List Float → List Float → ℕ → ℕ → Float
unfolding dot
tap_sum f taps line from k = dot f (at taps) (λ j. at line (from + j)) k

-- the first f of two lists of taps, over a padded line from a place on
pub record Placeable (f low high padded from : ℕ) : Type 0 where
  pub lows : f ≤ low
  pub highs : f ≤ high
  pub within : from + f ≤ padded
