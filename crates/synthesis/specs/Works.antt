-- What the functions that entries share ask for, and what they leave of a part of the work. Definitions only.
use Rattle.std.specs.Prelude.{◌≡◌, List, ℕ, ◌+◌, ◌-◌, ◌*◌, ◌%◌, ◌≤◌, length, Float}
use Rattle.std.specs.Float.{Format}
use Rattle.numbers.specs.Words.{longest, at, replaced}
use Rattle.synthesis.specs.Sums.{joined}

-- bands that are joined into an output of the ruled length
pub record Joinable (f approx detail out : ℕ) : Type 0 where
  pub two : 2 ≤ f
  pub most : f ≤ 64
  pub even : f % 2 ≡ 0
  pub few : approx ≤ longest
  pub both : detail ≡ approx
  pub ruled : out + f ≡ 2 * approx + 2

-- the same with the lists that hold the taps, at their fronts
pub record Taking (f low high approx detail out : ℕ) : Type 0 where
  pub all : Joinable f approx detail out
  pub lows : f ≤ low
  pub highs : f ≤ high

-- place p of an output after all pairs
unfoldable pub place_of : Format → ℕ → List Float → List Float → List Float → List Float → List Float → ℕ → Float
unfolding joined
place_of f F low high a d out p = joined f F (at low) (at high) (at a) (at d) (p + (F - 2)) (at out p) (length a)

-- that output after all pairs at its places from 2 k to 2 k', the rest as it was
abbrev pub joined_from : Format → ℕ → List Float → List Float → List Float → List Float → ℕ → ℕ → List Float → List Float
joined_from f F low high a d k k' out = replaced (place_of f F low high a d out) (2 * k) (2 * (k' - k)) out
