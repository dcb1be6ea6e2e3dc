-- What the functions of a block ask for, and what they leave. Definitions only.
use Rattle.std.specs.Prelude.{◌≡◌, List, ℕ, zero, suc, ◌+◌, ◌-◌, ◌*◌, ◌≤◌, ◌<◌, length, Float}
use Rattle.std.specs.Float.{Format}
use Rattle.numbers.specs.Words.{at}
use Rattle.gathering.specs.Pairs.{onto}

-- tap j of two lists, and sixteen pairs from i on
pub record Adding (j i low high approx detail : ℕ) : Type 0 where
  pub lows : j < low
  pub highs : j < high
  pub approxes : i + 16 ≤ approx
  pub details : i + 16 ≤ detail

-- half as many pairs as taps from k on, and from each of the fifteen behind, by every second tap down from the last
pub record Gatherable (last half k low high approx detail : ℕ) : Type 0 where
  pub taps : 2 * half ≤ last + 2
  pub lows : last < low
  pub highs : last < high
  pub approxes : k + half + 15 ≤ approx
  pub details : k + half + 15 ≤ detail

-- new is old with n of the sums at from, from + 2 and so on
pub record Seconds (from : ℕ) (sums old new : List Float) (n : ℕ) : Type 0 where
  pub kept : length new ≡ length old
  pub put : (q : ℕ) → q < n → at new (from + 2 * q) ≡ at sums q
  pub rest : (p : ℕ) → ((q : ℕ) → q < n → p ≡ from + 2 * q → ⊥) → at new p ≡ at old p

-- s pairs from k on, rising, by tap `last` and every second one before it, onto what was held
unfoldable pub gathered : Format → (ℕ → Float) → (ℕ → Float) → (ℕ → Float) → (ℕ → Float) → ℕ → ℕ → Float → ℕ → Float
gathered f low high a d last k held zero = held
gathered f low high a d last k held (suc s) = onto f low high (last - 2 * s) (a (k + s)) (d (k + s)) (gathered f low high a d last k held s)

module _ (f : Format) (low high a d : List Float) where
  -- sum q of several after tap j of its own pair, which is pair i + q
  abbrev pub onto_at : ℕ → ℕ → List Float → ℕ → Float
  onto_at j i sums q = onto f (at low) (at high) j (at a (i + q)) (at d (i + q)) (at sums q)

  -- sum q of several after s pairs, from pair k + q on
  unfoldable pub gathered_at : ℕ → ℕ → List Float → ℕ → ℕ → Float
  unfolding gathered
  gathered_at last k held s q = gathered f (at low) (at high) (at a) (at d) last (k + q) (at held q) s
