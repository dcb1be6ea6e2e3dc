-- What the functions that entries share ask for, and what they leave of a part of the work. Definitions only.
use Rattle.std.specs.Prelude.{◌≡◌, ◌⊎◌, List, ◌++◌, ℕ, ◌+◌, ◌*◌, ◌≤◌, ◌<◌, length, take, drop, Float}
use Rattle.std.specs.Float.{Format}
use Rattle.numbers.specs.Words.{at, tab, placed}
use Rattle.summing.specs.Sums.{tap_sum}
use Rattle.bank.specs.Lengths.{pairs, spanned, padded_length, Sound, Analysable}

-- place i of the band
abbrev pub band_of : Format → List Float → ℕ → List Float → ℕ → Float
band_of f taps F line i = tap_sum f taps line (2 * i) F

-- two bands of a padded line
pub record Bandable (f low high padded approx detail : ℕ) : Type 0 where
  pub lows : f ≤ low
  pub highs : f ≤ high
  pub both : detail ≡ approx
  pub within : 2 * approx + f ≤ padded + 2

-- two bands of m places in one buffer
pub record Beside (f low high padded both m : ℕ) : Type 0 where
  pub lows : f ≤ low
  pub highs : f ≤ high
  pub filled : both ≡ m + m
  pub within : 2 * m + f ≤ padded + 2

-- a padded line of m pairs in a list of s from `from` on, and both bands before it from `to` on
pub record Inside (f low high s from to m : ℕ) : Type 0 where
  pub lows : f ≤ low
  pub highs : f ≤ high
  pub sound : Sound m f
  pub before : to + (m + m) ≤ from
  pub within : from + spanned m f ≤ s

-- the padded line of m pairs that lies in a list from `from` on
abbrev pub line_at : ℕ → ℕ → ℕ → List Float → List Float
line_at f from m x = take (spanned m f) (drop from x)

-- that list with both bands in place, the approximations before the details, and the rest as it was
abbrev pub both_placed : Format → List Float → List Float → ℕ → ℕ → ℕ → ℕ → List Float → List Float
both_placed g low high F from to m x =
    let line = line_at F from m x in
    placed (at (tab (band_of g low F line) m ++ tab (band_of g high F line) m)) to (m + m) x

-- i places of either band stand, and what lies apart from both is as it was
pub record Halves (g h : ℕ → Float) (to m i : ℕ) (x s : List Float) : Type 0 where
  pub long : length s ≡ length x
  pub first : (j : ℕ) → j < i → at s (to + j) ≡ g j
  pub second : (j : ℕ) → j < i → at s (to + m + j) ≡ h j
  pub apart : (j : ℕ) → (j < to) ⊎ (to + (m + m) ≤ j) → at s j ≡ at x j

-- f taps and a line of n to be padded, and a scratch of s
pub record Padding (f n s : ℕ) : Type 0 where
  pub ready : Analysable n f
  pub room : padded_length n f ≤ s

-- f taps and a line of n to be padded that lies in a list of s from `from` on, and behind it, from `to` on, the padded line
pub record PaddingWithin (f n s from to : ℕ) : Type 0 where
  pub ready : Analysable n f
  pub before : from + n ≤ to
  pub room : to + padded_length n f ≤ s

-- f taps, a line of n, bands of a and d and a scratch of s that pass every test
pub record Analysing (f n a d s : ℕ) : Type 0 where
  pub ready : Analysable n f
  pub approxed : a ≡ pairs n f
  pub detailed : d ≡ pairs n f
  pub room : padded_length n f ≤ s
