-- Lengths for n samples, m pairs and f taps (RULES, Lengths and sums). Definitions only.
use Rattle.std.specs.Prelude.{◌≡◌, Bool, not, ◌||◌, ℕ, ◌+◌, ◌-◌, ◌*◌, ◌/◌, ◌%◌, ◌≤◌, ltb, eqb}
use Rattle.numbers.specs.Words.{longest}

-- tap lists that are odd, empty or over 64
unfoldable pub bad_taps : ℕ → Bool
bad_taps f = not (eqb (f % 2) 0) || eqb f 0 || ltb 64 f

-- m, the numbers in each band
abbrev pub pairs : ℕ → ℕ → ℕ
pairs n f = (n + f - 1) / 2

-- whole padding
abbrev pub whole_pad : ℕ → ℕ → ℕ
whole_pad n f = 2 * pairs n f + f - 2 - n

-- its left part, half of it rounded down, and its right part, the rest
abbrev pub left_pad : ℕ → ℕ → ℕ
left_pad n f = whole_pad n f / 2

abbrev pub right_pad : ℕ → ℕ → ℕ
right_pad n f = whole_pad n f - left_pad n f

-- the padded samples that m pairs span
abbrev pub spanned : ℕ → ℕ → ℕ
spanned m f = 2 * m + f - 2

-- the samples with all of their padding
abbrev pub padded_length : ℕ → ℕ → ℕ
padded_length n f = spanned (pairs n f) f

-- the places that synthesis gives
abbrev pub line_length : ℕ → ℕ → ℕ
line_length m f = 2 * m + 2 - f

-- taps that are neither odd, none nor over 64
pub record GoodTaps (f : ℕ) : Type 0 where
  pub even : f % 2 ≡ 0
  pub two : 2 ≤ f
  pub most : f ≤ 64

-- n samples, or pairs, and f taps past 12 and 11
pub record Sound (n f : ℕ) : Type 0 where
  pub taps : GoodTaps f
  pub limit : n ≤ longest

-- n samples and f taps past 12, 11 and 1
pub record Analysable (n f : ℕ) : Type 0 where
  pub taps : GoodTaps f
  pub limit : n ≤ longest
  pub enough : f ≤ n

-- two lists that are lent: the first f of either are the taps
pub record Lent (f low high : ℕ) : Type 0 where
  pub lows : f ≤ low
  pub highs : f ≤ high

-- a count told beside two lists: if it passes the test of taps, they may be lent with it
abbrev pub Counted : ℕ → ℕ → ℕ → Type 0
Counted f low high = GoodTaps f → Lent f low high
