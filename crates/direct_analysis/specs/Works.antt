-- What the functions behind the entry ask for, and what they leave of a part of the work. Definitions only.
use Rattle.std.specs.Prelude.{◌≡◌, List, ℕ, ◌+◌, ◌-◌, ◌*◌, ◌≤◌, ◌<◌, Float}
use Rattle.std.specs.Float.{Format}
use Rattle.numbers.specs.Words.{at}
use Rattle.border.specs.declared.Border.{Border}
use Rattle.bank.specs.Lengths.{pairs, padded_length, Lent, Analysable}
use Rattle.summing.specs.Sums.{dot}
use Rattle.analysis.specs.Lines.{padded_at}

-- place q of a line of n padded for f taps
pub record Asking (f n q : ℕ) : Type 0 where
  pub ready : Analysable n f
  pub within : q < padded_length n f

-- f taps over such places from `from` on
pub record Reading (f low high n from : ℕ) : Type 0 where
  pub lent : Lent f low high
  pub ready : Analysable n f
  pub within : from + f ≤ padded_length n f

-- f taps over the samples themselves from `from` on, and from two further on
pub record Lying (f low high n from : ℕ) : Type 0 where
  pub lent : Lent f low high
  pub within : from + 2 + f ≤ n

-- f taps, a line of n and bands of a and d that pass every test
pub record Direct (f low high n a d : ℕ) : Type 0 where
  pub lent : Lent f low high
  pub ready : Analysable n f
  pub approxed : a ≡ pairs n f
  pub detailed : d ≡ pairs n f

-- k taps over the padded samples from a place on, and over the samples themselves
abbrev pub ruled_sum : Format → List Float → ℕ → Border → List Float → ℕ → ℕ → Float
ruled_sum w taps f b line from k = dot w (at taps) (λ j. padded_at f b line (from + j)) k

abbrev pub line_sum : Format → List Float → List Float → ℕ → ℕ → Float
line_sum w taps line from k = dot w (at taps) (λ j. at line (from + j)) k

-- place i of the band, and of one whose samples all lie in the line
abbrev pub ruled_at : Format → List Float → ℕ → Border → List Float → ℕ → Float
ruled_at w taps f b line i = ruled_sum w taps f b line (2 * i) f

abbrev pub line_at : Format → List Float → ℕ → List Float → ℕ → Float
line_at w taps f line i = line_sum w taps line (2 * i + 2 - f) f
