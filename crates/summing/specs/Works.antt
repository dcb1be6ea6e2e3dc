-- The sums of several places of a band, in one list. Definitions only.
use Rattle.std.specs.Prelude.{List, ℕ, ◌+◌, ◌*◌, Float}
use Rattle.std.specs.Float.{Format}
use Rattle.std.specs.Float.Ieee.{add, mul}
use Rattle.numbers.specs.Words.{at}
use Rattle.summing.specs.Sums.{tap_sum}

-- sum q of several after one tap more
abbrev pub tapped : Format → List Float → Float → List Float → ℕ → ℕ → Float
tapped f given tap line from q = add f (at given q) (mul f tap (at line (from + 2 * q)))

-- sum q of several after n taps
abbrev pub sums_at : Format → List Float → List Float → ℕ → ℕ → ℕ → Float
sums_at f taps line from n q = tap_sum f taps line (from + 2 * q) n
