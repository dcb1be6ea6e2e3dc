-- One line on lists: its padded form and its bands. Definitions only.
-- The taps are the first F of their list, since a bank keeps them in an array of 64.
use Rattle.std.specs.Prelude.{List, ℕ, ◌-◌, length, Float}
use Rattle.std.specs.Float.{Format}
use Rattle.numbers.specs.Words.{plus_zero, at, tab, written}
use Rattle.border.specs.declared.Border.{Border}
use Rattle.border.specs.Rule.{padded}
use Rattle.analysis.specs.Sums.{analysed}
use Rattle.bank.specs.Lengths.{padded_length, pairs}

-- place q of the line padded for F taps: F - 2 places stand in front
abbrev pub padded_at : ℕ → Border → List Float → ℕ → Float
padded_at F b s = padded plus_zero b s (F - 2)

-- a scratch that begins with the padded line and is as it was beyond it
abbrev pub padded_into : ℕ → Border → List Float → List Float → List Float
padded_into F b s scratch = written (padded_at F b s) (padded_length (length s) F) scratch

-- the band that one tap list makes of the samples
unfoldable pub band : Format → List Float → ℕ → Border → List Float → List Float
unfolding analysed
band f taps F b s = tab (analysed f F (at taps) (padded_at F b s)) (pairs (length s) F)
