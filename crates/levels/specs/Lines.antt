-- Levels of a line, by recursion over the levels from the bands of one line. Definitions only.
-- The taps are the first F of their list, since a bank keeps them in an array of 64.
use Rattle.std.specs.Prelude.{List, [], ◌++◌, ℕ, zero, suc, Float}
use Rattle.std.specs.Float.{Format}
use Rattle.border.specs.declared.Border.{Border}
use Rattle.analysis.specs.Lines.{band, padded_into}

-- the line that k levels leave: the last level's approximations
unfoldable pub line_of : Format → List Float → ℕ → Border → List Float → ℕ → List Float
line_of g low F b s zero = s
line_of g low F b s (suc k) = band g low F b (line_of g low F b s k)

-- details 1, details 2 and so on, of k levels
unfoldable pub details_of : Format → List Float → List Float → ℕ → Border → List Float → ℕ → List Float
unfolding line_of
details_of g low high F b s zero = []
details_of g low high F b s (suc k) = details_of g low high F b s k ++ band g high F b (line_of g low F b s k)

-- and then the last approximations
abbrev pub packed_line : Format → List Float → List Float → ℕ → Border → List Float → ℕ → List Float
packed_line g low high F b s k = details_of g low high F b s k ++ line_of g low F b s k

-- a scratch in which each level's padded line was written over the one before
unfoldable pub padded_lines : Format → List Float → ℕ → Border → List Float → ℕ → List Float → List Float
unfolding line_of
padded_lines g low F b s zero scratch = scratch
padded_lines g low F b s (suc k) scratch = padded_into F b (line_of g low F b s k) (padded_lines g low F b s k scratch)
