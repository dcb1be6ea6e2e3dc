-- The four bands of a plane: rows first, then columns. Definitions only.
-- A plane of w by h numbers is its h rows one after another.
use Rattle.std.specs.Prelude.{List, ℕ, Float}
use Rattle.std.specs.Float.{Format}
use Rattle.border.specs.declared.Border.{Border}
use Rattle.bank.specs.Lengths.{pairs}
use Rattle.analysis.specs.Lines.{band}
use Rattle.tables.specs.Tables.{line_of, stored, crossing}

-- the rows' bands by one tap list: a table with the one-line band of each row
abbrev pub row_band : Format → List Float → ℕ → Border → List Float → ℕ → ℕ → List Float
row_band g taps F b plane w r = band g taps F b (line_of w plane r)

-- the columns' bands over that table: `across` makes the rows' bands, `down` those of the columns, h tall
abbrev pub column_band : Format → List Float → List Float → ℕ → Border → List Float → ℕ → ℕ → ℕ → List Float
column_band g across down F b plane w h c = band g down F b (crossing (row_band g across F b plane w) h c)

-- a band of the plane: its columns one after another, so that with B places in each, place r of column c is at c B + r
unfoldable pub plane_band : Format → List Float → List Float → ℕ → Border → List Float → ℕ → ℕ → List Float
unfolding stored
plane_band g across down F b plane w h = stored (column_band g across down F b plane w h) (pairs w F)
