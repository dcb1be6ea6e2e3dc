-- A plane from its four bands: columns first, then rows, each join from +0. Definitions only.
use Rattle.std.specs.Prelude.{List, ℕ, Float}
use Rattle.std.specs.Float.{Format}
use Rattle.bank.specs.Lengths.{pairs}
use Rattle.synthesis.specs.Lines.{join_of}
use Rattle.tables.specs.Tables.{line_of, stored, crossing}

-- the columns joined, h tall: a table with the join of column c of two bands
abbrev pub column_join : Format → ℕ → List Float → List Float → ℕ → List Float → List Float → ℕ → List Float
column_join g F low high h lo hi c = join_of g F low high h (line_of (pairs h F) lo c) (line_of (pairs h F) hi c)

-- the rows joined over those tables: LL with LH gives the row approximations, HL with HH the row details
abbrev pub row_join : Format → ℕ → List Float → List Float → ℕ → ℕ → List Float → List Float → List Float → List Float → ℕ → List Float
row_join g F low high w h ll lh hl hh r =
    join_of g F low high w (crossing (column_join g F low high h ll lh) (pairs w F) r) (crossing (column_join g F low high h hl hh) (pairs w F) r)

-- the plane: its rows one after another
unfoldable pub plane_joined : Format → ℕ → List Float → List Float → ℕ → ℕ → List Float → List Float → List Float → List Float → List Float
unfolding stored
plane_joined g F low high w h ll lh hl hh = stored (row_join g F low high w h ll lh hl hh) h
