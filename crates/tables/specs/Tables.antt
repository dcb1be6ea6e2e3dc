-- Tables of floats: lines one after another in one list, and one place of several lines taken together. Definitions only.
use Rattle.std.specs.Prelude.{List, [], ◌++◌, ℕ, zero, suc, ◌+◌, ◌*◌, Bool, ◌||◌, ltb, take, drop, Float}
use Rattle.numbers.specs.Words.{longest, largest, at, tab}

-- over 1,048,576 columns or rows, or 16,777,216 numbers
unfoldable pub too_large : ℕ → ℕ → Bool
too_large w h = ltb longest w || (ltb longest h || ltb largest (w * h))

-- line k of a list that holds lines of n numbers one after another
abbrev pub line_of : ℕ → List Float → ℕ → List Float
line_of n x k = take n (drop (k * n) x)

-- so many lines one after another: of lines of n numbers, place r of line c is at c n + r
unfoldable pub stored : (ℕ → List Float) → ℕ → List Float
stored line zero = []
stored line (suc c) = stored line c ++ line c

-- place k of each of the first n lines: a column of rows, or a row of columns
unfoldable pub crossing : (ℕ → List Float) → ℕ → ℕ → List Float
unfolding tab
crossing line n k = tab (λ r. at (line r) k) n

-- a list that begins with so many lines of n numbers, with their crossings behind them and the rest as it was
abbrev pub crossed : ℕ → ℕ → List Float → List Float
crossed lines n x = take (lines * n) x ++ (stored (crossing (line_of n x) lines) n ++ drop (lines * n + lines * n) x)
