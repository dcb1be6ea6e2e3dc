-- What the functions that entries share ask for, and the line that a level finds. Definitions only.
use Rattle.std.specs.Prelude.{cond, List, ℕ, ◌+◌, ◌≤◌, eqb, take, drop, Float}
use Rattle.analysis.specs.Works.{Padding}
use Rattle.packed.specs.Lengths.{levels_scratch}
use Rattle.packed.specs.Works.{Filled}

-- what level k + 1 splits: the line for the first level, else the n samples at `start` in the packed buffer
abbrev pub line_held : List Float → List Float → ℕ → ℕ → ℕ → List Float
line_held line packed k start n = cond (eqb k 0) line (take n (drop start packed))

-- a packed buffer that holds n samples from `start` on, and a scratch for them or the line padded
pub record Held (f line packed start n scratch : ℕ) : Type 0 where
  pub first : Padding f line scratch
  pub next : Padding f n scratch
  pub inside : start + n ≤ packed

-- n samples, f taps, one level or more, a packed buffer of p and a scratch of s that pass every test
pub record Splitting (n f levels p s : ℕ) : Type 0 where
  pub packs : Filled n f levels p
  pub room : levels_scratch n f ≤ s
