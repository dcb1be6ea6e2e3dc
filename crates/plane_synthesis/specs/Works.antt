-- What the functions that entries share ask for, and what they leave of a part of the work. Definitions only.
use Rattle.std.specs.Prelude.{◌≡◌, List, ℕ, ◌+◌, ◌*◌, ◌%◌, ◌≤◌, ◌<◌, length, take, drop, Float}
use Rattle.std.specs.Float.{Format}
use Rattle.numbers.specs.Words.{longest}
use Rattle.bank.specs.Lengths.{GoodTaps, pairs}
use Rattle.synthesis.specs.Lines.{join_of}
use Rattle.planes.specs.Lengths.{band_length, plane_scratch}
use Rattle.planes.specs.Works.{Sided, Held, Banded}
use Rattle.tables.specs.Tables.{line_of}
use Rattle.plane_synthesis.specs.Joins.{plane_joined}

-- a plane of w by h whose sides synthesis gives
pub record Even (w h f : ℕ) : Type 0 where
  pub sides : Sided w h f
  pub wide : w % 2 ≡ 0
  pub high : h % 2 ≡ 0

-- two lists of lengths lo and hi that hold the bands of so many lines of n places, `step` numbers further for each, and an output that takes the lines
pub record Joins (f lo hi step n count out : ℕ) : Type 0 where
  pub taps : GoodTaps f
  pub some : 1 ≤ n
  pub few : n ≤ longest
  pub even : n % 2 ≡ 0
  pub lows : (c : ℕ) → c < count → c * step + pairs n f ≤ lo
  pub highs : (c : ℕ) → c < count → c * step + pairs n f ≤ hi
  pub room : out ≡ count * n

-- line c of them joined
abbrev pub step_join : Format → ℕ → List Float → List Float → ℕ → ℕ → List Float → List Float → ℕ → List Float
step_join g F low high step n lo hi c = join_of g F low high n (take (pairs n F) (drop (c * step) lo)) (take (pairs n F) (drop (c * step) hi))

-- two bands of lengths lo and hi, and an output that takes their columns, joined
pub record Columning (w h f lo hi out : ℕ) : Type 0 where
  pub even : Even w h f
  pub lows : lo ≡ band_length w h f
  pub highs : hi ≡ band_length w h f
  pub filled : out ≡ pairs w f * h

-- h rows of bands, each approximations before details, and a plane of p
pub record Rowing (w h f bands p : ℕ) : Type 0 where
  pub even : Even w h f
  pub held : bands ≡ h * (pairs w f + pairs w f)
  pub filled : p ≡ w * h

-- row r of them joined: the first m numbers of its line are its approximations, the rest its details
abbrev pub row_held : Format → ℕ → List Float → List Float → ℕ → ℕ → List Float → ℕ → List Float
row_held g F low high w m x r = join_of g F low high w (take m (line_of (m + m) x r)) (drop m (line_of (m + m) x r))

-- a plane that passes every test
pub record Synthesising (w h f p s ll lh hl hh : ℕ) : Type 0 where
  pub held : Held w h f p s
  pub bands : Banded (band_length w h f) ll lh hl hh
  pub even : Even w h f

-- what that gives
pub record Joined (g : Format) (F : ℕ) (low high : List Float) (w h : ℕ) (ll lh hl hh scratch plane scratch' : List Float) : Type 0 where
  pub joined : plane ≡ plane_joined g F low high w h ll lh hl hh
  pub long : length scratch' ≡ length scratch
  pub beyond : drop (plane_scratch w h F) scratch' ≡ drop (plane_scratch w h F) scratch
