-- What the functions that entries share ask for, and what they leave of a part of the work. Definitions only.
use Rattle.std.specs.Prelude.{◌≡◌, List, ◌++◌, ℕ, ◌+◌, ◌*◌, ◌≤◌, length, take, drop, Float}
use Rattle.std.specs.Float.{Format}
use Rattle.border.specs.declared.Border.{Border}
use Rattle.bank.specs.Lengths.{pairs, padded_length, Analysable}
use Rattle.analysis.specs.Lines.{band}
use Rattle.tables.specs.Tables.{line_of, stored}
use Rattle.planes.specs.Lengths.{band_length, plane_scratch}
use Rattle.planes.specs.Works.{Held, Banded}
use Rattle.plane_analysis.specs.Bands.{row_band, plane_band}

-- both bands of a row, the approximations first
abbrev pub row_bands : Format → List Float → List Float → ℕ → Border → List Float → ℕ → ℕ → List Float
row_bands g low high F b plane w r = row_band g low F b plane w r ++ row_band g high F b plane w r

-- h rows of w, of m pairs each, in a plane of p numbers; a scratch of s takes their bands from its front and the padded row from `start` on
pub record Rowing (f w h m p s start : ℕ) : Type 0 where
  pub ready : Analysable w f
  pub filled : p ≡ h * w
  pub many : m ≡ pairs w f
  pub before : h * (m + m) ≤ start
  pub room : start + padded_length w f ≤ s

-- what the rows leave of the scratch
pub record Rowed (g : Format) (low high : List Float) (F : ℕ) (b : Border) (plane : List Float) (w h m end : ℕ) (old new : List Float) : Type 0 where
  pub long : length new ≡ length old
  pub front : take (h * (m + m)) new ≡ stored (row_bands g low high F b plane w) h
  pub beyond : drop end new ≡ drop end old

-- m lines of h numbers in a scratch of s from `base` on, with the padded line from `start` on; their bands have lengths lo and hi
pub record Columning (f base m h start s lo hi : ℕ) : Type 0 where
  pub ready : Analysable h f
  pub lows : lo ≡ m * pairs h f
  pub highs : hi ≡ m * pairs h f
  pub before : base + m * h ≤ start
  pub room : start + padded_length h f ≤ s

-- the bands by one tap list of m lines of h numbers that lie in a list from `base` on, one after another
abbrev pub line_bands : Format → List Float → ℕ → Border → ℕ → ℕ → ℕ → List Float → List Float
line_bands g taps F b base m h x = stored (λ c. band g taps F b (line_of h (drop base x) c)) m

-- what the columns leave of the scratch
pub record Still (start end : ℕ) (old new : List Float) : Type 0 where
  pub long : length new ≡ length old
  pub front : take start new ≡ take start old
  pub beyond : drop end new ≡ drop end old

-- a plane that passes every test
pub record Analysing (w h f p s ll lh hl hh : ℕ) : Type 0 where
  pub held : Held w h f p s
  pub wide : f ≤ w
  pub high : f ≤ h
  pub bands : Banded (band_length w h f) ll lh hl hh

-- what that gives
pub record Split (g : Format) (low high : List Float) (F : ℕ) (b : Border) (plane : List Float) (w h : ℕ) (scratch ll lh hl hh scratch' : List Float) : Type 0 where
  pub lls : ll ≡ plane_band g low low F b plane w h
  pub lhs : lh ≡ plane_band g low high F b plane w h
  pub hls : hl ≡ plane_band g high low F b plane w h
  pub hhs : hh ≡ plane_band g high high F b plane w h
  pub long : length scratch' ≡ length scratch
  pub beyond : drop (plane_scratch w h F) scratch' ≡ drop (plane_scratch w h F) scratch
