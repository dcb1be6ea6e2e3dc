-- What tests that passed give the work. Definitions only.
use Rattle.std.specs.Prelude.{◌≡◌, ℕ, ◌*◌, ◌≤◌}
use Rattle.numbers.specs.Words.{longest, largest}
use Rattle.bank.specs.Lengths.{GoodTaps}
use Rattle.planes.specs.Lengths.{plane_scratch}

-- a plane of w by h and f taps past 12, 7 and 11
pub record Sided (w h f : ℕ) : Type 0 where
  pub taps : GoodTaps f
  pub wide : 1 ≤ w
  pub high : 1 ≤ h
  pub across : w ≤ longest
  pub down : h ≤ longest
  pub product : w * h ≤ largest

-- and past both 10
pub record Held (w h f p s : ℕ) : Type 0 where
  pub sides : Sided w h f
  pub filled : p ≡ w * h
  pub room : plane_scratch w h f ≤ s

-- four bands of a length
pub record Banded (l ll lh hl hh : ℕ) : Type 0 where
  pub first : ll ≡ l
  pub second : lh ≡ l
  pub third : hl ≡ l
  pub fourth : hh ≡ l
