-- Analysis of a plane: the answer, and what every lent buffer then holds. Definitions only.
use Rattle.std.specs.Prelude.{◌≡◌, cond, List, ℕ, ltb, length, ⊤, Result, Err, Float}
use Rattle.std.specs.Float.{binary64}
use Rattle.numbers.specs.Words.{when_done, and_then}
use Rattle.border.specs.declared.Border.{Border}
use Rattle.planes.specs.declared.PlanesError.{PlanesError}
use Rattle.planes.specs.declared.PlanesError.TheVariants.{MinFilterSize}
use Rattle.planes.specs.Lengths.{band_length, plane_scratch}
use Rattle.planes.specs.Answers.{number_of, held_of, bands_of, Scratched}
use Rattle.plane_analysis.specs.Bands.{plane_band}

-- 12, 7, 11, 10 for the plane, 10 for the scratch, then 1 for the width, 1 for the height, and 2 for each band in turn
unfoldable pub answer_of : ℕ → ℕ → ℕ → ℕ → ℕ → ℕ → ℕ → ℕ → ℕ → Result ⊤ PlanesError
answer_of w h f p s ll lh hl hh =
    and_then number_of (held_of w h f p s)
    (cond (ltb w f) (Err (MinFilterSize w f))
    (cond (ltb h f) (Err (MinFilterSize h f))
    (bands_of (band_length w h f) ll lh hl hh)))

-- by the first f of either tap list, under a border: of a bank its arrays, count and border; LL and LH come from the row approximations, HL and HH from the row details
pub record Analysed (low high : List Float) (f : ℕ) (b : Border) (plane : List Float) (w h : ℕ) (ll lh hl hh scratch : List Float) (r : Result ⊤ PlanesError) (ll' lh' hl' hh' scratch' : List Float) : Type 0 where
  pub answer : r ≡ answer_of w h f (length plane) (length scratch) (length ll) (length lh) (length hl) (length hh)
  pub lls : ll' ≡ when_done (number_of r) (plane_band binary64 low low f b plane w h) ll
  pub lhs : lh' ≡ when_done (number_of r) (plane_band binary64 low high f b plane w h) lh
  pub hls : hl' ≡ when_done (number_of r) (plane_band binary64 high low f b plane w h) hl
  pub hhs : hh' ≡ when_done (number_of r) (plane_band binary64 high high f b plane w h) hh
  pub scratched : Scratched (number_of r) (plane_scratch w h f) scratch scratch'
