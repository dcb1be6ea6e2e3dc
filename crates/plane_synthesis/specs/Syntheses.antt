-- Synthesis of a plane: the answer, and what every lent buffer then holds. Definitions only.
use Rattle.std.specs.Prelude.{◌≡◌, cond, not, List, ℕ, eqb, length, ⊤, Result, Ok, Err, Float}
use Rattle.std.specs.Float.{binary64}
use Rattle.numbers.specs.Words.{when_done, and_then}
use Rattle.bank.specs.Lengths.{pairs, line_length}
use Rattle.planes.specs.declared.PlanesError.{PlanesError}
use Rattle.planes.specs.declared.PlanesError.TheVariants.{OutputSizeIsNotValid}
use Rattle.planes.specs.Lengths.{band_length, plane_scratch}
use Rattle.planes.specs.Answers.{number_of, held_of, bands_of, Scratched}
use Rattle.plane_synthesis.specs.Joins.{plane_joined}

-- 4 for a side that synthesis doesn't give: an odd one, which it gives one place more
abbrev pub sides_of : ℕ → ℕ → ℕ → Result ⊤ PlanesError
sides_of w h f =
    cond (not (eqb h (line_length (pairs h f) f))) (Err (OutputSizeIsNotValid h (line_length (pairs h f) f)))
    (cond (not (eqb w (line_length (pairs w f) f))) (Err (OutputSizeIsNotValid w (line_length (pairs w f) f)))
    (Ok tt))

-- 12, 7, 11, 10 for the target, 10 for the scratch, then 2 for each band in turn, 4 for the height, and 4 for the width
unfoldable pub answer_of : ℕ → ℕ → ℕ → ℕ → ℕ → ℕ → ℕ → ℕ → ℕ → Result ⊤ PlanesError
answer_of w h f p s ll lh hl hh = and_then number_of (and_then number_of (held_of w h f p s) (bands_of (band_length w h f) ll lh hl hh)) (sides_of w h f)

-- by the first f of either tap list: of a bank its arrays and count
pub record Synthesised (low high : List Float) (f : ℕ) (ll lh hl hh : List Float) (w h : ℕ) (plane scratch : List Float) (r : Result ⊤ PlanesError) (plane' scratch' : List Float) : Type 0 where
  pub answer : r ≡ answer_of w h f (length plane) (length scratch) (length ll) (length lh) (length hl) (length hh)
  pub joined : plane' ≡ when_done (number_of r) (plane_joined binary64 f low high w h ll lh hl hh) plane
  pub scratched : Scratched (number_of r) (plane_scratch w h f) scratch scratch'
