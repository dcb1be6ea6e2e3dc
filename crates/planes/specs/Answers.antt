-- Planes: the answers with their numbers, the tests that analysis and synthesis share, what the size questions promise, and what is said of a scratch. Definitions only.
use Rattle.std.specs.Prelude.{◌≡◌, cond, not, ◌||◌, List, [], ◌∷◌, ℕ, ◌*◌, ◌<◌, ltb, eqb, length, drop, ⊤, Result, Ok, Err, Float}
use Rattle.numbers.specs.Words.{and_then}
use Rattle.tables.specs.Tables.{too_large}
use Rattle.bank.specs.Lengths.{bad_taps, pairs}
use Rattle.planes.specs.declared.PlanesError.{PlanesError}
use Rattle.planes.specs.declared.PlanesError.TheVariants.{MinFilterSize, ApproxDetailsSize, OutputSizeIsNotValid, ZeroedBaseSize, InputSize, Limit, Taps}
use Rattle.planes.specs.Lengths.{band_length, plane_scratch}

-- the number of an answer, and the values that it carries (RULES, Numbers)
abbrev pub number_of : Result ⊤ PlanesError → ℕ
number_of (Ok done) = 0
number_of (Err (MinFilterSize n f)) = 1
number_of (Err (ApproxDetailsSize l)) = 2
number_of (Err (OutputSizeIsNotValid have need)) = 4
number_of (Err ZeroedBaseSize) = 7
number_of (Err (InputSize need have)) = 10
number_of (Err Limit) = 11
number_of (Err Taps) = 12

abbrev pub values_of : Result ⊤ PlanesError → List ℕ
values_of (Ok done) = []
values_of (Err (MinFilterSize n f)) = n ∷ f ∷ []
values_of (Err (ApproxDetailsSize l)) = l ∷ []
values_of (Err (OutputSizeIsNotValid have need)) = have ∷ need ∷ []
values_of (Err ZeroedBaseSize) = []
values_of (Err (InputSize need have)) = need ∷ have ∷ []
values_of (Err Limit) = []
values_of (Err Taps) = []

abbrev pub size_number : Result ℕ PlanesError → ℕ
size_number (Ok l) = 0
size_number (Err refusal) = number_of (Err refusal)

abbrev pub size_values : Result ℕ PlanesError → List ℕ
size_values (Ok l) = l ∷ []
size_values (Err refusal) = values_of (Err refusal)

-- 12, 7, 11
unfoldable pub asked_of : ℕ → ℕ → ℕ → Result ⊤ PlanesError
asked_of w h f =
    cond (bad_taps f) (Err Taps)
    (cond (eqb w 0 || eqb h 0) (Err ZeroedBaseSize)
    (cond (too_large w h) (Err Limit)
    (Ok tt)))

-- and 10 for a plane of p numbers, 10 for a scratch of s
unfoldable pub held_of : ℕ → ℕ → ℕ → ℕ → ℕ → Result ⊤ PlanesError
held_of w h f p s =
    and_then number_of (asked_of w h f)
    (cond (not (eqb p (w * h))) (Err (InputSize (w * h) p))
    (cond (ltb s (plane_scratch w h f)) (Err (InputSize (plane_scratch w h f) s))
    (Ok tt)))

-- 2 for each band in turn
unfoldable pub bands_of : ℕ → ℕ → ℕ → ℕ → ℕ → Result ⊤ PlanesError
bands_of l ll lh hl hh =
    cond (not (eqb ll l)) (Err (ApproxDetailsSize ll))
    (cond (not (eqb lh l)) (Err (ApproxDetailsSize lh))
    (cond (not (eqb hl l)) (Err (ApproxDetailsSize hl))
    (cond (not (eqb hh l)) (Err (ApproxDetailsSize hh))
    (Ok tt))))

-- a length, or the refusal of the tests before it
abbrev pub sized_by : Result ⊤ PlanesError → ℕ → Result ℕ PlanesError
sized_by (Ok done) l = Ok l
sized_by (Err refusal) l = Err refusal

-- a length that a plane has, after 12, 7 and 11
abbrev pub size_of : ℕ → ℕ → ℕ → ℕ → Result ℕ PlanesError
size_of w h f l = sized_by (asked_of w h f) l

pub record WidthSized (w h f : ℕ) (r : Result ℕ PlanesError) : Type 0 where
  pub answer : r ≡ size_of w h f (pairs w f)

pub record HeightSized (w h f : ℕ) (r : Result ℕ PlanesError) : Type 0 where
  pub answer : r ≡ size_of w h f (pairs h f)

pub record BandSized (w h f : ℕ) (r : Result ℕ PlanesError) : Type 0 where
  pub answer : r ≡ size_of w h f (band_length w h f)

pub record ScratchSized (w h f : ℕ) (r : Result ℕ PlanesError) : Type 0 where
  pub answer : r ≡ size_of w h f (plane_scratch w h f)

-- a scratch after the answer of this number: on a refusal as it was; else as long, and as it was beyond the need
pub record Scratched (number need : ℕ) (old new : List Float) : Type 0 where
  pub refused : 0 < number → new ≡ old
  pub long : length new ≡ length old
  pub beyond : drop need new ≡ drop need old
