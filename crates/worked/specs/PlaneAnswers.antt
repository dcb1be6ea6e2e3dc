-- What the entries of a plane answer, every refusal in its order (RULES, Order of tests): each is computed. Where several tests fail, the first answers.
use Rattle.std.specs.Prelude.{◌≡◌, refl, List, [], ◌∷◌, ℕ, ⊤, Result}
use Rattle.bank.specs.Lengths.{bad_taps, pairs}
use Rattle.tables.specs.Tables.{too_large}
use Rattle.planes.specs.declared.PlanesError.{PlanesError}
use Rattle.planes.specs.Lengths.{band_length, plane_scratch}
use Rattle.planes.specs.Answers.{asked_of, held_of, bands_of, size_of, number_of, values_of, size_number, size_values}
use Rattle.plane_analysis.specs.Analyses as analysis
use Rattle.plane_synthesis.specs.Syntheses as synthesis

-- an answer: its number, then what it carries
abbrev told : Result ⊤ PlanesError → List ℕ
told r = number_of r ∷ values_of r

abbrev sized : Result ℕ PlanesError → List ℕ
sized r = size_number r ∷ size_values r

-- ---- the tests that both entries begin with, on width, height, taps, plane and scratch, where no band has its length
abbrev either : ℕ → ℕ → ℕ → ℕ → ℕ → List (List ℕ)
either w h f p s = told (analysis.answer_of w h f p s 0 0 0 0) ∷ told (synthesis.answer_of w h f p s 0 0 0 0) ∷ []

abbrev twice : List ℕ → List (List ℕ)
twice l = l ∷ l ∷ []

-- 12: no taps, an odd number, and over 64
taps : (either 0 1048577 0 0 0 ≡ twice (12 ∷ [])) × (either 0 0 3 0 0 ≡ twice (12 ∷ [])) × (either 1048577 0 66 0 0 ≡ twice (12 ∷ []))
unfolding analysis.answer_of synthesis.answer_of held_of asked_of too_large bad_taps
taps = (refl, refl, refl)

-- 7: no width, and no height
zeroed : (either 0 1048577 2 1 0 ≡ twice (7 ∷ [])) × (either 1048577 0 2 1 0 ≡ twice (7 ∷ []))
unfolding analysis.answer_of synthesis.answer_of held_of asked_of too_large bad_taps
zeroed = (refl, refl)

-- 11: the width, the height, and their product
limits : (either 1048577 1 2 0 0 ≡ twice (11 ∷ [])) × (either 1 1048577 2 0 0 ≡ twice (11 ∷ [])) × (either 4097 4096 2 0 0 ≡ twice (11 ∷ []))
unfolding analysis.answer_of synthesis.answer_of held_of asked_of too_large bad_taps
limits = (refl, refl, refl)

-- 10 for the plane, a place short and a place long
plane : (either 3 2 4 5 0 ≡ twice (10 ∷ 6 ∷ 5 ∷ [])) × (either 3 2 4 7 0 ≡ twice (10 ∷ 6 ∷ 7 ∷ []))
unfolding analysis.answer_of synthesis.answer_of held_of asked_of too_large bad_taps
plane = (refl, refl)

-- 10 for the scratch, a place short of 4 times 3 columns of 2, and 8 padded
scratch : either 3 2 4 6 31 ≡ twice (10 ∷ 32 ∷ 31 ∷ [])
unfolding analysis.answer_of synthesis.answer_of held_of asked_of too_large bad_taps
scratch = refl

-- ---- then analysis, told the lengths of LL, LH, HL and HH too: 1 for the width, 1 for the height
short : (told (analysis.answer_of 3 2 4 6 32 0 0 0 0) ≡ 1 ∷ 3 ∷ 4 ∷ []) × (told (analysis.answer_of 4 2 4 8 32 0 0 0 0) ≡ 1 ∷ 2 ∷ 4 ∷ [])
unfolding analysis.answer_of held_of asked_of bands_of too_large bad_taps
short = (refl, refl)

-- 2 for each band in turn; then done, in more scratch than is needed too
bands : (told (analysis.answer_of 4 4 2 16 36 3 5 6 7) ≡ 2 ∷ 3 ∷ []) × (told (analysis.answer_of 4 4 2 16 36 4 5 6 7) ≡ 2 ∷ 5 ∷ []) × (told (analysis.answer_of 4 4 2 16 36 4 4 6 7) ≡ 2 ∷ 6 ∷ []) × (told (analysis.answer_of 4 4 2 16 36 4 4 4 7) ≡ 2 ∷ 7 ∷ [])
unfolding analysis.answer_of held_of asked_of bands_of too_large bad_taps
bands = (refl, refl, refl, refl)

analysed : (told (analysis.answer_of 4 4 2 16 36 4 4 4 4) ≡ 0 ∷ []) × (told (analysis.answer_of 4 4 2 16 99 4 4 4 4) ≡ 0 ∷ []) × (told (analysis.answer_of 5 3 2 15 42 6 6 6 6) ≡ 0 ∷ [])
unfolding analysis.answer_of held_of asked_of bands_of too_large bad_taps
analysed = (refl, refl, refl)

-- ---- and synthesis: 2 for each band in turn, of sides that are odd
joined_bands : (told (synthesis.answer_of 5 3 2 15 42 5 7 8 9) ≡ 2 ∷ 5 ∷ []) × (told (synthesis.answer_of 5 3 2 15 42 6 7 8 9) ≡ 2 ∷ 7 ∷ []) × (told (synthesis.answer_of 5 3 2 15 42 6 6 8 9) ≡ 2 ∷ 8 ∷ []) × (told (synthesis.answer_of 5 3 2 15 42 6 6 6 9) ≡ 2 ∷ 9 ∷ [])
unfolding synthesis.answer_of held_of asked_of bands_of too_large bad_taps
joined_bands = (refl, refl, refl, refl)

-- 4 for the height, 4 for the width: an odd side wants a place more
odd : (told (synthesis.answer_of 5 3 2 15 42 6 6 6 6) ≡ 4 ∷ 3 ∷ 4 ∷ []) × (told (synthesis.answer_of 5 4 2 20 54 6 6 6 6) ≡ 4 ∷ 5 ∷ 6 ∷ [])
unfolding synthesis.answer_of held_of asked_of bands_of too_large bad_taps
odd = (refl, refl)

-- then done, as well with sides below the taps
joined : (told (synthesis.answer_of 4 4 2 16 36 4 4 4 4) ≡ 0 ∷ []) × (told (synthesis.answer_of 4 4 2 16 99 4 4 4 4) ≡ 0 ∷ []) × (told (synthesis.answer_of 2 2 4 4 22 4 4 4 4) ≡ 0 ∷ [])
unfolding synthesis.answer_of held_of asked_of bands_of too_large bad_taps
joined = (refl, refl, refl)

-- ---- the size questions refuse by 12, 7 and 11 alone
not_sized : (sized (size_of 0 0 3 9) ≡ 12 ∷ []) × (sized (size_of 0 1048577 2 9) ≡ 7 ∷ []) × (sized (size_of 4097 4096 2 9) ≡ 11 ∷ [])
unfolding asked_of too_large bad_taps
not_sized = (refl, refl, refl)

-- the largest plane by the most taps: 2,079 columns of as many; and one number by as many taps
sizes : (sized (size_of 4096 4096 64 (pairs 4096 64)) ≡ 0 ∷ 2079 ∷ []) × (sized (size_of 4096 4096 64 (band_length 4096 4096 64)) ≡ 0 ∷ 4322241 ∷ []) × (sized (size_of 4096 4096 64 (plane_scratch 4096 4096 64)) ≡ 0 ∷ 34066556 ∷ []) × (sized (size_of 1 1 64 (plane_scratch 1 1 64)) ≡ 0 ∷ 254 ∷ [])
unfolding asked_of too_large bad_taps
sizes = (refl, refl, refl, refl)
