-- Planes besides P11: its other bands and the way back; a plane that tells rows from columns, and one that is padded both ways: each is computed.
use Rattle.std.specs.Prelude.{◌≡◌, refl, List, [], ◌∷◌, ℕ, pos, negsuc, Float}
use Rattle.std.specs.Float.{binary64}
use Rattle.std.specs.Float.Ieee.{of_int, add, mul}
use Rattle.numbers.specs.Words.{tab}
use Rattle.worked.specs.Whole.{floats}
use Rattle.border.specs.declared.Border.{Border}
use Rattle.border.specs.declared.Border.TheVariants.{Clamp, Wrap}
use Rattle.border.specs.Rule.{source, padded}
use Rattle.bank.specs.Lengths.{pairs}
use Rattle.summing.specs.Sums.{dot}
use Rattle.analysis.specs.Sums.{analysed}
use Rattle.analysis.specs.Lines.{band}
use Rattle.synthesis.specs.Sums.{joined}
use Rattle.synthesis.specs.Lines.{synthesised}
use Rattle.tables.specs.Tables.{crossing}
use Rattle.planes.specs.Lengths.{band_length, plane_scratch}
use Rattle.plane_analysis.specs.Bands.{plane_band}
use Rattle.plane_synthesis.specs.Joins.{plane_joined}

-- the bands of a plane by two taps of each list: LL, LH (low across, high down), HL and HH
abbrev bands : List Float → List Float → Border → List Float → ℕ → ℕ → List (List Float)
bands low high b plane w h =
    plane_band binary64 low low 2 b plane w h
    ∷ plane_band binary64 low high 2 b plane w h
    ∷ plane_band binary64 high low 2 b plane w h
    ∷ plane_band binary64 high high 2 b plane w h
    ∷ []

-- ---- P11: the plane 4 by 4 of 1 to 16 by rows, taps 1 1 and 1 -1, which no border pads
abbrev sums : List Float
sums = floats (pos 1 ∷ pos 1 ∷ [])

abbrev differences : List Float
differences = floats (pos 1 ∷ negsuc 0 ∷ [])

abbrev sixteen : List Float
sixteen = floats (pos 1 ∷ pos 2 ∷ pos 3 ∷ pos 4 ∷ pos 5 ∷ pos 6 ∷ pos 7 ∷ pos 8 ∷ pos 9 ∷ pos 10 ∷ pos 11 ∷ pos 12 ∷ pos 13 ∷ pos 14 ∷ pos 15 ∷ pos 16 ∷ [])

-- LL is P11's; the others by hand: the rows' sums are 3 7, 11 15, 19 23 and 27 31, their differences -1 -1 throughout
abbrev p11_ll : List Float
p11_ll = floats (pos 14 ∷ pos 46 ∷ pos 22 ∷ pos 54 ∷ [])

abbrev p11_lh : List Float
p11_lh = floats (negsuc 7 ∷ negsuc 7 ∷ negsuc 7 ∷ negsuc 7 ∷ [])

abbrev p11_hl : List Float
p11_hl = floats (negsuc 1 ∷ negsuc 1 ∷ negsuc 1 ∷ negsuc 1 ∷ [])

abbrev p11_hh : List Float
p11_hh = floats (pos 0 ∷ pos 0 ∷ pos 0 ∷ pos 0 ∷ [])

p11_bands : (b : Border) → bands sums differences b sixteen 4 4 ≡ p11_ll ∷ p11_lh ∷ p11_hl ∷ p11_hh ∷ []
unfolding plane_band crossing band analysed dot tab padded source of_int add mul
p11_bands b = refl

-- and back: S is 2, and every number comes back S S = 4 times as large
p11_back : plane_joined binary64 2 sums differences 4 4 p11_ll p11_lh p11_hl p11_hh
    ≡ floats (pos 4 ∷ pos 8 ∷ pos 12 ∷ pos 16 ∷ pos 20 ∷ pos 24 ∷ pos 28 ∷ pos 32 ∷ pos 36 ∷ pos 40 ∷ pos 44 ∷ pos 48 ∷ pos 52 ∷ pos 56 ∷ pos 60 ∷ pos 64 ∷ [])
unfolding plane_joined crossing synthesised joined tab of_int add mul
p11_back = refl

-- a band has 2 columns of 2; the scratch takes 4 times 2 columns of 4, and 4 padded
p11_sizes : (pairs 4 2 ≡ 2) × (band_length 4 4 2 ≡ 4) × (plane_scratch 4 4 2 ≡ 36)
p11_sizes = (refl, refl, refl)

-- ---- 4 wide and 6 high, 1 to 24 by rows, taps 1 2 and 2 -1: rows and columns, and the order in which a band is stored, all show
abbrev low : List Float
low = floats (pos 1 ∷ pos 2 ∷ [])

abbrev high : List Float
high = floats (pos 2 ∷ negsuc 0 ∷ [])

abbrev twenty_four : List Float
twenty_four = floats (pos 1 ∷ pos 2 ∷ pos 3 ∷ pos 4 ∷ pos 5 ∷ pos 6 ∷ pos 7 ∷ pos 8 ∷ pos 9 ∷ pos 10 ∷ pos 11 ∷ pos 12 ∷ pos 13 ∷ pos 14 ∷ pos 15 ∷ pos 16 ∷ pos 17 ∷ pos 18 ∷ pos 19 ∷ pos 20 ∷ pos 21 ∷ pos 22 ∷ pos 23 ∷ pos 24 ∷ [])

-- by hand: a row's pair a, a + 1 gives 3 a + 2 and a - 1; a column's pair x, x + 12 of the first gives 3 x + 24 and x - 12, its pair x, x + 4 of the second 3 x + 8 and x - 4
abbrev tall_ll : List Float
tall_ll = floats (pos 39 ∷ pos 111 ∷ pos 183 ∷ pos 57 ∷ pos 129 ∷ pos 201 ∷ [])

abbrev tall_lh : List Float
tall_lh = floats (negsuc 6 ∷ pos 17 ∷ pos 41 ∷ negsuc 0 ∷ pos 23 ∷ pos 47 ∷ [])

abbrev tall_hl : List Float
tall_hl = floats (pos 8 ∷ pos 32 ∷ pos 56 ∷ pos 14 ∷ pos 38 ∷ pos 62 ∷ [])

abbrev tall_hh : List Float
tall_hh = floats (negsuc 3 ∷ pos 4 ∷ pos 12 ∷ negsuc 1 ∷ pos 6 ∷ pos 14 ∷ [])

tall_bands : (b : Border) → bands low high b twenty_four 4 6 ≡ tall_ll ∷ tall_lh ∷ tall_hl ∷ tall_hh ∷ []
unfolding plane_band crossing band analysed dot tab padded source of_int add mul
tall_bands b = refl

-- and back: S is 5, and every number comes back 25 times as large
tall_back : plane_joined binary64 2 low high 4 6 tall_ll tall_lh tall_hl tall_hh
    ≡ floats (pos 25 ∷ pos 50 ∷ pos 75 ∷ pos 100 ∷ pos 125 ∷ pos 150 ∷ pos 175 ∷ pos 200 ∷ pos 225 ∷ pos 250 ∷ pos 275 ∷ pos 300 ∷ pos 325 ∷ pos 350 ∷ pos 375 ∷ pos 400 ∷ pos 425 ∷ pos 450 ∷ pos 475 ∷ pos 500 ∷ pos 525 ∷ pos 550 ∷ pos 575 ∷ pos 600 ∷ [])
unfolding plane_joined crossing synthesised joined tab of_int add mul
tall_back = refl

-- 2 columns of 3; 4 times 2 columns of 6, and the longer padded line, 6
tall_sizes : (pairs 4 2 ≡ 2) × (pairs 6 2 ≡ 3) × (band_length 4 6 2 ≡ 6) × (plane_scratch 4 6 2 ≡ 54)
tall_sizes = (refl, refl, refl, refl)

-- ---- 3 by 3 of 1 to 9, taps 1 1 and 1 -1: each row and each column gets a place from its border
abbrev nine : List Float
nine = floats (pos 1 ∷ pos 2 ∷ pos 3 ∷ pos 4 ∷ pos 5 ∷ pos 6 ∷ pos 7 ∷ pos 8 ∷ pos 9 ∷ [])

-- by hand: the rows' sums are 3 6, 9 12 and 15 18, their differences -1 0 throughout
odd_clamp : bands sums differences Clamp nine 3 3
    ≡ floats (pos 12 ∷ pos 30 ∷ pos 18 ∷ pos 36 ∷ []) ∷ floats (negsuc 5 ∷ pos 0 ∷ negsuc 5 ∷ pos 0 ∷ []) ∷ floats (negsuc 1 ∷ negsuc 1 ∷ pos 0 ∷ pos 0 ∷ []) ∷ floats (pos 0 ∷ pos 0 ∷ pos 0 ∷ pos 0 ∷ []) ∷ []
unfolding plane_band crossing band analysed dot tab padded source of_int add mul
odd_clamp = refl

-- the sums are 3 4, 9 10 and 15 16, the differences -1 2 throughout
odd_wrap : bands sums differences Wrap nine 3 3
    ≡ floats (pos 12 ∷ pos 18 ∷ pos 14 ∷ pos 20 ∷ []) ∷ floats (negsuc 5 ∷ pos 12 ∷ negsuc 5 ∷ pos 12 ∷ []) ∷ floats (negsuc 1 ∷ negsuc 1 ∷ pos 4 ∷ pos 4 ∷ []) ∷ floats (pos 0 ∷ pos 0 ∷ pos 0 ∷ pos 0 ∷ []) ∷ []
unfolding plane_band crossing band analysed dot tab padded source of_int add mul
odd_wrap = refl
