-- Restoring is exact by a pair for each way, of two banks that are no mirror banks and have no pair twice: they meet the premises under every border, with samples at the largest A that the bound allows; and a line past the bound is not restored. Each is computed.
use Rattle.std.specs.Prelude.{◌≡◌, refl, true, false, ◌&&◌, List, [], ◌∷◌, replicate, ℤ, pos, negsuc, ◌*ℤ◌, Float}
use Rattle.std.proofs.Common.{subst, arith, lit<}
use Rattle.std.specs.Float.{binary64}
use Rattle.std.specs.Float.Ieee.{of_int, add, mul}
use Rattle.numbers.specs.Words.{plus_zero, at, tab}
use Rattle.whole.specs.Sums.{sum}
use Rattle.whole.specs.Floats.{Whole, at_ℤ}
use Rattle.border.specs.declared.Border.{Border}
use Rattle.border.specs.declared.Border.TheVariants.{Clamp}
use Rattle.border.specs.Rule.{source, padded}
use Rattle.bank.specs.Lengths.{bad_taps}
use Rattle.summing.specs.Sums.{dot}
use Rattle.analysis.specs.Sums.{analysed}
use Rattle.analysis.specs.Lines.{band}
use Rattle.synthesis.specs.Sums.{joined}
use Rattle.synthesis.specs.Lines.{synthesised}
use Rattle.exact.specs.Restoring.{mirror, largest_sizes, there_and_back, Restored}
use Rattle.worked.specs.Meeting.{samples_meet, same_ℤ, long_alike, weights_meet, pairs_bound, pairs_held, PairsMet}
use Rattle.worked.specs.Premised.{pairs_premised}
use Rattle.worked.specs.Whole.{floats}

-- ---- the 5/3 pair, its taps made whole and filled to six: S = 16, T = 12
abbrev pub five_low : List ℤ
five_low = negsuc 0 ∷ pos 2 ∷ pos 6 ∷ pos 2 ∷ negsuc 0 ∷ pos 0 ∷ []

abbrev pub five_high : List ℤ
five_high = pos 0 ∷ pos 0 ∷ negsuc 0 ∷ pos 2 ∷ negsuc 0 ∷ pos 0 ∷ []

abbrev pub five_lowback : List ℤ
five_lowback = pos 0 ∷ pos 1 ∷ pos 2 ∷ pos 1 ∷ pos 0 ∷ pos 0 ∷ []

abbrev pub five_highback : List ℤ
five_highback = pos 0 ∷ negsuc 0 ∷ negsuc 1 ∷ pos 6 ∷ negsuc 1 ∷ negsuc 0 ∷ []

-- high tap 2 is not the mirror rule's, and the way back has another first tap
five_own : (same_ℤ (at_ℤ five_high 2) (mirror five_low 2) ≡ false) × (same_ℤ (at_ℤ five_lowback 0) (at_ℤ five_low 0) ≡ false)
five_own = (refl, refl)

five_sums : (largest_sizes five_low five_high five_lowback five_highback ≡ 12) × (pairs_bound binary64 five_low five_high five_lowback five_highback 31274997412296 ≡ false)
unfolding sum
five_sums = (refl, refl)

-- samples at the largest A
abbrev five_line : List ℤ
five_line = pos 31274997412295 ∷ negsuc 31274997412294 ∷ pos 31274997412295 ∷ pos 31274997412295 ∷ negsuc 31274997412294 ∷ pos 1 ∷ pos 0 ∷ []

five : (b : Border) → PairsMet binary64 b five_low five_high five_lowback five_highback five_line (pos 16) 31274997412295
unfolding sum bad_taps
five b = pairs_premised binary64 b five_low five_high five_lowback five_highback five_line (pos 16) 31274997412295 refl

-- ---- a spline pair of eight taps: S = 256, T = 128
abbrev spline_low : List ℤ
spline_low = pos 3 ∷ negsuc 8 ∷ negsuc 6 ∷ pos 45 ∷ pos 45 ∷ negsuc 6 ∷ negsuc 8 ∷ pos 3 ∷ []

abbrev spline_high : List ℤ
spline_high = pos 0 ∷ pos 0 ∷ pos 1 ∷ negsuc 2 ∷ pos 3 ∷ negsuc 0 ∷ pos 0 ∷ pos 0 ∷ []

abbrev spline_lowback : List ℤ
spline_lowback = pos 0 ∷ pos 0 ∷ pos 1 ∷ pos 3 ∷ pos 3 ∷ pos 1 ∷ pos 0 ∷ pos 0 ∷ []

abbrev spline_highback : List ℤ
spline_highback = pos 3 ∷ pos 9 ∷ negsuc 6 ∷ negsuc 44 ∷ pos 45 ∷ pos 7 ∷ negsuc 8 ∷ negsuc 2 ∷ []

spline_own : (same_ℤ (at_ℤ spline_high 0) (mirror spline_low 0) ≡ false) × (same_ℤ (at_ℤ spline_lowback 0) (at_ℤ spline_low 0) ≡ false)
spline_own = (refl, refl)

spline_sums : (largest_sizes spline_low spline_high spline_lowback spline_highback ≡ 128) × (pairs_bound binary64 spline_low spline_high spline_lowback spline_highback 274877906945 ≡ false)
unfolding sum
spline_sums = (refl, refl)

abbrev spline_line : List ℤ
spline_line =
    pos 274877906944 ∷ pos 274877906944 ∷ negsuc 274877906943 ∷ pos 274877906944 ∷ negsuc 274877906943 ∷ negsuc 274877906943 ∷ pos 1 ∷ pos 0 ∷ pos 274877906944 ∷ []

spline : (b : Border) → PairsMet binary64 b spline_low spline_high spline_lowback spline_highback spline_line (pos 256) 274877906944
unfolding sum bad_taps
spline b = pairs_premised binary64 b spline_low spline_high spline_lowback spline_highback spline_line (pos 256) 274877906944 refl

-- ---- past the bound: samples of the 5/3 bank some eleven times as large as it allows, and nothing else amiss
abbrev far : List ℤ
far = pos 350000000000000 ∷ negsuc 349999999999999 ∷ negsuc 350000000000000 ∷ pos 350000000000000 ∷ negsuc 349999999999999 ∷ pos 350000000000000 ∷ []

past_bound : ((long_alike five_low five_high five_lowback five_highback && weights_meet five_low five_high five_lowback five_highback (pos 16) && samples_meet five_low far 350000000000001
    && pairs_held binary64 five_low five_high five_lowback five_highback 350000000000001) ≡ true) × (pairs_bound binary64 five_low five_high five_lowback five_highback 350000000000001 ≡ false)
unfolding sum bad_taps
past_bound = (refl, refl)

-- what comes back, in the fourth place one off from 16 times its sample
abbrev came : List Float
came = there_and_back binary64 6 (floats five_low) (floats five_high) (floats five_lowback) (floats five_highback) Clamp (floats far) (replicate 6 plus_zero)

past_came : came ≡ floats (pos 5600000000000000 ∷ negsuc 5599999999999999 ∷ negsuc 5600000000000015 ∷ pos 5599999999999999 ∷ negsuc 5599999999999999 ∷ pos 5600000000000000 ∷ [])
unfolding synthesised joined band analysed dot tab padded source of_int add mul
past_came = refl

past_lost : Restored Clamp (pos 16) far came → ⊥
unfolding of_int
past_lost r =
    let w : Whole (of_int binary64 (pos 5599999999999999)) (pos 16 *ℤ pos 350000000000000) = subst (λ (l : List Float). Whole (at l 3) (pos 16 *ℤ pos 350000000000000)) past_came (r.each 3 (lit< tt)) in
    absurd (omega (arith, w.1))
