-- Worked cases of 32-bit floats, whose whole numbers reach to 2^24: banks that meet the premises of either statement of exact restoring, with samples at the largest A that the bound allows; lines past it that are not restored; and sums that tell binary32 from binary64. Each is computed.
use Rattle.std.specs.Prelude.{◌≡◌, refl, true, false, ◌&&◌, List, [], ◌∷◌, replicate, ℤ, pos, negsuc, ◌*ℤ◌, Float}
use Rattle.std.proofs.Common.{subst, ◌∙◌, arith, lit<}
use Rattle.std.specs.Float.{fin, Format, binary32, binary64}
use Rattle.std.specs.Float.Ieee.{of_int, add, mul}
use Rattle.numbers.specs.Words.{plus_zero, at, tab}
use Rattle.whole.specs.Sums.{sum}
use Rattle.whole.specs.Floats.{Whole, floats}
use Rattle.border.specs.declared.Border.{Border}
use Rattle.border.specs.declared.Border.TheVariants.{Clamp, Wrap}
use Rattle.border.specs.Rule.{source, padded}
use Rattle.bank.specs.Lengths.{bad_taps}
use Rattle.summing.specs.Sums.{dot}
use Rattle.analysis.specs.Sums.{analysed}
use Rattle.analysis.specs.Lines.{band}
use Rattle.synthesis.specs.Sums.{joined}
use Rattle.synthesis.specs.Lines.{synthesised}
use Rattle.convolution.specs.Sums.{convolved}
use Rattle.exact.specs.Restoring.{squares, there_and_back, Restored}
use Rattle.worked.specs.Meeting.{bound_meets, held_by, meeting, Met, pairs_bound, pairs_held, pairs_meeting, PairsMet}
use Rattle.worked.specs.Premised.{premised, pairs_premised}
use Rattle.worked.specs.Whole.{eight, eight_high}
use Rattle.worked.specs.Pairs.{five_low, five_high, five_lowback, five_highback}

-- ---- at the largest A: P8's bank, S = 50, and the 5/3 bank, S = 16; T is 12 for both, and so A is the same
abbrev loud : List ℤ
loud = pos 58254 ∷ negsuc 58253 ∷ pos 58254 ∷ pos 58254 ∷ negsuc 58253 ∷ pos 1 ∷ pos 0 ∷ []

one_pair : (b : Border) → Met binary32 b eight loud 58254
unfolding sum bad_taps
one_pair b = premised binary32 b eight loud 58254 refl

two_pairs : (b : Border) → PairsMet binary32 b five_low five_high five_lowback five_highback loud (pos 16) 58254
unfolding sum bad_taps
two_pairs b = pairs_premised binary32 b five_low five_high five_lowback five_highback loud (pos 16) 58254 refl

-- with one more the bound fails
no_larger : (bound_meets binary32 eight 58255 ≡ false) × (pairs_bound binary32 five_low five_high five_lowback five_highback 58255 ≡ false)
unfolding sum
no_larger = (refl, refl)

-- ---- past the bound, by P8's bank: samples some 4.2 times as large as it allows, and nothing else amiss: binary64's bound allows them
abbrev far : List ℤ
far = negsuc 246723 ∷ pos 246724 ∷ pos 246724 ∷ negsuc 246722 ∷ []

past_bound : ((meeting binary64 eight far 246724 && held_by binary32 eight 246724) ≡ true) × (bound_meets binary32 eight 246724 ≡ false)
unfolding sum bad_taps
past_bound = (refl, refl)

-- what comes back, in the first place one off from 50 times its sample
abbrev came : List Float
came =
    let low = floats binary32 eight in
    let high = floats binary32 eight_high in
    there_and_back binary32 4 low high low high Wrap (floats binary32 far) (replicate 4 plus_zero)

past_came : came ≡ floats binary32 (negsuc 12336198 ∷ pos 12336200 ∷ pos 12336200 ∷ negsuc 12336149 ∷ [])
unfolding synthesised joined band analysed dot tab padded source of_int add mul
past_came = refl

past_lost : Restored Wrap (squares eight) far came → ⊥
unfolding sum of_int
past_lost r =
    let w : Whole (of_int binary32 (negsuc 12336198)) (squares eight *ℤ negsuc 246723) = subst (λ (l : List Float). Whole (at l 0) (squares eight *ℤ negsuc 246723)) past_came (r.each 0 (lit< tt)) in
    absurd (omega (arith, w.1))

-- ---- past the bound, by the 5/3 bank: some eleven times as large, and again binary64's bound allows them
abbrev farther : List ℤ
farther = pos 645277 ∷ negsuc 645277 ∷ negsuc 645277 ∷ pos 645278 ∷ negsuc 645277 ∷ pos 645278 ∷ []

pairs_past_bound : ((pairs_meeting binary64 five_low five_high five_lowback five_highback farther (pos 16) 645278 && pairs_held binary32 five_low five_high five_lowback five_highback 645278) ≡ true)
    × (pairs_bound binary32 five_low five_high five_lowback five_highback 645278 ≡ false)
unfolding sum bad_taps
pairs_past_bound = (refl, refl)

-- what comes back, in the fourth place one off from 16 times its sample
abbrev pairs_came : List Float
pairs_came =
    there_and_back binary32 6 (floats binary32 five_low) (floats binary32 five_high) (floats binary32 five_lowback) (floats binary32 five_highback) Clamp (floats binary32 farther)
    (replicate 6 plus_zero)

pairs_past_came : pairs_came ≡ floats binary32 (pos 10324432 ∷ negsuc 10324447 ∷ negsuc 10324447 ∷ pos 10324449 ∷ negsuc 10324447 ∷ pos 10324448 ∷ [])
unfolding synthesised joined band analysed dot tab padded source of_int add mul
pairs_past_came = refl

pairs_past_lost : Restored Clamp (pos 16) farther pairs_came → ⊥
unfolding of_int
pairs_past_lost r =
    let w : Whole (of_int binary32 (pos 10324449)) (pos 16 *ℤ pos 645278) = subst (λ (l : List Float). Whole (at l 3) (pos 16 *ℤ pos 645278)) pairs_past_came (r.each 3 (lit< tt)) in
    absurd (omega (arith, w.1))

-- ---- the formats told apart: held + t x + u y, term by term, as a band's sum, as that of synthesis onto what a place held, and as that of convolution
abbrev sums : Format → ℤ → ℤ → ℤ → ℤ → ℤ → List Float
sums f held t x u y =
    let taps = at (floats f (pos 1 ∷ t ∷ u ∷ [])) in
    let line = at (floats f (held ∷ x ∷ y ∷ [])) in
    dot f taps line 3 ∷ joined f 2 (λ j. of_int f u) (λ j. of_int f t) (λ i. of_int f y) (λ i. of_int f x) 0 (of_int f held) 1 ∷ convolved f taps line 2 ∷ []

-- all three are this float of binary32
abbrev thrice : ℤ → List Float
thrice z = replicate 3 (of_int binary32 z)

-- by way of the float written out, since the checker is slow to compare two roundings
through : {l r : List Float} (x : Float) → l ≡ replicate 3 x → replicate 3 x ≡ r → l ≡ r
through x p q = p ∙ q

-- 2^24 + 1 + 1: binary32 rounds each sum to 2^24; in binary64 it is 2^24 + 2, which rounding to binary32 would leave as it is
sums_rounded : (sums binary32 (pos 16777216) (pos 1) (pos 1) (pos 1) (pos 1) ≡ thrice (pos 16777216)) × (sums binary64 (pos 16777216) (pos 1) (pos 1) (pos 1) (pos 1) ≡ thrice (pos 16777218))
unfolding dot joined convolved of_int add mul
sums_rounded = (through (fin false 1 (pos 24)) refl refl, through (fin false 8388609 (pos 1)) refl refl)

-- -16785408 + 4097·4097: binary32 rounds the product to 16785408 before it is added; unrounded the sum would be 1
products_rounded : (sums binary32 (negsuc 16785407) (pos 4097) (pos 4097) (pos 0) (pos 0) ≡ thrice (pos 0)) × (sums binary64 (negsuc 16785407) (pos 4097) (pos 4097) (pos 0) (pos 0) ≡ thrice (pos 1))
unfolding dot joined convolved of_int add mul
products_rounded = (refl, through (fin false 1 (pos 0)) refl refl)
