-- Restoring is exact, of three banks: they meet the premises under every border, two of them with samples at the largest A that the bound allows, and one with an odd line, whose next sample is told by border; and a line past the bound is not restored. Each is computed.
use Rattle.std.specs.Prelude.{◌≡◌, refl, true, false, ◌&&◌, List, [], ◌∷◌, map, replicate, ℤ, pos, negsuc, ◌*ℤ◌, Float}
use Rattle.std.proofs.Common.{subst, arith, lit<}
use Rattle.std.specs.Float.{binary32, binary64}
use Rattle.std.specs.Float.Ieee.{of_int, add, mul}
use Rattle.numbers.specs.Words.{plus_zero, at, tab}
use Rattle.whole.specs.Sums.{sum}
use Rattle.whole.specs.Floats.{Whole}
use Rattle.border.specs.declared.Border.{Border}
use Rattle.border.specs.declared.Border.TheVariants.{Wrap}
use Rattle.border.specs.Rule.{borders, source, padded}
use Rattle.bank.specs.Lengths.{bad_taps}
use Rattle.summing.specs.Sums.{dot}
use Rattle.analysis.specs.Sums.{analysed}
use Rattle.analysis.specs.Lines.{band}
use Rattle.synthesis.specs.Sums.{joined}
use Rattle.synthesis.specs.Lines.{synthesised}
use Rattle.exact.specs.Restoring.{squares, sizes, next, there_and_back, Restored}
use Rattle.worked.specs.Meeting.{taps_meet, samples_meet, bound_meets, held_by, Met}
use Rattle.worked.specs.Premised.{premised}
use Rattle.worked.specs.Whole.{floats, eight, eight_high, tens}

-- ---- the bank of P8: T = 12
p8_sizes : sizes eight ≡ 12
unfolding sum
p8_sizes = refl

-- its samples, in both formats
p8 : (b : Border) → Met binary64 b eight tens 40
unfolding sum bad_taps
p8 b = premised binary64 b eight tens 40 refl

p8_small : (b : Border) → Met binary32 b eight tens 40
unfolding sum bad_taps
p8_small b = premised binary32 b eight tens 40 refl

-- an odd line by the same bank, and the next sample that each border puts behind it, in the order of their numbers
abbrev odd : List ℤ
odd = pos 5 ∷ pos 0 ∷ pos 3 ∷ negsuc 3 ∷ pos 9 ∷ []

p8_odd : (b : Border) → Met binary64 b eight odd 9
unfolding sum bad_taps
p8_odd b = premised binary64 b eight odd 9 refl

odd_nexts : map (λ b. next b odd) borders ≡ pos 9 ∷ pos 5 ∷ pos 9 ∷ pos 0 ∷ negsuc 3 ∷ pos 9 ∷ negsuc 3 ∷ []
unfolding padded source
odd_nexts = refl

-- ---- the taps 1 1: S = 2, T = 2, with samples at the largest A, 2^50
abbrev pub two : List ℤ
two = pos 1 ∷ pos 1 ∷ []

two_sums : (squares two ≡ pos 2) × (sizes two ≡ 2) × (bound_meets binary64 two 1125899906842625 ≡ false)
unfolding sum
two_sums = (refl, refl, refl)

two_taps : (b : Border) → Met binary64 b two (pos 1125899906842624 ∷ negsuc 1125899906842623 ∷ pos 1 ∷ []) 1125899906842624
unfolding sum bad_taps
two_taps b = premised binary64 b two (pos 1125899906842624 ∷ negsuc 1125899906842623 ∷ pos 1 ∷ []) 1125899906842624 refl

-- ---- six taps: S = 250, T = 34, with samples at the largest A
abbrev six : List ℤ
six = pos 6 ∷ pos 12 ∷ pos 3 ∷ negsuc 3 ∷ pos 6 ∷ negsuc 2 ∷ []

six_sums : (squares six ≡ pos 250) × (sizes six ≡ 34) × (bound_meets binary64 six 3895847428522 ≡ false)
unfolding sum
six_sums = (refl, refl, refl)

abbrev loud : List ℤ
loud = pos 3895847428521 ∷ negsuc 3895847428520 ∷ pos 3895847428521 ∷ pos 3895847428521 ∷ negsuc 3895847428520 ∷ negsuc 3895847428520 ∷ pos 0 ∷ []

six_taps : (b : Border) → Met binary64 b six loud 3895847428521
unfolding sum bad_taps
six_taps b = premised binary64 b six loud 3895847428521 refl

-- ---- past the bound: samples of P8's bank some 4.3 times as large as it allows, and nothing else amiss
abbrev far : List ℤ
far = negsuc 134482488872867 ∷ pos 134482488872868 ∷ pos 134482488872868 ∷ negsuc 134482488872866 ∷ []

past_bound : ((taps_meet eight && samples_meet eight far 134482488872868 && held_by binary64 eight 134482488872868) ≡ true) × (bound_meets binary64 eight 134482488872868 ≡ false)
unfolding sum bad_taps
past_bound = (refl, refl)

-- what comes back, in the first place one off from 50 times its sample
abbrev came : List Float
came = there_and_back binary64 4 (floats eight) (floats eight_high) (floats eight) (floats eight_high) Wrap (floats far) (replicate 4 plus_zero)

past_came : came ≡ floats (negsuc 6724124443643398 ∷ pos 6724124443643400 ∷ pos 6724124443643400 ∷ negsuc 6724124443643349 ∷ [])
unfolding synthesised joined band analysed dot tab padded source of_int add mul
past_came = refl

past_lost : Restored Wrap (squares eight) far came → ⊥
unfolding sum of_int
past_lost r = let w : Whole (of_int binary64 (negsuc 6724124443643398)) (squares eight *ℤ negsuc 134482488872867) = subst (λ (l : List Float). Whole (at l 0) (squares eight *ℤ negsuc 134482488872867)) past_came (r.each 0 (lit< tt)) in absurd (omega (arith, w.1))
