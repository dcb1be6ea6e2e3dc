-- Restoring through every level is exact, of two banks: they meet the premises under every border, through levels with odd lines on the way, one of them at the largest A on every level, so their lines come back; and a line whose first level alone keeps the bound does not. Each is computed.
use Rattle.std.specs.Prelude.{◌≡◌, refl, true, false, not, List, [], ◌∷◌, map, ℕ, ◌≤◌, ◌<◌, length, ℤ, pos, negsuc, nat_abs, Float}
use Rattle.std.proofs.Common.{sym, ap, subst, ◌∙◌, arith, lit<}
use Rattle.std.specs.Float.{fin, binary32, binary64}
use Rattle.std.specs.Float.Ieee.{of_int, neg, add, mul, div}
use Rattle.numbers.specs.Words.{plus_zero, at, tab, written}
use Rattle.whole.specs.Sums.{sum}
use Rattle.whole.specs.Floats.{at_ℤ}
use Rattle.whole.specs.Zeros.{zero_int}
use Rattle.border.specs.declared.Border.{Border}
use Rattle.border.specs.declared.Border.TheVariants.{Wrap, Reflect101}
use Rattle.border.specs.Rule.{borders, source, padded}
use Rattle.bank.specs.Lengths.{bad_taps}
use Rattle.summing.specs.Sums.{dot}
use Rattle.analysis.specs.Sums.{analysed}
use Rattle.analysis.specs.Lines.{band}
use Rattle.synthesis.specs.Sums.{joined}
use Rattle.synthesis.specs.Lines.{synthesised}
use Rattle.packed.specs.Lengths.{line_after, too_short, details_to, long_lines, most_levels}
use Rattle.levels.specs.Lines.{line_of, details_of}
use Rattle.restoring.specs.Lines.{joined_by}
use Rattle.exact.specs.Restoring.{next}
use Rattle.exact_levels.specs.Through.{whole_line, Bounded, Regained}
use Rattle.worked.specs.Meeting.{every, line_meets, through_meeting, MetThrough, back_through}
use Rattle.worked.specs.Premised.{each_says, through_premised, through_back}
use Rattle.worked.specs.Whole.{floats, eight}
use Rattle.worked.specs.Restoring.{two}

-- ---- P8's bank, T = 12, three levels: lines of 11, 7 and 5, then 4; each level's A is T times that of the level before
abbrev eleven : List ℤ
eleven = pos 5 ∷ pos 0 ∷ pos 3 ∷ negsuc 3 ∷ pos 9 ∷ pos 2 ∷ negsuc 6 ∷ pos 1 ∷ pos 8 ∷ negsuc 5 ∷ pos 4 ∷ []

abbrev twelvefold : List ℕ
twelvefold = 9 ∷ 108 ∷ 1296 ∷ []

p8_lines : map (line_after 11 4) (0 ∷ 1 ∷ 2 ∷ 3 ∷ []) ≡ 11 ∷ 7 ∷ 5 ∷ 4 ∷ []
unfolding line_after
p8_lines = refl

-- in both formats
p8 : (b : Border) → MetThrough binary64 b eight eleven twelvefold
unfolding sum bad_taps tab padded source whole_line
p8 b = through_premised binary64 b eight eleven twelvefold (each_says (λ b. through_meeting binary64 b eight eleven twelvefold) refl b)

p8_small : (b : Border) → MetThrough binary32 b eight eleven twelvefold
unfolding sum bad_taps tab padded source whole_line
p8_small b = through_premised binary32 b eight eleven twelvefold (each_says (λ b. through_meeting binary32 b eight eleven twelvefold) refl b)

p8_back : (b : Border) → Regained binary64 b eleven (back_through binary64 b eight eleven 3)
unfolding too_short
p8_back b = through_back binary64 b eight eleven twelvefold (p8 b) (omega arith) refl

-- the extra place, by border
p8_nexts : map (λ b. next b eleven) borders ≡ pos 4 ∷ pos 5 ∷ pos 4 ∷ pos 0 ∷ negsuc 5 ∷ pos 4 ∷ negsuc 5 ∷ []
unfolding padded source
p8_nexts = refl

-- the same outright, under one border
p8_came : back_through binary64 Reflect101 eight eleven 3 ≡ floats (pos 5 ∷ pos 0 ∷ pos 3 ∷ negsuc 3 ∷ pos 9 ∷ pos 2 ∷ negsuc 6 ∷ pos 1 ∷ pos 8 ∷ negsuc 5 ∷ pos 4 ∷ negsuc 5 ∷ [])
unfolding sum line_of details_of band analysed dot tab written padded source joined_by line_after details_to synthesised joined of_int neg add mul div
p8_came = refl

-- ---- the taps 1 1, four levels, the most that the line allows: lines of 13, 7, 4 and 2, then 1, at the largest A, 2^50, of which `two_sums` of Restoring has that one more is too many
abbrev loud : List ℤ
loud =
    pos 1125899906842624 ∷ negsuc 1125899906842623 ∷ pos 1125899906842624 ∷ pos 0 ∷ pos 1125899906842623 ∷ pos 1 ∷ pos 0 ∷ negsuc 1125899906842623 ∷ pos 5 ∷ negsuc 2 ∷ negsuc 1125899906842623
    ∷ pos 1125899906842624 ∷ negsuc 6 ∷ []

abbrev loudest : List ℕ
loudest = 1125899906842624 ∷ 1125899906842624 ∷ 1125899906842624 ∷ 1125899906842624 ∷ []

two_lines : (map (line_after 13 2) (0 ∷ 1 ∷ 2 ∷ 3 ∷ 4 ∷ []) ≡ 13 ∷ 7 ∷ 4 ∷ 2 ∷ 1 ∷ []) × (most_levels 13 2 ≡ 4)
unfolding line_after long_lines
two_lines = (refl, refl)

two_taps : (b : Border) → MetThrough binary64 b two loud loudest
unfolding sum bad_taps tab padded source whole_line
two_taps b = through_premised binary64 b two loud loudest (each_says (λ b. through_meeting binary64 b two loud loudest) refl b)

two_back : (b : Border) → Regained binary64 b loud (back_through binary64 b two loud 4)
unfolding too_short
two_back b = through_back binary64 b two loud loudest (two_taps b) (omega arith) refl

-- no level's line does with less
two_full : (b : Border) → every 4 (λ k. not (line_meets binary64 two (whole_line 2 two b loud k) 1125899906842623)) ≡ true
unfolding sum tab padded source whole_line
two_full b = each_says (λ b. every 4 (λ k. not (line_meets binary64 two (whole_line 2 two b loud k) 1125899906842623))) refl b

-- ---- past the bound on the second level alone: the first keeps it, and through one level the line comes back
abbrev far : List ℤ
far = pos 0 ∷ pos 20000000000001 ∷ pos 0 ∷ pos 10000000000001 ∷ negsuc 29999999999998 ∷ []

past_once : MetThrough binary64 Wrap eight far (29999999999999 ∷ [])
unfolding sum bad_taps whole_line
past_once = through_premised binary64 Wrap eight far (29999999999999 ∷ []) refl

once_back : Regained binary64 Wrap far (back_through binary64 Wrap eight far 1)
unfolding too_short
once_back = through_back binary64 Wrap eight far (29999999999999 ∷ []) past_once (omega arith) refl

-- two levels are allowed
past_allowed : too_short 5 4 2 ≡ false
unfolding too_short line_after
past_allowed = refl

-- the second level's line, some 5.4 times as large as the bound allows; 50 times each of its numbers is still below 2^53
past_line : whole_line 4 eight Wrap far 1 ≡ negsuc 169999999999991 ∷ pos 110000000000005 ∷ pos 8 ∷ negsuc 49999999999994 ∷ []
unfolding sum tab padded source whole_line
past_line = refl

past_bound : (A : ℕ) → Bounded binary64 eight (whole_line 4 eight Wrap far 1) A → ⊥
unfolding sum
past_bound A r =
    let large : 169999999999992 ≤ A = subst (λ (u : List ℤ). (i : ℕ) → i < length u → nat_abs (at_ℤ u i) ≤ A) past_line r.small 0 (lit< tt) in
    omega (arith, r.bound)

-- what comes back through both: in the first place -0.00125, rounded, where its sample is 0
past_came : back_through binary64 Wrap eight far 2 ≡ fin true 5764607523034235 (negsuc 61) ∷ floats (pos 20000000000001 ∷ pos 0 ∷ pos 10000000000001 ∷ negsuc 29999999999998 ∷ pos 0 ∷ [])
unfolding sum line_of details_of band analysed dot tab written padded source joined_by line_after details_to synthesised joined of_int neg add mul div
past_came = refl

past_lost : Regained binary64 Wrap far (back_through binary64 Wrap eight far 2) → ⊥
past_lost r =
    let came : fin true 5764607523034235 (negsuc 61) ≡ plus_zero = ap (λ (l : List Float). at l 0) (sym past_came) ∙ r.each 0 (lit< tt) ∙ zero_int binary64 in
    let same : ◌≡◌ {A = ℕ} 0 1 = cc in
    absurd (omega arith)
