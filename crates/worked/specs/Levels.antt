-- Levels besides those of P1 to P13: what else is to say of their lines, and a line of five there and back over two levels; each is computed.
use Rattle.std.specs.Prelude.{◌≡◌, refl, List, [], ◌∷◌, Err, pos, negsuc, Float}
use Rattle.std.specs.Float.{binary64}
use Rattle.std.specs.Float.Ieee.{of_int, add, mul}
use Rattle.numbers.specs.Words.{tab}
use Rattle.worked.specs.Whole.{floats}
use Rattle.border.specs.declared.Border.TheVariants.{Clamp}
use Rattle.border.specs.Rule.{source, padded}
use Rattle.bank.specs.Lengths.{bad_taps}
use Rattle.summing.specs.Sums.{dot}
use Rattle.analysis.specs.Sums.{analysed}
use Rattle.analysis.specs.Lines.{band}
use Rattle.synthesis.specs.Sums.{joined}
use Rattle.synthesis.specs.Lines.{synthesised}
use Rattle.packed.specs.declared.LevelsError.TheVariants.{MinFilterSize}
use Rattle.packed.specs.Lengths.{line_after, too_short, details_to, level_start, long_lines, most_levels, levels_scratch, restoring_length}
use Rattle.packed.specs.Answers.{asked_of, held_of}
use Rattle.levels.specs.Analyses.{answer_of}
use Rattle.levels.specs.Lines.{line_of, details_of, packed_line}
use Rattle.restoring.specs.Lines.{restored_after, restored}

-- P2's line, analysed over one level, is refused as it is without levels
p2_one : answer_of 3 4 1 6 14 ≡ Err (MinFilterSize 3 4)
unfolding answer_of held_of asked_of bad_taps too_short line_after
p2_one = refl

-- P3's line allows one level
p3_most : most_levels 4 4 ≡ 1
unfolding line_after long_lines
p3_most = refl

-- P10's parts begin at 0, 3 and 5; the scratch takes 6 padded and two bands of 3, either work buffer 6; three levels are the most
p10_besides : (level_start 5 2 2 1 ≡ 0) × (level_start 5 2 2 2 ≡ 3) × (level_start 5 2 2 0 ≡ 5) × (levels_scratch 5 2 ≡ 12) × (restoring_length 5 2 ≡ 6) × (most_levels 5 2 ≡ 3)
unfolding line_after details_to long_lines
p10_besides = (refl, refl, refl, refl, refl, refl)

-- with taps 1 1 and 1 -1 under Clamp, worked by hand: 1 2 3 4 5 and its end repeated give 3 7 10 and -1 -1 0; 3 7 10 and its end repeated give 10 20 and -4 0
abbrev sums : List Float
sums = floats (pos 1 ∷ pos 1 ∷ [])

abbrev differences : List Float
differences = floats (pos 1 ∷ negsuc 0 ∷ [])

abbrev five : List Float
five = floats (pos 1 ∷ pos 2 ∷ pos 3 ∷ pos 4 ∷ pos 5 ∷ [])

abbrev packed : List Float
packed = floats (negsuc 0 ∷ negsuc 0 ∷ pos 0 ∷ negsuc 3 ∷ pos 0 ∷ pos 10 ∷ pos 20 ∷ [])

two_levels : packed_line binary64 sums differences 2 Clamp five 2 ≡ packed
unfolding details_of line_of band analysed dot tab padded source of_int add mul
two_levels = refl

-- and back: 6 14 20 20, trimmed to 6 14 20, which with -1 -1 0 gives 5 7 13 15 20 20
two_back : restored binary64 2 sums differences packed 5 2 ≡ floats (pos 5 ∷ pos 7 ∷ pos 13 ∷ pos 15 ∷ pos 20 ∷ pos 20 ∷ [])
unfolding restored_after line_after details_to synthesised joined tab of_int add mul
two_back = refl
