-- The program's own example (RULES, The program), byte by byte, and numbers at the ends of their range: each is computed from the definitions of what `bands` reads and prints.
use Rattle.std.specs.Prelude.{◌≡◌, refl, [], ◌∷◌, pos, negsuc}
use Rattle.std.specs.Float.Ieee.{of_int, add, mul, to_bits}
use Rattle.numbers.specs.Words.{tab}
use Rattle.border.specs.declared.Border.TheVariants.{Clamp, Wrap, Zeros}
use Rattle.border.specs.Rule.{source, padded}
use Rattle.bank.specs.Lengths.{bad_taps}
use Rattle.summing.specs.Sums.{dot}
use Rattle.analysis.specs.Sums.{analysed}
use Rattle.analysis.specs.Lines.{band}
use Rattle.texts.specs.Texts.{digits_of, line_text, text_of, Request}
use Rattle.texts.specs.Prints.{hex_of, refusal_text}
use Rattle.answering.specs.Answers.{output_of}
use Rattle.worked.specs.Whole.{eight, eight_high, tens}

-- the program's text
abbrev example : Request
example = record { border = Clamp; low = eight; high = eight_high; samples = tens }

-- its input
input : text_of example ≡
    67 ∷ 108 ∷ 97 ∷ 109 ∷ 112 ∷ 10 ∷
    51 ∷ 32 ∷ 54 ∷ 32 ∷ 50 ∷ 32 ∷ 45 ∷ 49 ∷ 10 ∷
    45 ∷ 49 ∷ 32 ∷ 45 ∷ 50 ∷ 32 ∷ 54 ∷ 32 ∷ 45 ∷ 51 ∷ 10 ∷
    49 ∷ 48 ∷ 32 ∷ 50 ∷ 48 ∷ 32 ∷ 51 ∷ 48 ∷ 32 ∷ 52 ∷ 48 ∷ 10 ∷ []
unfolding digits_of
input = refl

-- its whole output
output : output_of example ≡
    97 ∷ 112 ∷ 112 ∷ 114 ∷ 111 ∷ 120 ∷ 32 ∷ 51 ∷ 10 ∷
    52 ∷ 48 ∷ 53 ∷ 54 ∷ 56 ∷ 48 ∷ 48 ∷ 48 ∷ 48 ∷ 48 ∷ 48 ∷ 48 ∷ 48 ∷ 48 ∷ 48 ∷ 48 ∷ 10 ∷
    52 ∷ 48 ∷ 54 ∷ 53 ∷ 52 ∷ 48 ∷ 48 ∷ 48 ∷ 48 ∷ 48 ∷ 48 ∷ 48 ∷ 48 ∷ 48 ∷ 48 ∷ 48 ∷ 10 ∷
    52 ∷ 48 ∷ 55 ∷ 55 ∷ 50 ∷ 48 ∷ 48 ∷ 48 ∷ 48 ∷ 48 ∷ 48 ∷ 48 ∷ 48 ∷ 48 ∷ 48 ∷ 48 ∷ 10 ∷
    100 ∷ 101 ∷ 116 ∷ 97 ∷ 105 ∷ 108 ∷ 32 ∷ 51 ∷ 10 ∷
    67 ∷ 48 ∷ 51 ∷ 69 ∷ 48 ∷ 48 ∷ 48 ∷ 48 ∷ 48 ∷ 48 ∷ 48 ∷ 48 ∷ 48 ∷ 48 ∷ 48 ∷ 48 ∷ 10 ∷
    52 ∷ 48 ∷ 50 ∷ 52 ∷ 48 ∷ 48 ∷ 48 ∷ 48 ∷ 48 ∷ 48 ∷ 48 ∷ 48 ∷ 48 ∷ 48 ∷ 48 ∷ 48 ∷ 10 ∷
    52 ∷ 48 ∷ 50 ∷ 52 ∷ 48 ∷ 48 ∷ 48 ∷ 48 ∷ 48 ∷ 48 ∷ 48 ∷ 48 ∷ 48 ∷ 48 ∷ 48 ∷ 48 ∷ 10 ∷ []
unfolding band analysed dot tab padded source bad_taps digits_of hex_of of_int add mul to_bits
output = refl

-- an empty line is an empty list; 0 has one digit, and the ends of the range have seven
lines : (line_text [] ≡ 10 ∷ []) × (line_text (pos 0 ∷ []) ≡ 48 ∷ 10 ∷ []) × (line_text (pos 1000000 ∷ negsuc 999999 ∷ []) ≡ 49 ∷ 48 ∷ 48 ∷ 48 ∷ 48 ∷ 48 ∷ 48 ∷ 32 ∷ 45 ∷ 49 ∷ 48 ∷ 48 ∷ 48 ∷ 48 ∷ 48 ∷ 48 ∷ 10 ∷ [])
unfolding digits_of
lines = (refl, refl, refl)

-- `refused 14`
refused : refusal_text 14 ≡ 114 ∷ 101 ∷ 102 ∷ 117 ∷ 115 ∷ 101 ∷ 100 ∷ 32 ∷ 49 ∷ 52 ∷ 10 ∷ []
unfolding digits_of
refused = refl

-- no taps are refused by 12, and a line shorter than its taps by 1
numbers : (output_of (record { border = Zeros; low = []; high = []; samples = [] }) ≡ refusal_text 12) × (output_of (record { border = Wrap; low = eight; high = eight_high; samples = pos 1 ∷ [] }) ≡ refusal_text 1)
unfolding bad_taps
numbers = (refl, refl)
