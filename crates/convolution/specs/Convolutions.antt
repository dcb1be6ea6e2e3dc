-- Convolution of one line: the answers with their numbers, and what every lent buffer then holds. Definitions only.
use Rattle.std.specs.Prelude.{◌≡◌, cond, not, List, [], ◌∷◌, ℕ, ltb, leb, eqb, ℤ, nat_abs, length, Result, Ok, Err, ⊤, Float}
use Rattle.std.specs.Float.{Format}
use Rattle.numbers.specs.Words.{plus_zero, when_done, written}
use Rattle.border.specs.declared.Border.{Border}
use Rattle.border.specs.Rule.{padded}
use Rattle.convolution.specs.declared.ConvolutionError.{ConvolutionError}
use Rattle.convolution.specs.declared.ConvolutionError.TheVariants.{InOutSizesMismatch, ZeroedBaseSize, ScratchSize, MisconfiguredFilterCenter, Limit, Reflect101Pad}
use Rattle.convolution.specs.Pads.{beyond, left_pad, right_pad, needed, too_far}
use Rattle.convolution.specs.Sums.{convolution}

-- the number of an answer, and the values that it carries (RULES, Numbers)
abbrev pub number_of : Result ⊤ ConvolutionError → ℕ
number_of (Ok _) = 0
number_of (Err (ScratchSize need have)) = 5
number_of (Err (InOutSizesMismatch line out)) = 6
number_of (Err ZeroedBaseSize) = 7
number_of (Err (MisconfiguredFilterCenter size f)) = 8
number_of (Err Limit) = 11
number_of (Err Reflect101Pad) = 13

abbrev pub values_of : Result ⊤ ConvolutionError → List ℕ
values_of (Ok _) = []
values_of (Err (ScratchSize need have)) = need ∷ have ∷ []
values_of (Err (InOutSizesMismatch line out)) = line ∷ out ∷ []
values_of (Err ZeroedBaseSize) = []
values_of (Err (MisconfiguredFilterCenter size f)) = size ∷ f ∷ []
values_of (Err Limit) = []
values_of (Err Reflect101Pad) = []

-- the first test that fails, of a line of n, an output of o, a kernel of f about c, and a scratch of s; an empty kernel is done once its line is there
unfoldable pub answer_of : Border → ℕ → ℕ → ℕ → ℤ → ℕ → Result ⊤ ConvolutionError
answer_of b n o f c s =
    cond (beyond n f c) (Err Limit)
    (cond (not (eqb n o)) (Err (InOutSizesMismatch n o))
    (cond (eqb n 0) (Err ZeroedBaseSize)
    (cond (eqb f 0) (Ok tt)
    (cond (ltb s (needed n f c)) (Err (ScratchSize (needed n f c) s))
    (cond (leb f (nat_abs c)) (Err (MisconfiguredFilterCenter (nat_abs c) f))
    (cond (too_far b n (left_pad f c) (right_pad f c)) (Err Reflect101Pad)
    (Ok tt)))))))

-- the output, in a format: an empty kernel copies
abbrev pub convolved_line : Format → Border → List Float → List Float → ℤ → List Float
convolved_line w b line kernel c = cond (eqb (length kernel) 0) line (convolution w b line kernel c)

-- the scratch: it begins with the padded line and is as it was beyond it; an empty kernel leaves it alone
abbrev pub padded_into : Border → List Float → List Float → ℤ → List Float → List Float
padded_into b line kernel c scratch =
    cond (eqb (length kernel) 0) scratch
    (written (padded plus_zero b line (left_pad (length kernel) c)) (needed (length line) (length kernel) c) scratch)

pub record Convolved (w : Format) (b : Border) (line out scratch kernel : List Float) (c : ℤ) (r : Result ⊤ ConvolutionError) (out' scratch' : List Float) : Type 0 where
  pub answer : r ≡ answer_of b (length line) (length out) (length kernel) c (length scratch)
  pub convolved : out' ≡ when_done (number_of r) (convolved_line w b line kernel c) out
  pub scratched : scratch' ≡ when_done (number_of r) (padded_into b line kernel c scratch) scratch
