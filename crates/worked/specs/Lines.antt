-- Borders and taps besides those of P1 to P13: Clamp and Zeros of P5's samples, the scratch of P4, and P8's high taps by the mirror rule; each is computed.
use Rattle.std.specs.Prelude.{◌≡◌, refl, List, [], ◌∷◌, ℕ}
use Rattle.std.specs.Float.Ieee.{of_int, neg}
use Rattle.numbers.specs.Words.{tab}
use Rattle.worked.specs.Whole.{floats, eight, eight_high}
use Rattle.border.specs.declared.Border.{Border}
use Rattle.border.specs.declared.Border.TheVariants.{Clamp, Zeros}
use Rattle.border.specs.Rule.{source, padded}
use Rattle.bank.specs.Lengths.{padded_length}
use Rattle.bank.specs.Banks.{mirror}

-- places of 10 20 30 with `left` in front, n in all; the border rule is over samples of any kind
abbrev around : Border → ℕ → ℕ → List ℕ
around b left n = tab (padded 0 b (10 ∷ 20 ∷ 30 ∷ []) left) n

-- Clamp takes the nearest end and Zeros gives zero, however far
clamp_zeros : (around Clamp 2 7 ≡ 10 ∷ 10 ∷ 10 ∷ 20 ∷ 30 ∷ 30 ∷ 30 ∷ []) × (around Zeros 2 7 ≡ 0 ∷ 0 ∷ 10 ∷ 20 ∷ 30 ∷ 0 ∷ 0 ∷ [])
unfolding tab padded source
clamp_zeros = (refl, refl)

-- two samples by two taps are padded to no more
p4_scratch : padded_length 2 2 ≡ 2
p4_scratch = refl

-- the high taps of P8 are those of the mirror rule
p8_mirror : tab (mirror (floats eight)) 4 ≡ floats eight_high
unfolding tab of_int neg
p8_mirror = refl
