-- The sum of convolution in a format f: each product is rounded, then each sum. Definitions only.
use Rattle.std.specs.Prelude.{List, ℕ, zero, suc, ◌+◌, ◌-◌, ℤ, length, Float}
use Rattle.std.specs.Float.{Format}
use Rattle.std.specs.Float.Ieee.{add, mul}
use Rattle.numbers.specs.Words.{plus_zero, at, tab}
use Rattle.border.specs.declared.Border.{Border}
use Rattle.border.specs.Rule.{padded}
use Rattle.convolution.specs.Pads.{left_pad}

-- begins as line place 0 times tap 0, with no zero added, then adds line place i times tap i, i rising, n of them
unfoldable pub convolved : Format → (ℕ → Float) → (ℕ → Float) → ℕ → Float
convolved f tap x zero = mul f (x 0) (tap 0)
convolved f tap x (suc i) = add f (convolved f tap x i) (mul f (x (suc i)) (tap (suc i)))

-- the convolution of the samples: output x is over padded samples x, x + 1 and so on
unfoldable pub convolution : Format → Border → List Float → List Float → ℤ → List Float
unfolding convolved
convolution f b s kernel c =
    tab (λ x. convolved f (at kernel) (λ i. padded plus_zero b s (left_pad (length kernel) c) (x + i)) (length kernel - 1)) (length s)
