-- What the functions behind convolution ask for and leave. Definitions only.
use Rattle.std.specs.Prelude.{◌≡◌, List, ℕ, ◌+◌, ◌-◌, ◌≤◌, ◌<◌, ℤ, nat_abs, length, take, Float}
use Rattle.std.specs.Float.{Format}
use Rattle.std.specs.Float.Ieee.{add, mul}
use Rattle.border.specs.declared.rule.Place.{Place}
use Rattle.numbers.specs.Words.{at, tab}
use Rattle.convolution.specs.Pads.{centre_of}
use Rattle.convolution.specs.Sums.{convolved}

-- a kernel that is not empty, and a centre within its limit
pub record Kernel (f : ℕ) (c : ℤ) : Type 0 where
  pub some : 0 < f
  pub most : f ≤ 64
  pub small : nat_abs c ≤ 2147483648

-- pads of such a kernel
pub record ShortPads (left right : ℕ) : Type 0 where
  pub before : left ≤ 4294967296
  pub behind : right ≤ 4294967296

-- a centre within its limit
abbrev pub Small : Place → Type 0
Small p = nat_abs (centre_of p) ≤ 2147483648

-- ---- the sum over a line that holds the padded samples

-- tap 0 and i more, at place x of the line
unfoldable pub kernel_sum : Format → List Float → List Float → ℕ → ℕ → Float
unfolding convolved
kernel_sum f kernel line x i = convolved f (at kernel) (λ j. at line (x + j)) i

-- all of the taps
abbrev pub place_of : Format → List Float → List Float → ℕ → Float
place_of f kernel line x = kernel_sum f kernel line x (length kernel - 1)

-- a kernel of f over as many places as the output has
pub record Summing (f padded out : ℕ) : Type 0 where
  pub some : 0 < f
  pub within : out + f ≤ padded + 1

-- ---- several places at once

-- the product of sample x + q and a tap, and sum q with that product
abbrev pub product : Format → List Float → ℕ → Float → ℕ → Float
product f line x tap q = mul f (at line (x + q)) tap

abbrev pub more : Format → List Float → List Float → ℕ → Float → ℕ → Float
more f sums line x tap q = add f (at sums q) (product f line x tap q)

-- tap 0 and i more, at place x + q
abbrev pub sum_from : Format → List Float → List Float → ℕ → ℕ → ℕ → Float
sum_from f kernel line x i q = kernel_sum f kernel line (x + q) i

-- the first x places of an output are done
abbrev pub Summed : Format → List Float → List Float → ℕ → List Float → Type 0
Summed f kernel line x out = take x out ≡ tab (place_of f kernel line) x
