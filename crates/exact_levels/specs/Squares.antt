-- Laws of S, the sum of squared taps: it is no less than 0 and at most T T, so where it is not 0 the bound makes it a good divisor, and A a number that the format holds.
use Rattle.std.specs.Prelude.{◌≡◌, refl, false, ◌≢◌, List, ℕ, zero, suc, ◌+◌, ◌*◌, ◌^◌, ◌≤◌, length, ℤ, pos, negsuc, nat_abs, ◌+ℤ◌, ◌*ℤ◌, Float}
use Rattle.std.proofs.Common.{ap, ◌∙◌, subst, le_refl, le_trans, mul-le-mul_left, mul-le-mul_right, arith}
use Rattle.std.specs.Float.{Format}
use Rattle.std.specs.Float.Ieee.{prec}
use Rattle.whole.specs.Sums.{integers, sum, sizes_of}
use Rattle.whole.specs.Floats.{Whole, at_ℤ}
use Rattle.dividing.specs.Divisions.{bad_divisor}
use Rattle.dividing.specs.Divisors.{good_divisor}
use Rattle.exact.specs.Restoring.{squares, sizes}

-- a whole number that is no less than 0 and at most m
pub record UpTo (m : ℕ) (z : ℤ) : Type 0 where
  pub size : ℕ
  pub is : z ≡ pos size
  pub most : size ≤ m

square : (a : ℤ) → a *ℤ a ≡ pos (nat_abs a * nat_abs a)
square (pos n) = refl
square (negsuc n) = refl

sums : (w : ℕ → ℤ) (n : ℕ) → UpTo (sizes_of n w * sizes_of n w) (sum integers n (λ j. w j *ℤ w j))
unfolding sum
sums w zero = record { size = 0; is = refl; most = le_refl 0 }
sums w (suc n) =
    let p = sums w n in
    record {
      size = p.size + nat_abs (w n) * nat_abs (w n);
      is = ap (λ (a : ℤ). a +ℤ w n *ℤ w n) p.is ∙ ap (λ (a : ℤ). pos p.size +ℤ a) (square (w n));
      most = omega (arith, p.most);
    }

-- S is one more than some number
pub record Positive (z : List ℤ) : Type 0 where
  pub less : ℕ
  pub is : squares z ≡ pos (suc less)
  pub most : suc less ≤ sizes z * sizes z

pub positive : (z : List ℤ) → squares z ≢ pos 0 → Positive z
positive z above = let p = sums (at_ℤ z) (length z) in go p.size p.is p.most
  where
    go : (m : ℕ) → squares z ≡ pos m → m ≤ sizes z * sizes z → Positive z
    go zero e h = absurd (above e)
    go (suc k) e h = record { less = k; is = e; most = h }

-- what the bound covers
bound_squares : (A t B : ℕ) → 1 ≤ A → 2 * A * t * t ≤ B → t * t ≤ B
bound_squares A t B h k = omega (arith, mul-le-mul_right (t * t) h)

pub bound_samples : (A t B : ℕ) → 1 ≤ t * t → 2 * A * t * t ≤ B → A ≤ B
bound_samples A t B h k = omega (arith, mul-le-mul_left A h)

pub divisor_good : (g : Format) (S : Float) (z : List ℤ) (A : ℕ) → Whole S (squares z) → squares z ≢ pos 0 → 1 ≤ A → 2 * A * sizes z * sizes z ≤ 2 ^ prec g → bad_divisor g S ≡ false
divisor_good g S z A w above one bound =
    let k = positive z above in
    good_divisor g S k.less (subst (λ (c : ℤ). Whole S c) k.is w) (le_trans k.most (bound_squares A (sizes z) (2 ^ prec g) one bound))
