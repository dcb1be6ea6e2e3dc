-- Laws of bounds: what taps and pairs can bring together in size, and that the one bound 2 A T T covers every sum on the way.
use Rattle.std.proofs.Common.{ap, le_trans, add-le-add, mul-le-mul_right, arith}
use Rattle.std.specs.Prelude.{ℕ, zero, suc, ◌+◌, ◌*◌, ◌≤◌, ◌<◌, ℤ, nat_abs}
use Rattle.whole.specs.Sums.{naturals, sum, sizes_of}
use Rattle.whole.specs.Terms.{factor_ℕ, alike, together, by_parity}
use Rattle.exact.specs.Weights.{weight}
use Rattle.exact.specs.Reach.{reach}

-- the terms at places of one parity are no more than all
class_le : (g e : ℕ) (w : ℕ → ℕ) → e < 2 → sum naturals g (λ t. w (2 * t + e)) ≤ sum naturals (2 * g) w
class_le g zero w h =
    let q = alike naturals g (λ t. w (2 * t + 0)) (λ t. w (2 * t)) (λ t l. ap w (omega arith)) in
    omega (arith, by_parity naturals g w, q)
class_le g (suc zero) w h = omega (arith, by_parity naturals g w)
class_le g (suc (suc e)) w h = absurd (omega arith)

-- all that comes to one place, of bands no larger than B
pub weight_le : (g u e m : ℕ) (low high : ℕ → ℤ) (B : ℕ) → e < 2 → g ≤ suc u → u < m
    → sum naturals m (weight (2 * g) low high B (2 * u + e)) ≤ sizes_of (2 * g) high * B + sizes_of (2 * g) low * B
weight_le g u e m low high B he hg hu =
    let w : ℕ → ℕ = λ j. nat_abs (high j) * B + nat_abs (low j) * B in
    let p = reach naturals g u e m (λ j i. w j) he hg hu in
    let q = together naturals (2 * g) (λ j. nat_abs (high j) * B) (λ j. nat_abs (low j) * B) in
    omega (arith, p, class_le g e w he, q, factor_ℕ B (2 * g) (λ j. nat_abs (high j)), factor_ℕ B (2 * g) (λ j. nat_abs (low j)))

-- what the one bound gives for a band and for a join
pub bound_band : (A T B : ℕ) → 2 * A * T * T ≤ B → T * A ≤ B
bound_band A zero B h = omega arith
bound_band A (suc T) B h = omega arith

pub bound_join : (A T B u v : ℕ) → 2 * A * T * T ≤ B → u ≤ T → v ≤ T → u * (T * A) + v * (T * A) ≤ B
bound_join A T B u v h p q = le_trans (add-le-add (mul-le-mul_right (T * A) p) (mul-le-mul_right (T * A) q)) (omega arith)
