-- Laws of what the pairs bring to a place, added in any way: of all m pairs just g reach it, one for each tap of its parity.
use Rattle.std.specs.Prelude.{◌≡◌, cond, ℕ, suc, ◌+◌, ◌-◌, ◌*◌, ◌≤◌, ◌<◌}
use Rattle.std.proofs.Common.{ap, ◌∙◌, arith}
use Rattle.numbers.specs.Tests.{cond_true, cond_false}
use Rattle.whole.specs.Sums.{Adding, sum}
use Rattle.whole.specs.Terms.{alike, window, reverse}
use Rattle.synthesis.specs.Sums.{meets}
use Rattle.synthesis.specs.Meets.{meets_yes, meets_before, meets_past}

-- those that reach place 2 u + e are u, u - 1 and so on, g of them, by the taps e, e + 2 and so on.
pub reach : {A : Type 0} (P : Adding A) (g u e m : ℕ) (G : ℕ → ℕ → A) → e < 2 → g ≤ suc u → u < m
    → sum P m (λ i. cond (meets (2 * g) (2 * u + e) i) (G (2 * u + e - 2 * i) i) P.none) ≡ sum P g (λ t. G (2 * t + e) (u - t))
reach {A} P g u e m G he hg hu =
    ap (λ (n : ℕ). sum P n term) whole
    ∙ window P (suc u - g) g (m - suc u) term
    (λ i l. cond_false (meets (2 * g) (2 * u + e) i) (G (2 * u + e - 2 * i) i) P.none (meets_past (2 * g) (2 * u + e) i (omega arith)))
    (λ i l. let k = suc u - g + g + i in cond_false (meets (2 * g) (2 * u + e) k) (G (2 * u + e - 2 * k) k) P.none (meets_before (2 * g) (2 * u + e) k (omega arith)))
    ∙ reverse P g (λ t. term (suc u - g + t))
    ∙ alike P g (λ t. term (suc u - g + (g - suc t))) (λ t. G (2 * t + e) (u - t)) pair
  where
    term : ℕ → A
    term i = cond (meets (2 * g) (2 * u + e) i) (G (2 * u + e - 2 * i) i) P.none

    whole : m ≡ suc u - g + g + (m - suc u)
    whole = omega arith

    pair : (t : ℕ) → t < g → term (suc u - g + (g - suc t)) ≡ G (2 * t + e) (u - t)
    pair t l =
        let i : suc u - g + (g - suc t) ≡ u - t = omega arith in
        let j : 2 * u + e - 2 * (u - t) ≡ 2 * t + e = omega arith in
        ap term i
        ∙ cond_true (meets (2 * g) (2 * u + e) (u - t)) (G (2 * u + e - 2 * (u - t)) (u - t)) P.none (meets_yes (2 * g) (2 * u + e) (u - t) (omega arith) (omega arith))
        ∙ ap (λ (k : ℕ). G k (u - t)) j
