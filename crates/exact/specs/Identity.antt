-- Laws of four lists of taps in whole numbers: where they meet `Restores`, what synthesis makes of analysis is S times the line, at every place that g pairs reach.
-- The place is a sum over the line, in which every place weighs as much as a class of the condition: S for the place itself, 0 for all others.
use Rattle.std.specs.Prelude.{◌≡◌, refl, ℕ, suc, ◌+◌, ◌-◌, ◌*◌, ◌≤◌, ◌<◌, eqb, ℤ, pos, ◌+ℤ◌, ◌*ℤ◌}
use Rattle.std.proofs.Common.{sym, ap, ◌∙◌, arith, eq-eqb, ne_eqb}
use Rattle.std.proofs.Math.IntN.{+ℤ_comm, zero-*ℤ}
use Rattle.numbers.specs.Tests.{cond_true, cond_false}
use Rattle.whole.specs.Sums.{integers, sum}
use Rattle.whole.specs.Terms.{factor, factor_behind, alike, together, exchange, only}
use Rattle.whole.specs.Integers.{add-mul, mul_assoc}
use Rattle.exact.specs.Moved.{moved_same, line_sum_lem}
use Rattle.exact.specs.Classes.{analysed_ℤ, joins_ℤ, moved, share, class, Restores}
use Rattle.exact.specs.Reach.{reach}

module _ (g u e m : ℕ) (x : ℕ → ℤ) (hg : g ≤ suc u) (hu : u < m) where
  abbrev P : ℕ
  P = 2 * u + e

  -- as many places of the line as any sum here reads
  abbrev M : ℕ
  M = 2 * m + 2 * g

  -- a band's place as a sum over the line, by the distance from P
  band_sum : (w : ℕ → ℤ) → ((k : ℕ) → 2 * g ≤ k → w k ≡ pos 0) → (t : ℕ) → t < g → analysed_ℤ (2 * g) w x (u - t) ≡ sum integers M (λ q. moved w P (2 * t + e + q) *ℤ x q)
  band_sum w z t l =
      line_sum_lem w x (2 * g) (2 * (u - t)) M (omega arith) z
      ∙ alike integers M (λ q. moved w (2 * (u - t)) q *ℤ x q) (λ q. moved w P (2 * t + e + q) *ℤ x q)
      (λ q k. ap (λ (v : ℤ). v *ℤ x q) (moved_same w (2 * (u - t)) q P (2 * t + e + q) (omega arith)))

  -- what one band brings to P, as a sum over the line
  share_sum : (s a : ℕ → ℤ) → ((k : ℕ) → 2 * g ≤ k → a k ≡ pos 0)
      → sum integers g (λ t. s (2 * t + e) *ℤ analysed_ℤ (2 * g) a x (u - t)) ≡ sum integers M (λ q. share g s a e q P *ℤ x q)
  share_sum s a z =
      alike integers g (λ t. s (2 * t + e) *ℤ analysed_ℤ (2 * g) a x (u - t)) (λ t. sum integers M (λ q. s (2 * t + e) *ℤ moved a P (2 * t + e + q) *ℤ x q)) inside
      ∙ exchange integers g M (λ t q. s (2 * t + e) *ℤ moved a P (2 * t + e + q) *ℤ x q)
      ∙ alike integers M (λ q. sum integers g (λ t. s (2 * t + e) *ℤ moved a P (2 * t + e + q) *ℤ x q)) (λ q. share g s a e q P *ℤ x q)
      (λ q l. factor_behind (x q) g (λ t. s (2 * t + e) *ℤ moved a P (2 * t + e + q)))
    where
      inside : (t : ℕ) → t < g → s (2 * t + e) *ℤ analysed_ℤ (2 * g) a x (u - t) ≡ sum integers M (λ q. s (2 * t + e) *ℤ moved a P (2 * t + e + q) *ℤ x q)
      inside t l =
          ap (λ (v : ℤ). s (2 * t + e) *ℤ v) (band_sum a z t l)
          ∙ sym (factor (s (2 * t + e)) M (λ q. moved a P (2 * t + e + q) *ℤ x q))
          ∙ alike integers M (λ q. s (2 * t + e) *ℤ (moved a P (2 * t + e + q) *ℤ x q)) (λ q. s (2 * t + e) *ℤ moved a P (2 * t + e + q) *ℤ x q)
          (λ q k. sym (mul_assoc (s (2 * t + e)) (moved a P (2 * t + e + q)) (x q)))

  pub identity : (S : ℤ) (sl sh al ah : ℕ → ℤ) → e < 2 → ((k : ℕ) → 2 * g ≤ k → al k ≡ pos 0) → ((k : ℕ) → 2 * g ≤ k → ah k ≡ pos 0) → Restores g S sl sh al ah
      → sum integers m (joins_ℤ (2 * g) sl sh (analysed_ℤ (2 * g) al x) (analysed_ℤ (2 * g) ah x) P) ≡ S *ℤ x P
  identity S sl sh al ah he zl zh r =
      reach integers g u e m (λ j i. sh j *ℤ analysed_ℤ (2 * g) ah x i +ℤ sl j *ℤ analysed_ℤ (2 * g) al x i) he hg hu
      ∙ together integers g (λ t. sh (2 * t + e) *ℤ analysed_ℤ (2 * g) ah x (u - t)) (λ t. sl (2 * t + e) *ℤ analysed_ℤ (2 * g) al x (u - t))
      ∙ ap (λ (v : ℤ). v +ℤ sum integers g (λ t. sl (2 * t + e) *ℤ analysed_ℤ (2 * g) al x (u - t))) (share_sum sh ah zh)
      ∙ ap (λ (v : ℤ). sum integers M (λ q. share g sh ah e q P *ℤ x q) +ℤ v) (share_sum sl al zl)
      ∙ sym (together integers M (λ q. share g sh ah e q P *ℤ x q) (λ q. share g sl al e q P *ℤ x q))
      ∙ alike integers M (λ q. share g sh ah e q P *ℤ x q +ℤ share g sl al e q P *ℤ x q) (λ q. class g sl sh al ah e q P *ℤ x q)
      (λ q l. +ℤ_comm (share g sh ah e q P *ℤ x q) (share g sl al e q P *ℤ x q) ∙ sym (add-mul (share g sl al e q P) (share g sh ah e q P) (x q)))
      ∙ only integers M P (λ q. class g sl sh al ah e q P *ℤ x q) (omega arith)
      (λ q n. ap (λ (v : ℤ). v *ℤ x q) (r.classes e q P he ∙ cond_false (eqb q P) S (pos 0) (ne_eqb q P n)) ∙ zero-*ℤ (x q))
      ∙ ap (λ (v : ℤ). v *ℤ x P) (r.classes e P P he ∙ cond_true (eqb P P) S (pos 0) (eq-eqb P P refl))
