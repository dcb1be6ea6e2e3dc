-- Laws of taps moved along a line: only the distance matters, and a sum over taps that begin at a place is a sum over the line.
use Rattle.std.specs.Prelude.{◌≡◌, refl, ℕ, ◌+◌, ◌-◌, ◌≤◌, ◌<◌, ℤ, pos, ◌*ℤ◌}
use Rattle.std.proofs.Common.{sym, ap, ◌∙◌, arith, lt-ltb, le-ltb}
use Rattle.std.proofs.Math.Decide.{dec_lt}
use Rattle.std.proofs.Math.IntN.{zero-*ℤ}
use Rattle.whole.specs.Sums.{integers, sum}
use Rattle.whole.specs.Terms.{alike, window}
use Rattle.exact.specs.Classes.{moved}

pub moved_front : (w : ℕ → ℤ) (c y : ℕ) → y < c → moved w c y ≡ pos 0
unfolding moved
moved_front w c y h = simp (lt-ltb y c h)

pub moved_at : (w : ℕ → ℤ) (c y k : ℕ) → y ≡ c + k → moved w c y ≡ w k
unfolding moved
moved_at w c y k h =
    let e : y - c ≡ k = omega arith in
    simp (le-ltb y c (omega arith), e)

-- the distance alone matters
pub moved_same : (w : ℕ → ℤ) (c y c' y' : ℕ) → y + c' ≡ y' + c → moved w c y ≡ moved w c' y'
moved_same w c y c' y' h = go (dec_lt y c)
  where
    go : Dec (y < c) → moved w c y ≡ moved w c' y'
    go (yes l) = moved_front w c y l ∙ sym (moved_front w c' y' (omega arith))
    go (no n) = moved_at w c y (y - c) (omega arith) ∙ sym (moved_at w c' y' (y - c) (omega arith))

-- a sum over taps that begin at place s of the line, as a sum over the line
pub line_sum_lem : (w x : ℕ → ℤ) (F s M : ℕ) → s + F ≤ M → ((k : ℕ) → F ≤ k → w k ≡ pos 0)
    → sum integers F (λ k. w k *ℤ x (s + k)) ≡ sum integers M (λ q. moved w s q *ℤ x q)
line_sum_lem w x F s M h z = sym (
    ap (λ (n : ℕ). sum integers n (λ q. moved w s q *ℤ x q)) whole
    ∙ window integers s F (M - (s + F)) (λ q. moved w s q *ℤ x q)
    (λ i l. ap (λ (v : ℤ). v *ℤ x i) (moved_front w s i l) ∙ zero-*ℤ (x i))
    (λ i l. ap (λ (v : ℤ). v *ℤ x (s + F + i)) (moved_at w s (s + F + i) (F + i) (omega arith) ∙ z (F + i) (omega arith)) ∙ zero-*ℤ (x (s + F + i)))
    ∙ alike integers F (λ k. moved w s (s + k) *ℤ x (s + k)) (λ k. w k *ℤ x (s + k)) (λ k l. ap (λ (v : ℤ). v *ℤ x (s + k)) (moved_at w s (s + k) k refl)))
  where
    whole : M ≡ s + F + (M - (s + F))
    whole = omega arith
