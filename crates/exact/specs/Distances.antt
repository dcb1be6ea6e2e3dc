-- Laws of distances with a sign: the second statement's condition is `Restores`, which tells a distance as so far on and so far back, since only the difference of the two says which tap is met.
use Rattle.std.specs.Prelude.{◌≡◌, cond, List, ℕ, zero, suc, ◌+◌, ◌-◌, ◌*◌, ◌/◌, ◌<◌, ltb, eqb, length, ℤ, pos, negsuc, nat_abs, ◌+ℤ◌, ◌*ℤ◌}
use Rattle.std.proofs.Common.{sym, ap, ◌∙◌, arith, lt-ltb, le-ltb, eq-eqb, ne_eqb}
use Rattle.std.proofs.Math.Decide.{dec_lt, ℕ_discrete}
use Rattle.std.proofs.Math.IntN.{sub_ℕ}
use Rattle.numbers.specs.Tests.{cond_true, cond_false}
use Rattle.whole.specs.Sums.{integers, sum}
use Rattle.whole.specs.Terms.{alike}
use Rattle.whole.specs.Floats.{at_ℤ}
use Rattle.exact.specs.Restoring.{tap_at, crossed, weight}
use Rattle.exact.specs.Classes.{moved, share, class, Restores}
use Rattle.exact.specs.Moved.{moved_front, moved_at}

-- y on and c back
back : (y c : ℕ) → y < c → sub_ℕ y c ≡ negsuc (c - suc y)
back y c l = cond_true (ltb y c) (negsuc (c - suc y)) (pos (y - c)) (lt-ltb y c l)

on : (y c : ℕ) → (y < c → ⊥) → sub_ℕ y c ≡ pos (y - c)
on y c n = cond_false (ltb y c) (negsuc (c - suc y)) (pos (y - c)) (le-ltb y c (omega arith))

moved_tap : (z : List ℤ) (p y c : ℕ) → moved (at_ℤ z) c (p + y) ≡ tap_at z (pos p +ℤ sub_ℕ y c)
moved_tap z p y c = go (dec_lt y c) (dec_lt (p + y) c)
  where
    go : Dec (y < c) → Dec (p + y < c) → moved (at_ℤ z) c (p + y) ≡ tap_at z (pos p +ℤ sub_ℕ y c)
    go (no n) d =
        moved_at (at_ℤ z) c (p + y) (p + (y - c)) (omega arith)
        ∙ sym (ap (λ (d : ℤ). tap_at z (pos p +ℤ d)) (on y c n))
    go (yes l) (yes k) =
        moved_front (at_ℤ z) c (p + y) k
        ∙ sym (ap (λ (d : ℤ). tap_at z (pos p +ℤ d)) (back y c l) ∙ ap (tap_at z) (back p (suc (c - suc y)) (omega arith)))
    go (yes l) (no k) =
        moved_at (at_ℤ z) c (p + y) (p - suc (c - suc y)) (omega arith)
        ∙ sym (ap (λ (d : ℤ). tap_at z (pos p +ℤ d)) (back y c l) ∙ ap (tap_at z) (on p (suc (c - suc y)) (omega arith)))

share_crossed : (g : ℕ) (s a : List ℤ) (e y c : ℕ) → length s ≡ 2 * g → share g (at_ℤ s) (at_ℤ a) e y c ≡ crossed s a e (sub_ℕ y c)
share_crossed g s a e y c n =
    alike integers g (λ t. at_ℤ s (2 * t + e) *ℤ moved (at_ℤ a) c (2 * t + e + y)) (λ t. at_ℤ s (2 * t + e) *ℤ tap_at a (pos (2 * t + e) +ℤ sub_ℕ y c))
    (λ t l. ap (λ (v : ℤ). at_ℤ s (2 * t + e) *ℤ v) (moved_tap a (2 * t + e) y c))
    ∙ ap (λ (k : ℕ). sum integers k (λ t. at_ℤ s (2 * t + e) *ℤ tap_at a (pos (2 * t + e) +ℤ sub_ℕ y c))) half
  where
    half : g ≡ length s / 2
    half = omega arith

module _ (g : ℕ) (S : ℤ) (al ah sl sh : List ℤ) (lows : length sl ≡ 2 * g) (highs : length sh ≡ 2 * g) where
  class_weight : (e y c : ℕ) → class g (at_ℤ sl) (at_ℤ sh) (at_ℤ al) (at_ℤ ah) e y c ≡ weight al ah sl sh e (sub_ℕ y c)
  class_weight e y c =
      ap (λ (v : ℤ). v +ℤ share g (at_ℤ sh) (at_ℤ ah) e y c) (share_crossed g sl al e y c lows)
      ∙ ap (λ (v : ℤ). crossed sl al e (sub_ℕ y c) +ℤ v) (share_crossed g sh ah e y c highs)

  pub restores_by : ((e : ℕ) → e < 2 → weight al ah sl sh e (pos 0) ≡ S) → ((e : ℕ) (d : ℤ) → e < 2 → 0 < nat_abs d → weight al ah sl sh e d ≡ pos 0)
      → Restores g S (at_ℤ sl) (at_ℤ sh) (at_ℤ al) (at_ℤ ah)
  restores_by here apart = record { classes = λ e y c h. class_weight e y c ∙ go e y c h (ℕ_discrete y c) (dec_lt y c) }
    where
      go : (e y c : ℕ) → e < 2 → Dec (y ≡ c) → Dec (y < c) → weight al ah sl sh e (sub_ℕ y c) ≡ cond (eqb y c) S (pos 0)
      go e y c h (yes p) d = ap (weight al ah sl sh e) (on y c (omega arith) ∙ ap pos (omega arith)) ∙ here e h ∙ sym (cond_true (eqb y c) S (pos 0) (eq-eqb y c p))
      go e y c h (no n) (yes l) = apart e (sub_ℕ y c) h (rw (back y c l) (omega arith)) ∙ sym (cond_false (eqb y c) S (pos 0) (ne_eqb y c n))
      go e y c h (no n) (no m) = apart e (sub_ℕ y c) h (rw (on y c m) (omega arith)) ∙ sym (cond_false (eqb y c) S (pos 0) (ne_eqb y c n))

  module _ (r : Restores g S (at_ℤ sl) (at_ℤ sh) (at_ℤ al) (at_ℤ ah)) where
    told : {d : ℤ} (e y c : ℕ) → e < 2 → (y ≡ c → ⊥) → sub_ℕ y c ≡ d → weight al ah sl sh e d ≡ pos 0
    told e y c h n q = ap (weight al ah sl sh e) (sym q) ∙ sym (class_weight e y c) ∙ r.classes e y c h ∙ cond_false (eqb y c) S (pos 0) (ne_eqb y c n)

    pub restores_here : (e : ℕ) → e < 2 → weight al ah sl sh e (pos 0) ≡ S
    restores_here e h = sym (class_weight e 0 0) ∙ r.classes e 0 0 h

    pub restores_apart : (e : ℕ) (d : ℤ) → e < 2 → 0 < nat_abs d → weight al ah sl sh e d ≡ pos 0
    restores_apart e (pos zero) h k = absurd (omega arith)
    restores_apart e (pos (suc n)) h k = told e (suc n) 0 h (omega arith) (on (suc n) 0 (omega arith) ∙ ap pos (omega arith))
    restores_apart e (negsuc n) h k = told e 0 (suc n) h (omega arith) (back 0 (suc n) (omega arith) ∙ ap negsuc (omega arith))
