-- Laws of a mirror bank in whole numbers: low taps whose products at even distances sum to zero, with high taps by the mirror rule and the same taps both ways, meet `Restores`.
-- In each class the high taps give, up to the sign of the distance, what the low taps of the other parity give: at odd distances the two cancel, at even ones they make up the whole sum.
use Rattle.std.specs.Prelude.{◌≡◌, ◌≢◌, cond, ℕ, zero, suc, ◌+◌, ◌-◌, ◌*◌, ◌/◌, ◌%◌, ◌≤◌, ◌<◌, eqb, ℤ, pos, neg_ℤ, ◌+ℤ◌, ◌*ℤ◌}
use Rattle.std.proofs.Common.{sym, ap, ◌∙◌, ⊎_elim, add-zero, arith, eq-eqb, ne_eqb}
use Rattle.std.proofs.Math.Decide.{dec_lt, ℕ_discrete}
use Rattle.std.proofs.Math.IntN.{+ℤ_comm, +ℤ_invr, *ℤ-zero, *ℤ_comm}
use Rattle.numbers.specs.Tests.{cond_true, cond_false}
use Rattle.whole.specs.Sums.{integers, sum}
use Rattle.whole.specs.Terms.{factor, middle, alike, cut, reverse, by_parity}
use Rattle.whole.specs.Integers.{products}
use Rattle.bank.specs.Banks.{alternate}
use Rattle.exact.specs.Signs.{parity, sign, alternate_even, alternate_odd, alternate_sign, sign_same, sign_mul}
use Rattle.exact.specs.Classes.{moved, share, Restores}
use Rattle.exact.specs.Moved.{moved_front, moved_at, moved_same, line_sum_lem}

-- ---- the low taps, each times the one y - c further on
module _ (g : ℕ) (low : ℕ → ℤ) (past : (j : ℕ) → 2 * g ≤ j → low j ≡ pos 0) where
  -- the same pairs of taps from the other end: a distance and back
  turn_on : (e e' y c k : ℕ) → e' < 2 → c + e' ≡ y + e + 2 * k → share g low low e y c ≡ share g low low e' c y
  turn_on e e' y c k h q =
      alike integers g (λ t. low (2 * t + e) *ℤ moved low c (2 * t + e + y)) (λ t. moved there k t *ℤ here t)
      (λ t l. *ℤ_comm (low (2 * t + e)) (moved low c (2 * t + e + y)) ∙ ap (λ (v : ℤ). v *ℤ low (2 * t + e)) (by_halves t))
      ∙ sym (cut integers g k (λ t. moved there k t *ℤ here t) (λ t l. ap (λ (v : ℤ). moved there k (g + t) *ℤ v) (past (2 * (g + t) + e) (omega arith)) ∙ *ℤ-zero (moved there k (g + t))))
      ∙ sym (line_sum_lem there here g k (g + k) (omega arith) (λ t l. past (2 * t + e') (omega arith)))
      ∙ alike integers g (λ t. there t *ℤ here (k + t)) (λ t. low (2 * t + e') *ℤ moved low y (2 * t + e' + c))
      (λ t l. ap (λ (v : ℤ). low (2 * t + e') *ℤ v) (sym (moved_at low y (2 * t + e' + c) (2 * (k + t) + e) (omega arith))))
    where
      here : ℕ → ℤ
      here t = low (2 * t + e)

      there : ℕ → ℤ
      there t = low (2 * t + e')

      by_halves : (t : ℕ) → moved low c (2 * t + e + y) ≡ moved there k t
      by_halves t = go (dec_lt t k)
        where
          go : Dec (t < k) → moved low c (2 * t + e + y) ≡ moved there k t
          go (yes l) = moved_front low c (2 * t + e + y) (omega arith) ∙ sym (moved_front there k t l)
          go (no n) = moved_at low c (2 * t + e + y) (2 * (t - k) + e') (omega arith) ∙ sym (moved_at there k t (t - k) (omega arith))

  turn : (e e' y c : ℕ) → e < 2 → e' < 2 → (y + e) % 2 ≡ (c + e') % 2 → share g low low e y c ≡ share g low low e' c y
  turn e e' y c h h' q = go (dec_lt (c + e') (y + e))
    where
      go : Dec (c + e' < y + e) → share g low low e y c ≡ share g low low e' c y
      go (yes l) = sym (turn_on e' e c y ((y + e - (c + e')) / 2) h (omega arith))
      go (no n) = turn_on e e' y c ((c + e' - (y + e)) / 2) h' (omega arith)

  -- both parities are all the taps
  parities : (e y c : ℕ) → e < 2 → share g low low e y c +ℤ share g low low (1 - e) y c ≡ sum integers (2 * g) (λ j. low j *ℤ moved low c (j + y))
  parities zero y c h =
      ap (λ (v : ℤ). v +ℤ share g low low 1 y c)
      (alike integers g (λ t. low (2 * t + 0) *ℤ moved low c (2 * t + 0 + y)) (λ t. low (2 * t) *ℤ moved low c (2 * t + y)) (λ t l. ap (λ (j : ℕ). low j *ℤ moved low c (j + y)) (add-zero (2 * t))))
      ∙ sym (by_parity integers g (λ j. low j *ℤ moved low c (j + y)))
  parities (suc zero) y c h = +ℤ_comm (share g low low 1 y c) (share g low low 0 y c) ∙ parities zero y c (omega arith)
  parities (suc (suc e)) y c h = absurd (omega arith)

  -- at even distances
  module _ (S : ℤ) (square : sum integers (2 * g) (λ j. low j *ℤ low j) ≡ S) (apart : (k : ℕ) → 0 < k → sum integers (2 * g) (λ j. low j *ℤ low (j + 2 * k)) ≡ pos 0) where
    further : (e y c : ℕ) → e < 2 → (y + c) % 2 ≡ 0 → c < y → share g low low e y c +ℤ share g low low (1 - e) y c ≡ pos 0
    further e y c h q l =
        parities e y c h
        ∙ alike integers (2 * g) (λ j. low j *ℤ moved low c (j + y)) (λ j. low j *ℤ low (j + 2 * k)) (λ j i. ap (λ (v : ℤ). low j *ℤ v) (moved_at low c (j + y) (j + 2 * k) (omega arith)))
        ∙ apart k (omega arith)
      where
        k : ℕ
        k = (y - c) / 2

    even_distance : (e y c : ℕ) → e < 2 → (y + c) % 2 ≡ 0 → share g low low e y c +ℤ share g low low (1 - e) y c ≡ cond (eqb y c) S (pos 0)
    even_distance e y c h q = go (ℕ_discrete y c) (dec_lt c y)
      where
        go : Dec (y ≡ c) → Dec (c < y) → share g low low e y c +ℤ share g low low (1 - e) y c ≡ cond (eqb y c) S (pos 0)
        go (yes p) d =
            parities e y c h
            ∙ alike integers (2 * g) (λ j. low j *ℤ moved low c (j + y)) (λ j. low j *ℤ low j) (λ j i. ap (λ (v : ℤ). low j *ℤ v) (moved_at low c (j + y) j (omega arith)))
            ∙ square ∙ sym (cond_true (eqb y c) S (pos 0) (eq-eqb y c p))
        go (no n) (yes l) = further e y c h q l ∙ sym (cond_false (eqb y c) S (pos 0) (ne_eqb y c n))
        go (no n) (no m) =
            ap (λ (v : ℤ). v +ℤ share g low low (1 - e) y c) (turn e e y c h h (omega arith))
            ∙ ap (λ (v : ℤ). share g low low e c y +ℤ v) (turn (1 - e) (1 - e) y c (omega arith) (omega arith) (omega arith))
            ∙ further e c y h (omega arith) (omega arith) ∙ sym (cond_false (eqb y c) S (pos 0) (ne_eqb y c n))

    -- ---- the high taps
    module _ (high : ℕ → ℤ) (inside : (j : ℕ) → j < 2 * g → high j ≡ alternate neg_ℤ j (low (2 * g - 1 - j))) (beyond : (j : ℕ) → 2 * g ≤ j → high j ≡ pos 0) (some : 0 < g) where
      mirror_moved : (q c : ℕ) → moved high c q ≡ sign (q + c) *ℤ moved low q (2 * g - 1 + c)
      mirror_moved q c = go (dec_lt q c) (dec_lt (q - c) (2 * g))
        where
          none : {u v : ℤ} → u ≡ pos 0 → v ≡ pos 0 → u ≡ sign (q + c) *ℤ v
          none p r = p ∙ sym (ap (λ (v : ℤ). sign (q + c) *ℤ v) r ∙ *ℤ-zero (sign (q + c)))

          go : Dec (q < c) → Dec (q - c < 2 * g) → moved high c q ≡ sign (q + c) *ℤ moved low q (2 * g - 1 + c)
          go (yes l) d = none (moved_front high c q l) (moved_at low q (2 * g - 1 + c) (2 * g - 1 + c - q) (omega arith) ∙ past (2 * g - 1 + c - q) (omega arith))
          go (no n) (no m) = none (moved_at high c q (q - c) (omega arith) ∙ beyond (q - c) (omega arith)) (moved_front low q (2 * g - 1 + c) (omega arith))
          go (no n) (yes l) =
              moved_at high c q (q - c) (omega arith) ∙ inside (q - c) l ∙ alternate_sign (q - c) (low (2 * g - 1 - (q - c)))
              ∙ ap (λ (s : ℤ). s *ℤ low (2 * g - 1 - (q - c))) (sign_same (q - c) (q + c) (omega arith))
              ∙ ap (λ (v : ℤ). sign (q + c) *ℤ v) (sym (moved_at low q (2 * g - 1 + c) (2 * g - 1 - (q - c)) (omega arith)))

      -- a class of the high taps, by the low taps of the other parity
      high_class : (e y c : ℕ) → e < 2 → share g high high e y c ≡ sign (y + c) *ℤ share g low low (1 - e) c y
      high_class e y c h =
          alike integers g (λ t. high (2 * t + e) *ℤ moved high c (2 * t + e + y)) (λ t. sign (y + c) *ℤ term t) signed
          ∙ factor (sign (y + c)) g term
          ∙ ap (λ (v : ℤ). sign (y + c) *ℤ v) (reverse integers g term ∙ alike integers g (λ t. term (g - suc t)) (λ t. low (2 * t + (1 - e)) *ℤ moved low y (2 * t + (1 - e) + c)) from_end)
        where
          term : ℕ → ℤ
          term t = low (2 * g - 1 - (2 * t + e)) *ℤ moved low (2 * t + e + y) (2 * g - 1 + c)

          signed : (t : ℕ) → t < g → high (2 * t + e) *ℤ moved high c (2 * t + e + y) ≡ sign (y + c) *ℤ term t
          signed t l =
              let j = 2 * t + e in
              ap (λ (v : ℤ). v *ℤ moved high c (j + y)) (inside j (omega arith) ∙ alternate_sign j (low (2 * g - 1 - j)))
              ∙ ap (λ (v : ℤ). sign j *ℤ low (2 * g - 1 - j) *ℤ v) (mirror_moved (j + y) c)
              ∙ middle products (sign j) (low (2 * g - 1 - j)) (sign (j + y + c)) (moved low (j + y) (2 * g - 1 + c))
              ∙ ap (λ (s : ℤ). s *ℤ term t) (sign_mul j (j + y + c) ∙ sign_same (j + (j + y + c)) (y + c) (omega arith))

          from_end : (t : ℕ) → t < g → term (g - suc t) ≡ low (2 * t + (1 - e)) *ℤ moved low y (2 * t + (1 - e) + c)
          from_end t l =
              let i : 2 * g - 1 - (2 * (g - suc t) + e) ≡ 2 * t + (1 - e) = omega arith in
              ap (λ (j : ℕ). low j *ℤ moved low (2 * (g - suc t) + e + y) (2 * g - 1 + c)) i
              ∙ ap (λ (v : ℤ). low (2 * t + (1 - e)) *ℤ v) (moved_same low (2 * (g - suc t) + e + y) (2 * g - 1 + c) y (2 * t + (1 - e) + c) (omega arith))

      pub mirror_restores : Restores g S low high low high
      mirror_restores = record {
        classes = λ e y c h.
            ap (λ (v : ℤ). share g low low e y c +ℤ v) (high_class e y c h ∙ sym (alternate_sign (y + c) (share g low low (1 - e) c y)))
            ∙ ⊎_elim (even e y c h) (odd e y c h) (parity (y + c));
      }
        where
          even : (e y c : ℕ) → e < 2 → (y + c) % 2 ≡ 0 → share g low low e y c +ℤ alternate neg_ℤ (y + c) (share g low low (1 - e) c y) ≡ cond (eqb y c) S (pos 0)
          even e y c h p =
              ap (λ (v : ℤ). share g low low e y c +ℤ v) (alternate_even (y + c) (share g low low (1 - e) c y) p ∙ turn (1 - e) (1 - e) c y (omega arith) (omega arith) (omega arith))
              ∙ even_distance e y c h p

          odd : (e y c : ℕ) → e < 2 → (y + c) % 2 ≡ 1 → share g low low e y c +ℤ alternate neg_ℤ (y + c) (share g low low (1 - e) c y) ≡ cond (eqb y c) S (pos 0)
          odd e y c h p =
              let n : y ≢ c = omega arith in
              ap (λ (v : ℤ). share g low low e y c +ℤ v) (alternate_odd (y + c) (share g low low (1 - e) c y) p ∙ ap neg_ℤ (turn (1 - e) e c y (omega arith) h (omega arith)))
              ∙ +ℤ_invr (share g low low e y c) ∙ sym (cond_false (eqb y c) S (pos 0) (ne_eqb y c n))
