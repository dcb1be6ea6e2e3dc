-- Laws of signs that alternate over places: an alternated number is that number times 1 or -1 by the parity of its place, and two such factors make that of both places together.
use Rattle.std.specs.Prelude.{◌≡◌, ◌≢◌, ◌⊎◌, cond, ℕ, ◌+◌, ◌%◌, eqb, ℤ, pos, neg_ℤ, ◌*ℤ◌}
use Rattle.std.proofs.Common.{sym, ap, ◌∙◌, inl, inr, ⊎_elim, arith, eq-eqb, ne_eqb}
use Rattle.std.proofs.Math.Decide.{ℕ_discrete}
use Rattle.numbers.specs.Tests.{cond_true, cond_false}
use Rattle.whole.specs.Integers.{neg_mul, one-mul}
use Rattle.bank.specs.Banks.{alternate}

pub parity : (j : ℕ) → (j % 2 ≡ 0) ⊎ (j % 2 ≡ 1)
parity j = go (ℕ_discrete (j % 2) 0)
  where
    go : Dec (j % 2 ≡ 0) → (j % 2 ≡ 0) ⊎ (j % 2 ≡ 1)
    go (yes p) = inl p
    go (no n) = inr (omega arith)

-- 1 or -1
abbrev pub sign : ℕ → ℤ
sign j = alternate neg_ℤ j (pos 1)

pub alternate_even : (j : ℕ) (z : ℤ) → j % 2 ≡ 0 → alternate neg_ℤ j z ≡ z
alternate_even j z h = cond_true (eqb (j % 2) 0) z (neg_ℤ z) (eq-eqb (j % 2) 0 h)

pub alternate_odd : (j : ℕ) (z : ℤ) → j % 2 ≡ 1 → alternate neg_ℤ j z ≡ neg_ℤ z
alternate_odd j z h = let n : j % 2 ≢ 0 = omega arith in cond_false (eqb (j % 2) 0) z (neg_ℤ z) (ne_eqb (j % 2) 0 n)

pub alternate_sign : (j : ℕ) (z : ℤ) → alternate neg_ℤ j z ≡ sign j *ℤ z
alternate_sign j z =
    ⊎_elim
    (λ p. alternate_even j z p ∙ sym (ap (λ (s : ℤ). s *ℤ z) (alternate_even j (pos 1) p) ∙ one-mul z))
    (λ p. alternate_odd j z p ∙ sym (ap (λ (s : ℤ). s *ℤ z) (alternate_odd j (pos 1) p) ∙ neg_mul (pos 1) z ∙ ap neg_ℤ (one-mul z)))
    (parity j)

pub sign_same : (i j : ℕ) → i % 2 ≡ j % 2 → sign i ≡ sign j
sign_same i j h = ap (λ (r : ℕ). cond (eqb r 0) (pos 1) (neg_ℤ (pos 1))) h

pub sign_mul : (i j : ℕ) → sign i *ℤ sign j ≡ sign (i + j)
sign_mul i j = sym (alternate_sign i (sign j)) ∙ ⊎_elim even odd (parity i)
  where
    even : i % 2 ≡ 0 → alternate neg_ℤ i (sign j) ≡ sign (i + j)
    even p = alternate_even i (sign j) p ∙ sign_same j (i + j) (omega arith)

    odd : i % 2 ≡ 1 → alternate neg_ℤ i (sign j) ≡ sign (i + j)
    odd p =
        alternate_odd i (sign j) p
        ∙ ⊎_elim
        (λ q. ap neg_ℤ (alternate_even j (pos 1) q) ∙ sym (alternate_odd (i + j) (pos 1) (omega arith)))
        (λ q. ap neg_ℤ (alternate_odd j (pos 1) q) ∙ sym (alternate_even (i + j) (pos 1) (omega arith)))
        (parity j)
