-- Laws of whole numbers: the product of ℤ spreads over sums and takes brackets, since each step of one factor adds or takes away the other; sizes of sums and products; and products, too, can be taken in any order.
use Rattle.std.specs.Prelude.{◌≡◌, refl, ℕ, zero, suc, ◌+◌, ◌*◌, ◌-◌, ◌≤◌, Bool, true, false, cond, ltb, ℤ, pos, negsuc, neg_ℤ, nat_abs, ◌+ℤ◌, ◌*ℤ◌}
use Rattle.std.proofs.Common.{sym, ap, ◌∙◌, arith}
use Rattle.std.proofs.Math.IntN.{suc_ℤ, pred_ℤ, sub_ℕ, +ℤ_idl, +ℤ_idr, +ℤ_assoc, +ℤ_invr, +ℤ_invl, +ℤ-suc_ℤ, +ℤ-pred_ℤ, zero-*ℤ, *ℤ_comm, *ℤ-one, one, suc_ℤ-*ℤ, pred_ℤ-*ℤ}
use Rattle.whole.specs.Sums.{Adding}

-- what holds of 0 and goes one step up and one step down holds of every integer
by_steps : (P : ℤ → Type 0) → P (pos 0) → ((b : ℤ) → P b → P (suc_ℤ b)) → ((b : ℤ) → P b → P (pred_ℤ b)) → (b : ℤ) → P b
by_steps P z u d (pos zero) = z
by_steps P z u d (pos (suc n)) = u (pos n) (by_steps P z u d (pos n))
by_steps P z u d (negsuc zero) = d (pos 0) z
by_steps P z u d (negsuc (suc n)) = d (negsuc n) (by_steps P z u d (negsuc n))

pub add-mul : (a b c : ℤ) → (a +ℤ b) *ℤ c ≡ a *ℤ c +ℤ b *ℤ c
add-mul a b c = by_steps (λ (b : ℤ). (a +ℤ b) *ℤ c ≡ a *ℤ c +ℤ b *ℤ c) start up down b
  where
    start : (a +ℤ pos 0) *ℤ c ≡ a *ℤ c +ℤ pos 0 *ℤ c
    start = ap (λ (x : ℤ). x *ℤ c) (+ℤ_idr a) ∙ sym (ap (λ (x : ℤ). a *ℤ c +ℤ x) (zero-*ℤ c) ∙ +ℤ_idr (a *ℤ c))

    up : (b : ℤ) → (a +ℤ b) *ℤ c ≡ a *ℤ c +ℤ b *ℤ c → (a +ℤ suc_ℤ b) *ℤ c ≡ a *ℤ c +ℤ suc_ℤ b *ℤ c
    up b h =
        ap (λ (x : ℤ). x *ℤ c) (+ℤ-suc_ℤ a b) ∙ suc_ℤ-*ℤ (a +ℤ b) c ∙ ap (λ (x : ℤ). x +ℤ c) h
        ∙ +ℤ_assoc (a *ℤ c) (b *ℤ c) c ∙ ap (λ (x : ℤ). a *ℤ c +ℤ x) (sym (suc_ℤ-*ℤ b c))

    down : (b : ℤ) → (a +ℤ b) *ℤ c ≡ a *ℤ c +ℤ b *ℤ c → (a +ℤ pred_ℤ b) *ℤ c ≡ a *ℤ c +ℤ pred_ℤ b *ℤ c
    down b h =
        ap (λ (x : ℤ). x *ℤ c) (+ℤ-pred_ℤ a b) ∙ pred_ℤ-*ℤ (a +ℤ b) c ∙ ap (λ (x : ℤ). x +ℤ neg_ℤ c) h
        ∙ +ℤ_assoc (a *ℤ c) (b *ℤ c) (neg_ℤ c) ∙ ap (λ (x : ℤ). a *ℤ c +ℤ x) (sym (pred_ℤ-*ℤ b c))

pub mul-add : (a b c : ℤ) → a *ℤ (b +ℤ c) ≡ a *ℤ b +ℤ a *ℤ c
mul-add a b c = *ℤ_comm a (b +ℤ c) ∙ add-mul b c a ∙ ap (λ (x : ℤ). x +ℤ c *ℤ a) (*ℤ_comm b a) ∙ ap (λ (x : ℤ). a *ℤ b +ℤ x) (*ℤ_comm c a)

-- what makes a number nothing is its negative
neg_alone : (a b : ℤ) → a +ℤ b ≡ pos 0 → b ≡ neg_ℤ a
neg_alone a b h =
    sym (+ℤ_idl b) ∙ ap (λ (x : ℤ). x +ℤ b) (sym (+ℤ_invl a))
    ∙ +ℤ_assoc (neg_ℤ a) a b ∙ ap (λ (x : ℤ). neg_ℤ a +ℤ x) h ∙ +ℤ_idr (neg_ℤ a)

pub neg_mul : (a b : ℤ) → neg_ℤ a *ℤ b ≡ neg_ℤ (a *ℤ b)
neg_mul a b = neg_alone (a *ℤ b) (neg_ℤ a *ℤ b) (sym (add-mul a (neg_ℤ a) b) ∙ ap (λ (x : ℤ). x *ℤ b) (+ℤ_invr a) ∙ zero-*ℤ b)

pub mul_neg : (a b : ℤ) → a *ℤ neg_ℤ b ≡ neg_ℤ (a *ℤ b)
mul_neg a b = *ℤ_comm a (neg_ℤ b) ∙ neg_mul b a ∙ ap neg_ℤ (*ℤ_comm b a)

pub mul_assoc : (a b c : ℤ) → (a *ℤ b) *ℤ c ≡ a *ℤ (b *ℤ c)
mul_assoc a b c = by_steps (λ (a : ℤ). (a *ℤ b) *ℤ c ≡ a *ℤ (b *ℤ c)) start up down a
  where
    start : (pos 0 *ℤ b) *ℤ c ≡ pos 0 *ℤ (b *ℤ c)
    start = ap (λ (x : ℤ). x *ℤ c) (zero-*ℤ b) ∙ zero-*ℤ c ∙ sym (zero-*ℤ (b *ℤ c))

    up : (a : ℤ) → (a *ℤ b) *ℤ c ≡ a *ℤ (b *ℤ c) → (suc_ℤ a *ℤ b) *ℤ c ≡ suc_ℤ a *ℤ (b *ℤ c)
    up a h = ap (λ (x : ℤ). x *ℤ c) (suc_ℤ-*ℤ a b) ∙ add-mul (a *ℤ b) b c ∙ ap (λ (x : ℤ). x +ℤ b *ℤ c) h ∙ sym (suc_ℤ-*ℤ a (b *ℤ c))

    down : (a : ℤ) → (a *ℤ b) *ℤ c ≡ a *ℤ (b *ℤ c) → (pred_ℤ a *ℤ b) *ℤ c ≡ pred_ℤ a *ℤ (b *ℤ c)
    down a h =
        ap (λ (x : ℤ). x *ℤ c) (pred_ℤ-*ℤ a b) ∙ add-mul (a *ℤ b) (neg_ℤ b) c
        ∙ ap (λ (x : ℤ). x +ℤ neg_ℤ b *ℤ c) h ∙ ap (λ (x : ℤ). a *ℤ (b *ℤ c) +ℤ x) (neg_mul b c) ∙ sym (pred_ℤ-*ℤ a (b *ℤ c))

pub one-mul : (a : ℤ) → pos 1 *ℤ a ≡ a
unfolding one
one-mul a = *ℤ_comm (pos 1) a ∙ *ℤ-one a

-- products as sums
abbrev pub products : Adding ℤ
products = record { none = pos 1; plus = ◌*ℤ◌; idl = one-mul; comm = *ℤ_comm; assoc = mul_assoc }

-- ---- sizes
pub size_neg : (a : ℤ) → nat_abs (neg_ℤ a) ≡ nat_abs a
size_neg (pos zero) = refl
size_neg (pos (suc n)) = refl
size_neg (negsuc n) = refl

size_sub : (a b : ℕ) → nat_abs (sub_ℕ a (suc b)) ≤ a + suc b
size_sub a b = either (ltb a (suc b)) (suc b - suc a) (a - suc b) (a + suc b) (omega arith) (omega arith)
  where
    either : (t : Bool) (u v n : ℕ) → suc u ≤ n → v ≤ n → nat_abs (cond t (negsuc u) (pos v)) ≤ n
    either true u v n h k = h
    either false u v n h k = k

pub size_add : (a b : ℤ) → nat_abs (a +ℤ b) ≤ nat_abs a + nat_abs b
size_add (pos a) (pos b) = omega arith
size_add (pos a) (negsuc b) = size_sub a b
size_add (negsuc a) (pos b) = omega (arith, size_sub b a)
size_add (negsuc a) (negsuc b) = omega arith

pub size_mul : (a b : ℤ) → nat_abs (a *ℤ b) ≡ nat_abs a * nat_abs b
size_mul (pos a) (pos b) = refl
size_mul (pos a) (negsuc b) = size_neg (pos (a * suc b))
size_mul (negsuc a) (pos b) = size_neg (pos (suc a * b))
size_mul (negsuc a) (negsuc b) = refl
