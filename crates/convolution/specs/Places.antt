-- Laws of the pads: the left one in plain numbers for a centre of either sign, and what a machine's signed numbers give.
use Rattle.std.specs.Prelude.{◌≡◌, refl, ltb, T, pos, negsuc, ◌-ℤ◌, ℤ, nat_abs, ◌%◌, ◌-◌, ◌/◌, ◌<◌, ◌≤◌, suc, zero, ℕ, ◌+◌, Bool, cond, false, true, ◌||◌}
use Rattle.std.proofs.Common.{◌∙◌, ap, subst, sym, lt-ltb, ltb-true, le-ltb, ltb-false, arith, SFits, of_z, to_z}
use Rattle.convolution.specs.Pads.{above, left_pad, right_pad, beyond}
use Rattle.std.proofs.Math.Bool.{or-false}
use Rattle.numbers.specs.Words.{longest}
use Rattle.std.specs.Int.Signed.{lt_z, mag}
use Rattle.std.specs.Int.{w64}
use Rattle.std.proofs.lemmas.Int.{to_z-of_z}
use Rattle.numbers.specs.Tests.{neither}
use Rattle.convolution.specs.Works.{Kernel, ShortPads}

-- x - e, cut at 0
over : (x e : ℕ) → above (pos x -ℤ pos e) ≡ x - e
over x zero = omega arith
over x (suc e) = cut (ltb x (suc e)) (ltb-true x (suc e))
  where
    cut : (t : Bool) → (t ≡ true → x < suc e) → above (cond t (negsuc (suc e - suc x)) (pos (x - suc e))) ≡ x - suc e
    cut true y = omega (arith, y refl)
    cut false y = refl

-- a - b - e, cut at 0
twice : (a b e : ℕ) → above (pos a -ℤ pos b -ℤ pos e) ≡ a - b - e
twice a zero e = over (a + 0) e ∙ omega arith
twice a (suc b) e = cut (ltb a (suc b)) (ltb-true a (suc b))
  where
    below : (j e : ℕ) → above (negsuc j -ℤ pos e) ≡ 0
    below j zero = simp (lt-ltb 0 (suc j) (omega arith))
    below j (suc e) = refl

    cut : (t : Bool) → (t ≡ true → a < suc b) → above (cond t (negsuc (suc b - suc a)) (pos (a - suc b)) -ℤ pos e) ≡ a - suc b - e
    cut true y = below (suc b - suc a) e ∙ omega (arith, y refl)
    cut false y = over (a - suc b) e

-- half of a kernel that is not empty, less one where it is even
half_less : (f : ℕ) → 0 < f → f / 2 - (1 - f % 2) ≡ (f - 1) / 2
half_less f h = omega arith

pub left_at : (f c : ℕ) → 0 < f → (f - 1) / 2 - c ≡ left_pad f (pos c)
unfolding left_pad
left_at f c h = sym (twice (f / 2) c (1 - f % 2) ∙ omega arith)

pub left_before : (f k : ℕ) → 0 < f → (f - 1) / 2 + (k + 1) ≡ left_pad f (negsuc k)
unfolding left_pad
left_before f k h = sym (over (f / 2 + suc k) (1 - f % 2) ∙ omega arith)

-- a pad is no longer than the kernel and the centre together
pub left_small : (f : ℕ) (c : ℤ) → Kernel f c → left_pad f c ≤ 2147483712
left_small f (pos c) k = omega (arith, left_at f c k.some, k.most)
left_small f (negsuc j) k = omega (arith, left_before f j k.some, k.most, k.small)

pub nears : (f : ℕ) (c : ℤ) → Kernel f c → ShortPads (left_pad f c) (right_pad f c)
nears f c k = record { before = omega (arith, left_small f c k); behind = omega (arith, k.most) }

-- the pads are as long as the kernel, or longer
pub wide : (f : ℕ) (c : ℤ) → f ≤ left_pad f c + right_pad f c
wide f c = omega arith

-- the limit of a centre by its sign
pub beyond_before : (n f k : ℕ) → n ≤ longest → f ≤ 64 → ltb 2147483647 k ≡ beyond n f (negsuc k)
unfolding beyond
beyond_before n f k h l = simp (le-ltb longest n h, le-ltb 64 f l) (sym (or-false (ltb 2147483647 k)))

pub beyond_at : (n f c : ℕ) → n ≤ longest → f ≤ 64 → ltb 2147483647 c ≡ beyond n f (pos c)
unfolding beyond
beyond_at n f c h l = simp (le-ltb longest n h, le-ltb 64 f l)

pub within : (n f : ℕ) (c : ℤ) → beyond n f c ≡ false → (n ≤ longest) × (f ≤ 64) × (nat_abs c ≤ 2147483648)
unfolding beyond
within n f c e =
    let p = neither (ltb longest n || ltb 64 f) (lt_z c (negsuc 2147483647) || lt_z (pos 2147483647) c) e in
    let q = neither (ltb longest n) (ltb 64 f) p.0 in
    let r = neither (lt_z c (negsuc 2147483647)) (lt_z (pos 2147483647) c) p.1 in
    (ltb-false longest n q.0, ltb-false 64 f q.1, size c r.0 r.1)
  where
    size : (c : ℤ) → lt_z c (negsuc 2147483647) ≡ false → lt_z (pos 2147483647) c ≡ false → nat_abs c ≤ 2147483648
    size (pos c) h k = omega (arith, ltb-false 2147483647 c k)
    size (negsuc c) h k = omega (arith, ltb-false 2147483647 c h)

-- ---- what the machine's signed operations give

-- -1 - z of a negative z
pub flip : (z : ℤ) → lt_z z (pos 0) ≡ true → negsuc 0 -ℤ z ≡ pos (mag z)
flip (pos k) e = absurd (omega (arith, ltb-true k 0 e))
flip (negsuc k) e = simp (le-ltb (suc k) 1 (omega arith)) (ap pos (omega arith))

-- and of any z, it fits where z does
pub flip_fits : (z : ℤ) → SFits w64 z → SFits w64 (negsuc 0 -ℤ z)
flip_fits (pos zero) f = record { sfits = f.sfits }
flip_fits (pos (suc k)) f = record { sfits = omega (arith, f.sfits) }
flip_fits (negsuc k) f = rw (flip (negsuc k) refl) (record { sfits = f.sfits })

-- a signed number as the machine reads it back is the number
pub back : (z : ℤ) → SFits w64 z → to_z w64 (of_z w64 z) ≡ z
back z f = to_z-of_z w64 z f

pub flipped : (z : ℤ) → SFits w64 z → lt_z (to_z w64 (of_z w64 z)) (pos 0) ≡ true
    → to_z w64 (of_z w64 (negsuc 0 -ℤ to_z w64 (of_z w64 z))) ≡ pos (mag z)
flipped z f e =
    let q = back z f in
    let e' : lt_z z (pos 0) ≡ true = rw q at e in
    rw q (to_z-of_z w64 (negsuc 0 -ℤ z) (flip_fits z f) ∙ flip z e')

pub negative : (z : ℤ) → lt_z z (pos 0) ≡ true → negsuc (mag z) ≡ z
negative (pos k) e = absurd (omega (arith, ltb-true k 0 e))
negative (negsuc k) e = refl

pub positive : (z : ℤ) → lt_z z (pos 0) ≡ false → z ≡ pos (mag z)
positive (pos k) e = refl
positive (negsuc k) e = absurd (subst T e tt)
