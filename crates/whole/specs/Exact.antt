-- Laws of floats that are whole numbers: a sum, a product or a whole quotient of two is exact while its size is at most 2^prec, since the format holds every such number.
use Rattle.std.specs.Prelude.{◌≡◌, refl, Bool, not, cond, ◌&&◌, ◌≢◌, List, [], ◌∷◌, ℕ, zero, suc, ◌+◌, ◌-◌, ◌*◌, ◌^◌, ◌≤◌, ◌<◌, T, ltb, eqb, length, ℤ, pos, negsuc, neg_ℤ, nat_abs, ◌+ℤ◌, ◌*ℤ◌, Float}
use Rattle.std.proofs.Common.{sym, ap, ◌∙◌, subst, mul-one, mul-pos, le_refl, le_of_suc-le-suc, not-suc-le-zero, zero-lt-suc, mul_comm, add-mul, lt_of_mul-lt-mul_right, le_of_mul-le-mul_right, arith, ltb-true, ltb-false, ne_eqb}
use Rattle.std.proofs.Math.Bool.{true, false}
use Rattle.std.proofs.Math.Nat.{mul-sub}
use Rattle.std.proofs.Math.IntN.{+ℤ_comm, +ℤ-neg_ℤ_cancel, neg_ℤ-+ℤ, neg_ℤ-neg_ℤ, pos-ne-negsuc}
use Rattle.std.specs.Float.{nan, inf, fin, Format}
use Rattle.std.specs.Float.Ieee.{prec, up, down, unlike, round, sum, add, mul, div, neg, of_int, fits}
use Rattle.std.specs.Float.Ieee.Fits.{down_pos, round-fits}
use Rattle.std.specs.Float.Ieee.Exact.{HasValue}
use Rattle.std.specs.Float.Ieee.Back.{round_whole, whole_unique}
use Rattle.std.specs.Float.Ieee.Positive.{first_pos}
use Rattle.std.specs.Float.Ieee.Scale.{round_same}
use Rattle.numbers.specs.Words.{at}
use Rattle.numbers.specs.Tests.{cond_false}
use Rattle.whole.specs.Floats.{signed, Whole, at_ℤ, Holds, floats}
use Rattle.whole.specs.Integers as Z

-- ---- signs and sizes
size_signed : (s : Bool) (n : ℕ) → nat_abs (signed s n) ≡ n
size_signed false n = refl
size_signed true n = Z.size_neg (pos n)

neg_signed : (s : Bool) (n : ℕ) → neg_ℤ (signed s n) ≡ signed (not s) n
neg_signed false n = refl
neg_signed true n = neg_ℤ-neg_ℤ (pos n)

signed_add : (s : Bool) (a b : ℕ) → signed s a +ℤ signed s b ≡ signed s (a + b)
signed_add false a b = refl
signed_add true a b = sym (neg_ℤ-+ℤ (pos a) (pos b))

-- unlike signs: the larger size less the other, under the larger's sign
pos_sub : (a b : ℕ) → b ≤ a → pos a +ℤ neg_ℤ (pos b) ≡ pos (a - b)
pos_sub a b h = let e : a ≡ a - b + b = omega arith in ap (λ (x : ℕ). pos x +ℤ neg_ℤ (pos b)) e ∙ +ℤ-neg_ℤ_cancel (pos (a - b)) (pos b)

signed_sub : (s : Bool) (a b : ℕ) → b ≤ a → signed s a +ℤ signed (not s) b ≡ signed s (a - b)
signed_sub false a b h = pos_sub a b h
signed_sub true a b h =
    ap (λ (x : ℤ). neg_ℤ (pos a) +ℤ x) (sym (neg_ℤ-neg_ℤ (pos b))) ∙ sym (neg_ℤ-+ℤ (pos a) (neg_ℤ (pos b))) ∙ ap neg_ℤ (pos_sub a b h)

signed_over : (s : Bool) (a b : ℕ) → a ≤ b → signed s a +ℤ signed (not s) b ≡ signed (not s) (b - a)
signed_over false a b h = +ℤ_comm (pos a) (neg_ℤ (pos b)) ∙ signed_sub true b a h
signed_over true a b h = +ℤ_comm (neg_ℤ (pos a)) (pos b) ∙ signed_sub false b a h

signed_mul : (s t : Bool) (a b : ℕ) → signed s a *ℤ signed t b ≡ signed (unlike s t) (a * b)
signed_mul false false a b = refl
signed_mul false true a b = Z.mul_neg (pos a) (pos b)
signed_mul true false a b = Z.neg_mul (pos a) (pos b)
signed_mul true true a b = Z.neg_mul (pos a) (neg_ℤ (pos b)) ∙ ap neg_ℤ (Z.mul_neg (pos a) (pos b)) ∙ neg_ℤ-neg_ℤ (pos (a * b))

-- ---- what rounding makes of a whole number
of_value : (x : Float) (s : Bool) (n : ℕ) → HasValue x s n 1 → Whole x (signed s n)
of_value nan s n h = absurd h
of_value (inf t) s n h = absurd h
of_value (fin t m e) s n h = (
  ap (λ (q : Bool). signed q n) (sym h.0) ∙ ap (signed t) (sym (size_signed s n)),
  sym (mul-one (m * up e)) ∙ h.1 ∙ ap (λ (k : ℕ). k * down e) (sym (size_signed s n)),
)

-- a fraction whose value is the whole number w
landed : (f : Format) (s : Bool) (num c n : ℕ) (w : ℤ) → 0 < c → num ≡ n * c → w ≡ signed s n → nat_abs w ≤ 2 ^ prec f → Whole (round f s num c) w
landed f s num c n w p e z h =
    let k : n ≤ 2 ^ prec f = subst (λ (x : ℕ). x ≤ 2 ^ prec f) (ap nat_abs z ∙ size_signed s n) h in
    let r : Whole (round f s n 1) (signed s n) = of_value (round f s n 1) s n (round_whole f s n k) in
    let q : round f s num c ≡ round f s n 1 = round_same f s num c n 1 p (le_refl 1) (mul-one num ∙ e) in
    rw (q, z) r

-- ---- the sum
pub sub_mul : (a b c : ℕ) → a * c - b * c ≡ (a - b) * c
sub_mul a b c = sym (mul_comm (a - b) c ∙ mul-sub c a b ∙ ap (λ (x : ℕ). x - c * b) (mul_comm c a) ∙ ap (λ (x : ℕ). a * c - x) (mul_comm c b))

-- nothing has either sign
signed_and : (s v : Bool) (n : ℕ) → (v ≡ false → n ≡ 0) → signed (s && v) n ≡ signed s n
signed_and false v n h = refl
signed_and true true n h = refl
signed_and true false n h = ap pos (h refl) ∙ sym (ap (λ (k : ℕ). neg_ℤ (pos k)) (h refl))

module _ (f : Format) (c a b : ℕ) (p : 0 < c) where
  sum_like : (s : Bool) → nat_abs (signed s a +ℤ signed s b) ≤ 2 ^ prec f → Whole (round f s (a * c + b * c) c) (signed s a +ℤ signed s b)
  sum_like s h = landed f s (a * c + b * c) c (a + b) (signed s a +ℤ signed s b) p (sym (add-mul a b c)) (signed_add s a b) h

  sum_unlike : (s : Bool) → nat_abs (signed s a +ℤ signed (not s) b) ≤ 2 ^ prec f
      → Whole (cond (ltb (a * c) (b * c)) (round f (not s) (b * c - a * c) c) (round f (s && ltb (b * c) (a * c)) (a * c - b * c) c)) (signed s a +ℤ signed (not s) b)
  sum_unlike s h = go (ltb (a * c) (b * c)) (ltb (b * c) (a * c)) (ltb-true (a * c) (b * c)) (ltb-false (a * c) (b * c)) (ltb-false (b * c) (a * c))
    where
      go : (u v : Bool) → (u ≡ true → a * c < b * c) → (u ≡ false → b * c ≤ a * c) → (v ≡ false → a * c ≤ b * c)
          → Whole (cond u (round f (not s) (b * c - a * c) c) (round f (s && v) (a * c - b * c) c)) (signed s a +ℤ signed (not s) b)
      go true v x y z =
          let l : a < b = lt_of_mul-lt-mul_right c (x refl) in
          landed f (not s) (b * c - a * c) c (b - a) (signed s a +ℤ signed (not s) b) p (sub_mul b a c) (signed_over s a b (omega arith)) h
      go false v x y z =
          let l : b ≤ a = le_of_mul-le-mul_right (y refl) p in
          let even : v ≡ false → a - b ≡ 0 = λ e. let k : a ≤ b = le_of_mul-le-mul_right (z e) p in omega arith in
          landed f (s && v) (a * c - b * c) c (a - b) (signed s a +ℤ signed (not s) b) p (sub_mul a b c) (signed_sub s a b l ∙ sym (signed_and s v (a - b) even)) h

  sum_whole : (s t : Bool) → nat_abs (signed s a +ℤ signed t b) ≤ 2 ^ prec f → Whole (sum f s (a * c) t (b * c) c) (signed s a +ℤ signed t b)
  unfolding sum
  sum_whole false false h = sum_like false h
  sum_whole true true h = sum_like true h
  sum_whole false true h = sum_unlike false h
  sum_whole true false h = sum_unlike true h

-- what holds of two finite floats holds of two that are whole
of_two : (z w : ℤ) (P : Float → Float → Type 0) → ((s : Bool) (m : ℕ) (e : ℤ) (t : Bool) (n : ℕ) (d : ℤ) → Whole (fin s m e) z → Whole (fin t n d) w → P (fin s m e) (fin t n d))
    → (x y : Float) → Whole x z → Whole y w → P x y
of_two z w P h nan y p q = absurd p
of_two z w P h (inf s) y p q = absurd p
of_two z w P h (fin s m e) nan p q = absurd q
of_two z w P h (fin s m e) (inf t) p q = absurd q
of_two z w P h (fin s m e) (fin t n d) p q = h s m e t n d p q

-- sizes over the product of two denominators
over : (k a d e : ℕ) → k ≡ a * d → k * e ≡ a * (d * e)
over k a d e h = omega (arith, ap (λ (x : ℕ). x * e) h)

over_other : (k a d e : ℕ) → k ≡ a * d → k * e ≡ a * (e * d)
over_other k a d e h = over k a d e h ∙ ap (λ (x : ℕ). a * x) (mul_comm d e)

pub add_whole : (f : Format) (x y : Float) (z w : ℤ) → Whole x z → Whole y w → nat_abs (z +ℤ w) ≤ 2 ^ prec f → Whole (add f x y) (z +ℤ w)
unfolding add
add_whole f x y z w p q h = of_two z w (λ x y. Whole (add f x y) (z +ℤ w)) (λ s m e t n d p q.
    let a = nat_abs z in let b = nat_abs w in
    let c = down e * down d in
    let sums : z +ℤ w ≡ signed s a +ℤ signed t b = ap (λ (v : ℤ). v +ℤ w) p.0 ∙ ap (λ (v : ℤ). signed s a +ℤ v) q.0 in
    rw (over (m * up e) a (down e) (down d) p.1, over_other (n * up d) b (down d) (down e) q.1, sums)
    (sum_whole f c a b (mul-pos (down_pos e) (down_pos d)) s t (subst (λ (v : ℤ). nat_abs v ≤ 2 ^ prec f) sums h))) x y p q

pub mul_whole : (f : Format) (x y : Float) (z w : ℤ) → Whole x z → Whole y w → nat_abs (z *ℤ w) ≤ 2 ^ prec f → Whole (mul f x y) (z *ℤ w)
unfolding mul
mul_whole f x y z w p q h = of_two z w (λ x y. Whole (mul f x y) (z *ℤ w)) (λ s m e t n d p q.
    let a = nat_abs z in let b = nat_abs w in
    landed f (unlike s t) (m * up e * (n * up d)) (down e * down d) (a * b) (z *ℤ w) (mul-pos (down_pos e) (down_pos d))
    (product (m * up e) (n * up d) a b (down e) (down d) p.1 q.1)
    (ap (λ (v : ℤ). v *ℤ w) p.0 ∙ ap (λ (v : ℤ). signed s a *ℤ v) q.0 ∙ signed_mul s t a b) h) x y p q
  where
    product : (k l a b d e : ℕ) → k ≡ a * d → l ≡ b * e → k * l ≡ a * b * (d * e)
    product k l a b d e h j = omega (arith, ap (λ (x : ℕ). x * l) h, ap (λ (x : ℕ). a * d * x) j)

-- ---- the quotient
-- where a number has both signs it is 0
both_signs : (n m : ℕ) → pos m ≡ neg_ℤ (pos n) → n ≡ 0
both_signs zero m e = refl
both_signs (suc n) m e = absurd (pos-ne-negsuc m n e)

-- a number times a positive one has its sign
sign_kept : (s : Bool) (k : ℕ) (v : ℤ) → pos (suc k) *ℤ v ≡ signed s (nat_abs (pos (suc k) *ℤ v)) → v ≡ signed s (nat_abs v)
sign_kept false k (pos a) e = refl
sign_kept true k (pos a) e = signed_and true false a (λ q. omega (arith, both_signs (suc k * a) (suc k * a) e))
sign_kept false k (negsuc a) e = absurd (omega (arith, both_signs (suc k * suc a) _ (sym e)))
sign_kept true k (negsuc a) e = refl

pub plus_sign : (s : Bool) (k : ℕ) → pos (suc k) ≡ signed s (suc k) → s ≡ false
plus_sign false k e = refl
plus_sign true k e = absurd (pos-ne-negsuc (suc k) k e)

pub div_whole : (f : Format) (x y : Float) (k : ℕ) (v : ℤ) → Whole x (pos (suc k) *ℤ v) → Whole y (pos (suc k)) → nat_abs v ≤ 2 ^ prec f → Whole (div f x y) v
unfolding div
div_whole f x y k v p q h = of_two (pos (suc k) *ℤ v) (pos (suc k)) (λ x y. Whole (div f x y) v) (λ s m e t n d p q.
    let a = nat_abs v in
    let above : 0 < n * up d = subst (λ (z : ℕ). 0 < z) (sym q.1) (mul-pos (zero-lt-suc k) (down_pos d)) in
    let some : 0 < n = first_pos n (up d) above in
    subst (λ (z : Float). Whole z v) (sym (cond_false (eqb n 0) _ _ (ne_eqb n 0 (λ (z : n ≡ 0). omega arith))))
    (landed f (unlike s t) (m * up e * down d) (n * up d * down e) a v (mul-pos above (down_pos e))
    (quotient (m * up e) (n * up d) (suc k) a (down e) (down d) (p.1 ∙ ap (λ (z : ℕ). z * down e) (Z.size_mul (pos (suc k)) v)) q.1)
    (sign_kept s k v p.0 ∙ ap (λ (r : Bool). signed r a) (sym (ap (unlike s) (plus_sign t k q.0) ∙ unlike_plus s))) h)) x y p q
  where
    quotient : (x y k a d e : ℕ) → x ≡ k * a * d → y ≡ k * e → x * e ≡ a * (y * d)
    quotient x y k a d e h j = omega (arith, ap (λ (z : ℕ). z * e) h, ap (λ (z : ℕ). a * (z * d)) j)

    unlike_plus : (s : Bool) → unlike s false ≡ s
    unlike_plus false = refl
    unlike_plus true = refl

-- ---- others
pub zero_whole : (s : Bool) → Whole (fin s 0 (pos 0)) (pos 0)
zero_whole false = (refl, refl)
zero_whole true = (refl, refl)

pub neg_whole : (x : Float) (z : ℤ) → Whole x z → Whole (neg x) (neg_ℤ z)
unfolding neg
neg_whole nan z w = absurd w
neg_whole (inf s) z w = absurd w
neg_whole (fin s m e) z w = (
  ap neg_ℤ w.0 ∙ neg_signed s (nat_abs z) ∙ ap (signed (not s)) (sym (Z.size_neg z)),
  w.1 ∙ ap (λ (k : ℕ). k * down e) (sym (Z.size_neg z)),
)

-- a whole number that the format holds, as a float
int_whole : (f : Format) (z : ℤ) → nat_abs z ≤ 2 ^ prec f → Whole (of_int f z) z
unfolding of_int
int_whole f (pos n) h = of_value (round f false n 1) false n (round_whole f false n h)
int_whole f (negsuc n) h = of_value (round f true (suc n) 1) true (suc n) (round_whole f true (suc n) h)

pub int_holds : (f : Format) (z : List ℤ) → ((i : ℕ) → i < length z → nat_abs (at_ℤ z i) ≤ 2 ^ prec f) → Holds (floats f z) z
int_holds f z h = record { whole = λ i l. subst (λ (x : Float). Whole x (at_ℤ z i)) (sym (there f z i l)) (int_whole f (at_ℤ z i) (h i l)) }
  where
    there : (f : Format) (z : List ℤ) (i : ℕ) → i < length z → at (floats f z) i ≡ of_int f (at_ℤ z i)
    there f [] i h = absurd (not-suc-le-zero h)
    there f (a ∷ z) zero h = refl
    there f (a ∷ z) (suc i) h = there f z i (le_of_suc-le-suc h)

-- the value tells the bits: a float that the format holds, and that is a whole number other than 0, is the float of that number
pub whole_bits : (f : Format) (x : Float) (z : ℤ) → T (fits f x) → nat_abs z ≤ 2 ^ prec f → z ≢ pos 0 → Whole x z → x ≡ of_int f z
unfolding of_int
whole_bits f nan z k h n w = absurd w
whole_bits f (inf s) z k h n w = absurd w
whole_bits f (fin s m e) (pos zero) k h n w = absurd (n refl)
whole_bits f (fin false m e) (pos (suc a)) k h n w = whole_unique f (fin false m e) (round f false (suc a) 1) false (suc a) k (round-fits f false (suc a) 1) (refl, mul-one (m * up e) ∙ w.1) (round_whole f false (suc a) h)
whole_bits f (fin true m e) (pos (suc a)) k h n w = absurd (pos-ne-negsuc (suc a) a w.0)
whole_bits f (fin true m e) (negsuc a) k h n w = whole_unique f (fin true m e) (round f true (suc a) 1) true (suc a) k (round-fits f true (suc a) 1) (refl, mul-one (m * up e) ∙ w.1) (round_whole f true (suc a) h)
whole_bits f (fin false m e) (negsuc a) k h n w = absurd (pos-ne-negsuc (suc a) a (sym w.0))
