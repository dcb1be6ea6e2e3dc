-- Laws of zeros: a sum from +0 is never -0, since a format holds whole numbers of its smallest value, so that no sum of two which is not zero rounds to zero. And what is a whole number and not -0 is that number's float, a whole quotient too.
use Rattle.std.specs.Prelude.{◌≡◌, refl, Bool, true, false, cond, ◌&&◌, ◌≢◌, ℕ, zero, suc, ◌+◌, ◌-◌, ◌*◌, ◌%◌, ◌^◌, ◌≤◌, ◌<◌, T, ltb, leb, eqb, ℤ, pos, negsuc, nat_abs, ◌*ℤ◌, Float}
use Rattle.std.proofs.Common.{sym, ap, ◌∙◌, subst, true≢false, le_trans, le_of_suc-le-suc, lt_of_not-le, not-le_of_lt, zero-lt-suc, lt_irrefl, zero-mul, one-mul, mul-one, add-mul, mul-pos, mul-le-mul_right, arith, ltb→lt, leb→le, eqb→eq, pow-add, pow_pos}
use Rattle.std.specs.Bool.{beq}
use Rattle.std.proofs.Math.Pow.{pow-lt}
use Rattle.std.proofs.Math.IntN.{pos-ne-negsuc}
use Rattle.std.specs.Float.{nan, inf, fin, Format, binary32, binary64}
use Rattle.std.specs.Float.Ieee.{prec, emax, low, up, down, odd, units, round, sum, add, div, of_int, fits}
use Rattle.std.specs.Float.Ieee.Digits.{back}
use Rattle.std.specs.Float.Ieee.Fits.{two, two-le_pos, and_l, and_r, up_pos, down_pos, round_is, round-fits, div-fits}
use Rattle.std.specs.Float.Ieee.Exact.{round_exact}
use Rattle.std.specs.Float.Ieee.Back.{round_whole, whole_unique}
use Rattle.std.specs.Float.Ieee.Order.{round_mono}
use Rattle.std.specs.Float.Ieee.Positive.{positive, above, positive_of_value, above_of_le}
use Rattle.numbers.specs.Words.{plus_zero}
use Rattle.whole.specs.Floats.{Whole}
use Rattle.whole.specs.Exact.{sub_mul, plus_sign, div_whole, whole_bits}

-- x is not -0
abbrev pub NotMinusZero : Float → Type 0
NotMinusZero nan = Unit {0}
NotMinusZero (inf s) = Unit {0}
NotMinusZero (fin false m e) = Unit {0}
NotMinusZero (fin true m e) = 0 < m

pub plus_plus : NotMinusZero plus_zero
plus_plus = tt

either_plus : (b : Bool) (x y : Float) → NotMinusZero x → NotMinusZero y → NotMinusZero (cond b x y)
either_plus true x y p q = p
either_plus false x y p q = q

-- ---- rounding under +
odd_plus : (d q k l : ℕ) → NotMinusZero (odd d false q k l)
unfolding odd
odd_plus d zero k l = tt
odd_plus d (suc q) k l = tt

units_plus : (f : Format) (q k : ℕ) → NotMinusZero (units f false q k)
unfolding units
units_plus f q k = either_plus (ltb (q * 2 ^ k) (2 ^ (low f + suc (emax f)))) (odd (suc (prec f)) false q k (low f)) (inf false) (odd_plus (suc (prec f)) q k (low f)) tt

round_plus : (f : Format) (a c : ℕ) → NotMinusZero (round f false a c)
round_plus f a c = subst NotMinusZero (sym (round_is f false a c)) (units_plus f _ _)

-- ---- rounding under -: what does not round to +0 under + does not round to -0
odd_minus : (d q k l : ℕ) → T (above (odd d false q k l)) → NotMinusZero (odd d true q k l)
unfolding odd
odd_minus d zero k l h = absurd h
odd_minus d (suc q) k l h = ltb→lt 0 _ h

units_minus : (f : Format) (q k : ℕ) → T (above (units f false q k)) → NotMinusZero (units f true q k)
unfolding units
units_minus f q k = go (ltb (q * 2 ^ k) (2 ^ (low f + suc (emax f))))
  where
    go : (b : Bool) → T (above (cond b (odd (suc (prec f)) false q k (low f)) (inf false))) → NotMinusZero (cond b (odd (suc (prec f)) true q k (low f)) (inf true))
    go true h = odd_minus (suc (prec f)) q k (low f) h
    go false h = tt

-- the format's smallest value is above 0
least_positive : (f : Format) → T (positive (round f false 1 (2 ^ low f)))
least_positive f =
    let some : 0 < low f + suc (emax f) = omega arith in
    positive_of_value (round f false 1 (2 ^ low f)) 1 (2 ^ low f)
    (round_exact f false 1 (2 ^ low f) 1 0 (pow_pos (low f)) (pow-lt (two-le_pos (prec f) (two f))) (pow-lt some) refl) (zero-lt-suc 0)

-- a fraction that is no smaller
round_minus : (f : Format) (a c : ℕ) → 0 < c → c ≤ a * 2 ^ low f → NotMinusZero (round f true a c)
round_minus f a c p h =
    let l = 2 ^ low f in
    let more : T (above (round f false a c)) = above_of_le (round f false 1 l) (round f false a c) (least_positive f)
    (round_mono f 1 l a c (pow_pos (low f)) p (subst (λ (x : ℕ). x ≤ a * l) (sym (one-mul c)) h)) in
    subst NotMinusZero (sym (round_is f true a c)) (units_minus f _ _ (subst (λ (x : Float). T (above x)) (round_is f false a c) more))

-- ---- what fits is a whole number of smallest values
fits_low : (f : Format) (s : Bool) (m : ℕ) (e : ℤ) → T (fits f (fin s m e)) → down e ≤ 2 ^ low f
unfolding fits
fits_low f s zero e t = le_trans (small (up e) (down e) (up_pos e) (eqb→eq (up e * down e) 1 t)) (pow_pos (low f))
  where
    small : (u d : ℕ) → 0 < u → u * d ≡ 1 → d ≤ 1
    small u d p h = omega (arith, mul-le-mul_right d p)
fits_low f s (suc m) e t =
    let a = eqb (suc m % 2) 1 && ltb (suc m) (2 ^ prec f) in
    let b = leb (down e) (2 ^ low f) in
    leb→le (down e) (2 ^ low f) (and_r a b (and_l (a && b) (ltb (suc m * up e) (2 ^ suc (emax f) * down e)) t))

pow_back : (i j : ℕ) → 2 ^ i ≤ 2 ^ j → i ≤ j
pow_back i j h = le_of_suc-le-suc (lt_of_not-le (λ (g : suc j ≤ i). not-le_of_lt (pow-lt g) h))

parts : (e : ℤ) (l : ℕ) → down e ≤ 2 ^ l → (k : ℕ) × (2 ^ l ≡ k * down e)
parts (pos i) l h = (2 ^ l, sym (mul-one (2 ^ l)))
parts (negsuc i) l h = (2 ^ (l - suc i), ap (λ (k : ℕ). 2 ^ k) (sym (back l (suc i) (pow_back (suc i) l h))) ∙ pow-add 2 (l - suc i) (suc i))

-- so over the product of two denominators
scaled : (x l k d e : ℕ) → l ≡ k * d → x * e * l ≡ x * k * (d * e)
scaled x l k d e h = omega (arith, ap (λ (z : ℕ). x * e * z) h)

scaled_other : (x l k d e : ℕ) → l ≡ k * e → x * d * l ≡ x * k * (d * e)
scaled_other x l k d e h = omega (arith, ap (λ (z : ℕ). x * d * z) h)

-- ---- the sum of a / c and b / c, which are x and y of the parts that 1 has l of
module _ (l c a b x y : ℕ) (p : a * l ≡ x * c) (q : b * l ≡ y * c) where
  added : (a + b) * l ≡ (x + y) * c
  added = add-mul a b l ∙ ap (λ (z : ℕ). z + b * l) p ∙ ap (λ (z : ℕ). x * c + z) q ∙ sym (add-mul x y c)

  taken : (a - b) * l ≡ (x - y) * c
  taken = sym (sub_mul a b l) ∙ ap (λ (z : ℕ). z - b * l) p ∙ ap (λ (z : ℕ). x * c - z) q ∙ sub_mul x y c

-- what is not zero is one part at least
one_part : (a l k c : ℕ) → 0 < a → 0 < l → a * l ≡ k * c → c ≤ a * l
one_part a l zero c h j e = absurd (omega (arith, mul-pos h j))
one_part a l (suc k) c h j e = omega arith

sum_plus : (f : Format) (s : Bool) (a : ℕ) (t : Bool) (b c x y : ℕ) → 0 < c → a * 2 ^ low f ≡ x * c → b * 2 ^ low f ≡ y * c → (s ≡ true → 0 < a)
    → NotMinusZero (sum f s a t b c)
unfolding sum
sum_plus f false a false b c x y h p q n = round_plus f (a + b) c
sum_plus f true a true b c x y h p q n =
    let some : 0 < a = n refl in
    round_minus f (a + b) c h (one_part (a + b) (2 ^ low f) (x + y) c (omega arith) (pow_pos (low f)) (added (2 ^ low f) c a b x y p q))
sum_plus f false a true b c x y h p q n = go (ltb a b) (ltb→lt a b)
  where
    go : (u : Bool) → (T u → a < b) → NotMinusZero (cond u (round f true (b - a) c) (round f false (a - b) c))
    go true k = let less : a < b = k tt in round_minus f (b - a) c h (one_part (b - a) (2 ^ low f) (y - x) c (omega arith) (pow_pos (low f)) (taken (2 ^ low f) c b a y x q p))
    go false k = round_plus f (a - b) c
sum_plus f true a false b c x y h p q n = go (ltb a b) (ltb b a) (ltb→lt b a)
  where
    go : (u v : Bool) → (T v → b < a) → NotMinusZero (cond u (round f false (b - a) c) (round f v (a - b) c))
    go true v k = round_plus f (b - a) c
    go false true k = let less : b < a = k tt in round_minus f (a - b) c h (one_part (a - b) (2 ^ low f) (x - y) c (omega arith) (pow_pos (low f)) (taken (2 ^ low f) c a b x y p q))
    go false false k = round_plus f (a - b) c

pub add_plus : (f : Format) (x y : Float) → T (fits f x) → T (fits f y) → NotMinusZero x → NotMinusZero (add f x y)
unfolding add
add_plus f nan y p q n = tt
add_plus f (inf s) nan p q n = tt
add_plus f (inf s) (inf t) p q n = either_plus (beq s t) (inf s) nan tt tt
add_plus f (inf s) (fin t k d) p q n = tt
add_plus f (fin s m e) nan p q n = tt
add_plus f (fin s m e) (inf t) p q n = tt
add_plus f (fin s m e) (fin t k d) p q n =
    let i = parts e (low f) (fits_low f s m e p) in
    let j = parts d (low f) (fits_low f t k d q) in
    sum_plus f s (m * up e * down d) t (k * up d * down e) (down e * down d) (m * up e * i.0) (k * up d * j.0) (mul-pos (down_pos e) (down_pos d))
    (scaled (m * up e) (2 ^ low f) i.0 (down e) (down d) i.1) (scaled_other (k * up d) (2 ^ low f) j.0 (down e) (down d) j.1)
    (λ b. mul-pos (mul-pos (some s m e n b) (up_pos e)) (down_pos d))
  where
    some : (s : Bool) (m : ℕ) (e : ℤ) → NotMinusZero (fin s m e) → s ≡ true → 0 < m
    some false m e n b = absurd (true≢false (sym b))
    some true m e n b = n

-- ---- the one float of a whole number
pub zero_int : (f : Format) → of_int f (pos 0) ≡ plus_zero
unfolding of_int
zero_int binary32 = refl
zero_int binary64 = refl

not_zero : (a : ℕ) → pos (suc a) ≢ pos 0
not_zero a z = let q : suc a ≡ 0 = ap nat_abs z in omega arith

-- a zero has no size
no_size : (m : ℕ) (e : ℤ) (n : ℕ) → 0 < m → n ≡ 0 → m * up e ≡ n * down e → ⊥
no_size m e n h z w = lt_irrefl 0 (subst (λ (k : ℕ). 0 < k) (w ∙ ap (λ (k : ℕ). k * down e) z ∙ zero-mul (down e)) (mul-pos h (up_pos e)))

pub whole_int : (f : Format) (x : Float) (z : ℤ) → T (fits f x) → nat_abs z ≤ 2 ^ prec f → NotMinusZero x → Whole x z → x ≡ of_int f z
unfolding of_int
whole_int f nan z k h n w = absurd w
whole_int f (inf s) z k h n w = absurd w
whole_int f (fin false m e) (pos zero) k h n w = whole_unique f (fin false m e) (round f false 0 1) false 0 k (round-fits f false 0 1) (refl, mul-one (m * up e) ∙ w.1) (round_whole f false 0 h)
whole_int f (fin true m e) (pos zero) k h n w = absurd (no_size m e 0 n refl w.1)
whole_int f (fin s m e) (pos (suc a)) k h n w = whole_bits f (fin s m e) (pos (suc a)) k h (not_zero a) w
whole_int f (fin s m e) (negsuc a) k h n w = whole_bits f (fin s m e) (negsuc a) k h (λ z. pos-ne-negsuc 0 a (sym z)) w

-- ---- the quotient: a zero that is not -0, by a number above 0, is +0
zero_div : (f : Format) (x y : Float) (k : ℕ) → Whole x (pos (suc k) *ℤ pos 0) → Whole y (pos (suc k)) → NotMinusZero x → NotMinusZero (div f x y)
unfolding div
zero_div f nan y k p q n = absurd p
zero_div f (inf s) y k p q n = absurd p
zero_div f (fin true m e) y k p q n = absurd (no_size m e (suc k * 0) n (omega arith) p.1)
zero_div f (fin false m e) nan k p q n = absurd q
zero_div f (fin false m e) (inf t) k p q n = absurd q
zero_div f (fin false m e) (fin true j d) k p q n = absurd (true≢false (plus_sign true k q.0))
zero_div f (fin false m e) (fin false j d) k p q n =
    either_plus (eqb j 0) (cond (eqb m 0) nan (inf false)) (round f false (m * up e * down d) (j * up d * down e))
    (either_plus (eqb m 0) nan (inf false) tt tt) (round_plus f (m * up e * down d) (j * up d * down e))

pub div_int : (f : Format) (x s : Float) (k : ℕ) (v : ℤ) → Whole x (pos (suc k) *ℤ v) → Whole s (pos (suc k)) → nat_abs v ≤ 2 ^ prec f → NotMinusZero x → div f x s ≡ of_int f v
div_int f x s k (pos zero) p q h n = whole_int f (div f x s) (pos 0) (div-fits f x s) h (zero_div f x s k p q n) (div_whole f x s k (pos 0) p q h)
div_int f x s k (pos (suc a)) p q h n = whole_bits f (div f x s) (pos (suc a)) (div-fits f x s) h (not_zero a) (div_whole f x s k (pos (suc a)) p q h)
div_int f x s k (negsuc a) p q h n = whole_bits f (div f x s) (negsuc a) (div-fits f x s) h (λ z. pos-ne-negsuc 0 a (sym z)) (div_whole f x s k (negsuc a) p q h)
