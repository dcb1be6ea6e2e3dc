-- Laws of divisors: a whole number from 1 to 2^prec is a good one; the code's test decides them all, since of a float in that range its whole part, as a float again, differs from it exactly where it has a fraction. And a line that is divided keeps its length.
use Rattle.std.specs.Prelude.{◌≡◌, ℕ, suc, ◌+◌, ◌-◌, ◌*◌, ◌/◌, ◌%◌, ◌^◌, ◌<◌, ◌≤◌, min, Bool, true, false, not, ◌&&◌, T, List, [], ◌∷◌, map, length, ℤ, pos, negsuc, ◌==◌, nat_le, slice_set, refl, Float}
use Rattle.std.proofs.Math.Path.{sym, ap}
use Rattle.std.proofs.Common.{◌∙◌, subst, true≢false, zero-le, le_trans, lt_of_le_of_lt, zero-lt-suc, mul-pos, div-add-mod', div-mul-le_self, mul-div_cancel, ltb-true, lt-ltb, leb-true, le-leb, eqb-true, eq-eqb, lit≤}
use Rattle.std.proofs.lemmas.Bool.{false≢true}
use Rattle.std.proofs.Math.Nat.{mul-le-mul_right, le_of_mul-le-mul_right, eq_of_mul-eq-mul_right, mul-mod_left}
use native.Mathlib.Omega.{arith}
use Rattle.std.proofs.Math.Dec.{lt→ltb}
use Rattle.std.specs.Float.{nan, inf, fin, Format, binary32, binary64}
use Rattle.std.specs.Float.Ieee.{prec, up, down, round, div, lt, le, eq, ne, of_int, of_bits, to_unsigned, whole}
use Rattle.std.specs.Float.Ieee.Fits.{down_pos}
use Rattle.std.specs.Float.Ieee.Exact.{HasValue}
use Rattle.std.specs.Float.Ieee.Back.{round_whole}
use Rattle.std.specs.Float.Ieee.Positive.{positive, first_pos, le→cross, cross→le}
use Rattle.numbers.specs.Words.{plus_zero, at, written}
use Rattle.numbers.specs.Write.{length-tab, written_step, get_or-placed_behind}
use Rattle.numbers.specs.Places.{placed_front}
use Rattle.whole.specs.Floats.{Whole}
use Rattle.whole.specs.Exact.{plus_sign}
use Rattle.dividing.specs.Divisions.{bad_divisor, divided, finished}
use Rattle.dividing.specs.declared.Finish.{Finish}
use Rattle.dividing.specs.declared.Finish.TheVariants.{Kept, DividedBy}

-- ---- the worked divisors
good : map (bad_divisor binary64) (of_int binary64 (pos 1) ∷ of_int binary64 (pos 50) ∷ of_int binary64 (pos (2 ^ 53)) ∷ []) ≡ false ∷ false ∷ false ∷ []
unfolding of_int whole lt
good = refl

-- NaN, the infinities, the zeros, -1, a half, 2^53 + 2 and the smallest float
bad : map (bad_divisor binary64) (nan ∷ inf false ∷ inf true ∷ plus_zero ∷ fin true 0 (pos 0) ∷ of_int binary64 (negsuc 0) ∷ fin false 1 (negsuc 0) ∷ of_int binary64 (pos (2 ^ 53 + 2)) ∷ of_bits binary64 1 ∷ [])
    ≡ true ∷ true ∷ true ∷ true ∷ true ∷ true ∷ true ∷ true ∷ true ∷ []
unfolding of_int of_bits whole lt
bad = refl

-- ---- tests in a row
all_pass : (u v w : Bool) → v ≡ true → w ≡ true → (u && v && true && w) ≡ u
all_pass true v w p q = ap (λ (b : Bool). b && true && w) p ∙ q
all_pass false v w p q = refl

same_test : (u v : Bool) → (u ≡ true → v ≡ true) → (v ≡ true → u ≡ true) → (u && true) ≡ v
same_test true v h k = sym (h refl)
same_test false true h k = k refl
same_test false false h k = refl

-- ---- what is good
lt_above : (m : ℕ) (e : ℤ) → 0 < m * up e → lt plus_zero (fin false m e) ≡ true
unfolding lt
lt_above m e h = lt-ltb (0 * 1 * down e) (m * up e * 1) (omega arith)

pub good_divisor : (g : Format) (s : Float) (k : ℕ) → Whole s (pos (suc k)) → suc k ≤ 2 ^ prec g → bad_divisor g s ≡ false
unfolding whole
good_divisor g nan k w h = absurd w
good_divisor g (inf t) k w h = absurd w
good_divisor g (fin true m e) k w h = absurd (true≢false (plus_sign true k w.0))
good_divisor g (fin false m e) k w h =
    let x = m * up e in
    let above : 0 < x = subst (λ (z : ℕ). 0 < z) (sym w.1) (mul-pos (zero-lt-suc k) (down_pos e)) in
    let part : x / down e ≡ suc k = ap (λ (z : ℕ). z / down e) w.1 ∙ mul-div_cancel (suc k) (down_pos e) in
    let rest : x % down e ≡ 0 = ap (λ (z : ℕ). z % down e) w.1 ∙ mul-mod_left (suc k) (down e) in
    let few : x / down e ≤ 2 ^ prec g = subst (λ (z : ℕ). z ≤ 2 ^ prec g) (sym part) h in
    ap not (all_pass (x % down e == 0) (nat_le (x / down e) (2 ^ prec g)) (lt plus_zero (fin false m e)) (le-leb (x / down e) (2 ^ prec g) few) (lt_above m e above) ∙ eq-eqb (x % down e) 0 rest)

-- ---- the code's test
-- the largest divisor, which a u64 holds
abbrev pub top : Format → Float
top g = fin false 1 (pos (prec g))

wide : (g : Format) → 2 ^ prec g ≤ 2 ^ 64 - 1
wide binary32 = lit≤ tt
wide binary64 = lit≤ tt

-- what is not above 0
pub bad_low : (g : Format) (s : Float) → lt plus_zero s ≡ false → true ≡ bad_divisor g s
bad_low g s h = sym (ap (λ (b : Bool). not (whole g s && b)) h ∙ never (whole g s))
  where
    never : (b : Bool) → not (b && false) ≡ true
    never true = refl
    never false = refl

-- what is above 0 is finite with the sign +, or the infinity
above_zero : (P : Float → Type 0) → P (inf false) → ((m : ℕ) (e : ℤ) → T (positive (fin false m e)) → P (fin false m e)) → (s : Float) → lt plus_zero s ≡ true → P s
unfolding lt
above_zero P i p nan h = absurd (false≢true h)
above_zero P i p (inf true) h = absurd (false≢true h)
above_zero P i p (inf false) h = i
above_zero P i p (fin true m e) h = absurd (false≢true h)
above_zero P i p (fin false m e) h = p m e (lt→ltb 0 m (first_pos m (up e) (first_pos (m * up e) 1 (lt_of_le_of_lt zero-le (ltb-true _ _ h)))))

-- what is above the largest
pub bad_high : (g : Format) (s : Float) → lt plus_zero s ≡ true → le s (top g) ≡ false → true ≡ bad_divisor g s
unfolding whole
bad_high g s p h = above_zero (λ s. le s (top g) ≡ false → true ≡ bad_divisor g s) (λ h. refl) (λ m e q h.
    let x = m * up e in
    go m e (x % down e == 0) (nat_le (x / down e) (2 ^ prec g)) (eqb-true (x % down e) 0) (leb-true (x / down e) (2 ^ prec g))
    (λ (k : x ≤ 2 ^ prec g * down e). subst T h (cross→le (fin false m e) (top g) q tt (omega arith)))) s p h
  where
    go : (m : ℕ) (e : ℤ) (u v : Bool) → (u ≡ true → m * up e % down e ≡ 0) → (v ≡ true → m * up e / down e ≤ 2 ^ prec g) → (m * up e ≤ 2 ^ prec g * down e → ⊥)
        → true ≡ not (u && v && true && lt plus_zero (fin false m e))
    go m e false v a b n = refl
    go m e true false a b n = refl
    go m e true true a b n = absurd (n (omega (arith, a refl, div-add-mod' (m * up e) (down e), mul-le-mul_right (down e) (b refl))))

-- x / e cut to its whole part, which is w / d, is x / e exactly where nothing is cut
cut : (w d x e : ℕ) → 0 < d → w * 1 ≡ x / e * d → (w * e == x * d && true) ≡ (x % e == 0)
cut w d x e p h = same_test (w * e == x * d) (x % e == 0)
    (λ u. eq-eqb (x % e) 0 (
    let same : x / e * e ≡ x = eq_of_mul-eq-mul_right d p (x / e * e) x (omega (arith, eqb-true (w * e) (x * d) u, ap (λ (z : ℕ). z * e) h)) in
    omega (arith, div-add-mod' x e)))
    (λ v. eq-eqb (w * e) (x * d) (
    let same : x / e * e ≡ x = omega (arith, div-add-mod' x e, eqb-true (x % e) 0 v) in
    omega (arith, ap (λ (z : ℕ). z * e) h, ap (λ (z : ℕ). z * d) same)))

eq_cut : (y : Float) (m : ℕ) (e : ℤ) → HasValue y false (m * up e / down e) 1 → eq y (fin false m e) ≡ (m * up e % down e == 0)
unfolding eq
eq_cut nan m e h = absurd h
eq_cut (inf t) m e h = absurd h
eq_cut (fin true n d) m e h = absurd (true≢false h.0)
eq_cut (fin false n d) m e h = cut (n * up d) (down d) (m * up e) (down e) (down_pos d) h.1

-- what is in range
pub cut_differs : (g : Format) (s : Float) → lt plus_zero s ≡ true → le s (top g) ≡ true → ne (of_int g (pos (to_unsigned 64 s))) s ≡ bad_divisor g s
unfolding ne of_int to_unsigned whole
cut_differs g s p h = above_zero (λ s. lt plus_zero s ≡ true → le s (top g) ≡ true → ne (of_int g (pos (to_unsigned 64 s))) s ≡ bad_divisor g s)
    (λ p h. absurd (false≢true (unfold le in h))) (λ m e q p h.
    let x = m * up e in
    let most : x ≤ 2 ^ prec g * down e = omega (arith, le→cross (fin false m e) (top g) q tt (subst T (sym h) tt)) in
    let less : x / down e ≤ 2 ^ prec g = le_of_mul-le-mul_right (le_trans (div-mul-le_self x (down e)) most) (down_pos e) in
    let kept : min (x / down e) (2 ^ 64 - 1) ≡ x / down e = small (x / down e) (le_trans less (wide g)) in
    ap not (
    ap (λ (n : ℕ). eq (round g false n 1) (fin false m e)) kept
    ∙ eq_cut (round g false (x / down e) 1) m e (round_whole g false (x / down e) less)
    ∙ sym (all_pass (x % down e == 0) (nat_le (x / down e) (2 ^ prec g)) (lt plus_zero (fin false m e)) (le-leb (x / down e) (2 ^ prec g) less) p))) s p p h
  where
    small : (n : ℕ) → n ≤ 2 ^ 64 - 1 → min n (2 ^ 64 - 1) ≡ n
    small n h = omega arith

-- its whole part can be taken
pub cut_asks : (g : Format) (s : Float) → lt plus_zero s ≡ true → le s (top g) ≡ true → T (lt (fin true 1 (pos 0)) s) × T (lt s (fin false 1 (pos 64)))
unfolding lt
cut_asks g s p h = above_zero (λ s. le s (top g) ≡ true → T (lt (fin true 1 (pos 0)) s) × T (lt s (fin false 1 (pos 64))))
    (λ h. absurd (false≢true (unfold le in h))) (λ m e q h.
    let most : m * up e ≤ 2 ^ prec g * down e = omega (arith, le→cross (fin false m e) (top g) q tt (subst T (sym h) tt)) in
    (lt→ltb 0 (1 * 1 * down e + m * up e * 1) (omega (arith, down_pos e)), lt→ltb (m * up e * 1) (1 * 2 ^ 64 * down e) (omega (arith, mul-le-mul_right (down e) (wide g), down_pos e)))) s p h

-- ---- lines
pub length-divided : (g : Format) (s : Float) (l : List Float) → length (divided g s l) ≡ length l
length-divided g s l = length-tab _ (length l)

pub length-finished : (g : Format) (how : Finish) (l : List Float) → length (finished g how l) ≡ length l
length-finished g Kept l = refl
length-finished g (DividedBy s) l = length-divided g s l

-- a loop that divides x place by place, in place: one turn
pub divided_step : (g : Format) (s : Float) (i : ℕ) (x : List Float) {l : List Float} → i < length x → l ≡ written (λ k. div g (at x k) s) i x
    → slice_set l i (div g (at l i) s) ≡ written (λ k. div g (at x k) s) (i + 1) x
divided_step g s i x {l} h e =
    let rule : ℕ → Float = λ k. div g (at x k) s in
    written_step rule i x h e
    (ap (λ (v : Float). div g v s) (ap (λ (y : List Float). at y i) (e ∙ sym (placed_front rule i x)) ∙ get_or-placed_behind rule 0 i x i nan zero-le (omega arith)))
