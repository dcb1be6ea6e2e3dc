-- Laws of a number's digits: one digit more stands behind those of the tenth part. Twenty are enough for what is read, since each takes a tenth.
use Rattle.std.specs.Prelude.{◌≡◌, refl, Bool, true, false, cond, List, [], ◌∷◌, ◌++◌, ℕ, zero, suc, ◌+◌, ◌*◌, ◌/◌, ◌%◌, ◌≤◌, ◌<◌, ltb}
use Rattle.std.proofs.Common.{sym, ap, true≢false, arith, ltb-false, lt-ltb, le-ltb}
use Rattle.texts.specs.Texts.{digit, digits_of, decimal, greatest}

-- k digits hold n
unfoldable pub fits : ℕ → ℕ → Bool
fits zero n = false
fits (suc k) n = cond (ltb n 10) true (fits k (n / 10))

-- what holds of either branch holds of the choice
pub either : {A : Type 0} (P : A → Type 0) (t : Bool) {a b : A} → (t ≡ true → P a) → (t ≡ false → P b) → P (cond t a b)
either P true f g = f refl
either P false f g = g refl

-- the largest number of k digits
abbrev nines : ℕ → ℕ
nines zero = 0
nines (suc k) = 10 * nines k + 9

fits_nines : (k n : ℕ) → n ≤ nines (suc k) → fits (suc k) n ≡ true
unfolding fits
fits_nines zero n h = either (λ (t : Bool). t ≡ true) (ltb n 10) (λ e. refl) (λ e. absurd (omega (arith, ltb-false n 10 e, h)))
fits_nines (suc k) n h = either (λ (t : Bool). t ≡ true) (ltb n 10) (λ e. refl) (λ e. fits_nines k (n / 10) (omega (arith, h)))

-- what is read has no more than 19
fits_read : (n : ℕ) → n ≤ greatest → fits 19 n ≡ true
fits_read n h = fits_nines 18 n (omega (arith, h))

pub fits_decimal : (n : ℕ) → n ≤ greatest → fits 20 n ≡ true
fits_decimal n h = fits_nines 19 n (omega (arith, h))

-- more room changes nothing
same_digits : (k n : ℕ) → fits k n ≡ true → digits_of (suc k) n ≡ digits_of k n
unfolding fits digits_of
same_digits zero n e = absurd (true≢false (sym e))
same_digits (suc k) n e = go (ltb n 10) e (same_digits k (n / 10))
  where
    go : (t : Bool) → cond t true (fits k (n / 10)) ≡ true → (fits k (n / 10) ≡ true → digits_of (suc k) (n / 10) ≡ digits_of k (n / 10))
        → cond t (digit n ∷ []) (digits_of (suc k) (n / 10) ++ (digit (n % 10) ∷ [])) ≡ cond t (digit n ∷ []) (digits_of k (n / 10) ++ (digit (n % 10) ∷ []))
    go true e same = refl
    go false e same = ap (λ (l : List ℕ). l ++ (digit (n % 10) ∷ [])) (same e)

-- a digit more
pub decimal_more : (n d : ℕ) → 1 ≤ n → n ≤ greatest → d < 10 → decimal (n * 10 + d) ≡ decimal n ++ (digit d ∷ [])
unfolding digits_of
decimal_more n d one most h =
    let tenth : (n * 10 + d) / 10 ≡ n = omega arith in
    let last : (n * 10 + d) % 10 ≡ d = omega arith in
    let past : ltb (n * 10 + d) 10 ≡ false = le-ltb (n * 10 + d) 10 (omega arith) in
    simp (past, tenth, last) (ap (λ (l : List ℕ). l ++ (digit d ∷ [])) (sym (same_digits 19 n (fits_read n most))))

-- one digit
pub decimal_one : (d : ℕ) → d < 10 → decimal d ≡ digit d ∷ []
unfolding digits_of
decimal_one d h = simp (lt-ltb d 10 h)
