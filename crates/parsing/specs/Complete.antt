-- Laws: the code reads the text of a line as its numbers, and what follows is left. Digits are read one by one, each as the definition of a number's digits has it.
use Rattle.std.specs.Prelude.{◌≡◌, refl, Bool, true, false, cond, List, [], ◌∷◌, ◌++◌, ℕ, zero, suc, ◌+◌, ◌-◌, ◌*◌, ◌/◌, ◌%◌, ◌≤◌, ◌<◌, ltb, ℤ, pos, negsuc, nat_abs, Float}
use Rattle.std.proofs.Common.{sym, ap, ◌∙◌, true≢false, append-nil, append_assoc, arith, ltb-true, ltb-false, le-ltb, ne_eqb}
use Rattle.std.specs.Float.{binary64}
use Rattle.std.specs.Float.Ieee.{of_int}
use Rattle.whole.specs.Floats.{floats}
use Rattle.texts.specs.Texts.{newline, space, minus, digit, digits_of, decimal, numeral, others_text, line_text, greatest, InRange}
use Rattle.texts.specs.Texts.InRange.{also}
use Rattle.texts.specs.Numerals.{fits, fits_decimal}
use Rattle.phases.specs.declared.Phase.{Phase}
use Rattle.phases.specs.declared.Phase.TheVariants.{Fresh, Next, Minus, Number, Closed}
use Rattle.phases.specs.Phases.{firstly, starting, freshly, grown, behind, stepped, closed_at, value_of}
use Rattle.parsing.specs.Steps.{separates, ended_by, got, line_from, got_of}
use Rattle.parsing.specs.Values.{Valid, value_whole}

-- a phase in which a number with this sign starts
pub record Starts (negative : Bool) (p : Phase) : Type 0 where
  pub ajar : closed_at p ≡ false
  pub nothing : (c : ℕ) → ended_by p c ≡ []
  pub first : (d : ℕ) → d < 10 → (negative ≡ true → 1 ≤ d) → stepped p (digit d) ≡ Number negative d

-- a digit is no separator
apart : (d : ℕ) → d < 10 → separates (digit d) ≡ false
apart d h = simp (ne_eqb (digit d) space (λ e. absurd (omega (arith, e))), ne_eqb (digit d) newline (λ e. absurd (omega (arith, e))))

first_plain : (d : ℕ) → d < 10 → firstly false (digit d) ≡ Number false d
first_plain d h =
    let s : digit d - 48 ≡ d = omega arith in
    simp (le-ltb (digit d) 48 (omega arith), le-ltb 57 (digit d) (omega arith), s)

first_minus : (d : ℕ) → d < 10 → 1 ≤ d → firstly true (digit d) ≡ Number true d
first_minus d h l =
    let s : digit d - 48 ≡ d = omega arith in
    simp (le-ltb (digit d) 49 (omega arith), le-ltb 57 (digit d) (omega arith), s)

starting_plain : (d : ℕ) → d < 10 → starting (digit d) ≡ Number false d
starting_plain d h = simp (ne_eqb (digit d) minus (λ e. absurd (omega (arith, e))), first_plain d h)

freshly_plain : (d : ℕ) → d < 10 → freshly (digit d) ≡ Number false d
freshly_plain d h = simp (ne_eqb (digit d) newline (λ e. absurd (omega (arith, e))), starting_plain d h)

starts_fresh : Starts false Fresh
starts_fresh = record { ajar = refl; nothing = λ c. refl; first = λ d h s. freshly_plain d h }

starts_next : Starts false Next
starts_next = record { ajar = refl; nothing = λ c. refl; first = λ d h s. starting_plain d h }

starts_minus : Starts true Minus
starts_minus = record { ajar = refl; nothing = λ c. refl; first = λ d h s. first_minus d h (s refl) }

-- a digit more
grown_by : (negative : Bool) (n : ℕ) → 10 ≤ n → n ≤ greatest → grown negative (n / 10) (digit (n % 10)) ≡ Number negative n
grown_by negative n ten most =
    let s : n / 10 * 10 + (digit (n % 10) - 48) ≡ n = omega arith in
    simp (le-ltb (digit (n % 10)) 48 (omega arith), le-ltb 57 (digit (n % 10)) (omega arith), ne_eqb (n / 10) 0 (λ e. absurd (omega (arith, e))), s, le-ltb greatest n most)

behind_by : (negative : Bool) (n : ℕ) → 10 ≤ n → n ≤ greatest → behind negative (n / 10) (digit (n % 10)) ≡ Number negative n
behind_by negative n ten most =
    simp (ne_eqb (digit (n % 10)) space (λ e. absurd (omega (arith, e))), ne_eqb (digit (n % 10)) newline (λ e. absurd (omega (arith, e))), grown_by negative n ten most)

-- one byte
step_first : (negative : Bool) (p : Phase) → Starts negative p → (z : List Float) (d : ℕ) (t : List ℕ) → d < 10 → (negative ≡ true → 1 ≤ d)
    → line_from z p (digit d ∷ t) ≡ line_from z (Number negative d) t
unfolding line_from
step_first negative p s z d t h some =
    simp (s.ajar, s.nothing (digit d), s.first d h some, append-nil z)

step_more : (negative : Bool) (n : ℕ) (z : List Float) (t : List ℕ) → 10 ≤ n → n ≤ greatest
    → line_from z (Number negative (n / 10)) (digit (n % 10) ∷ t) ≡ line_from z (Number negative n) t
unfolding line_from
step_more negative n z t ten most =
    let h : n % 10 < 10 = omega arith in
    simp (apart (n % 10) h, behind_by negative n ten most, append-nil z)

-- all digits of a number
digits_read : (k n : ℕ) → fits k n ≡ true → (negative : Bool) (p : Phase) → Starts negative p → Valid negative n → (z : List Float) (t : List ℕ)
    → line_from z p (digits_of k n ++ t) ≡ line_from z (Number negative n) t
unfolding fits digits_of
digits_read zero n e negative p s v z t = absurd (true≢false (sym e))
digits_read (suc k) n e negative p s v z t = go (ltb n 10) refl e (λ f w. digits_read k (n / 10) f negative p s w z (digit (n % 10) ∷ t))
  where
    go : (b : Bool) → ltb n 10 ≡ b → cond b true (fits k (n / 10)) ≡ true
        → (fits k (n / 10) ≡ true → Valid negative (n / 10) → line_from z p (digits_of k (n / 10) ++ (digit (n % 10) ∷ t)) ≡ line_from z (Number negative (n / 10)) (digit (n % 10) ∷ t))
        → line_from z p (cond b (digit n ∷ []) (digits_of k (n / 10) ++ (digit (n % 10) ∷ [])) ++ t) ≡ line_from z (Number negative n) t
    go true l e more = step_first negative p s z n t (ltb-true n 10 l) v.some
    go false l e more =
        let ten = ltb-false n 10 l in
        let m = v.most in
        ap (line_from z p) (append_assoc (digits_of k (n / 10)) (digit (n % 10) ∷ []) t)
        ∙ more e (record { most = omega arith; some = λ q. omega arith })
        ∙ step_more negative n z t ten m

-- ---- a whole number, with its sign
abbrev negative_of : ℤ → Bool
negative_of (pos n) = false
negative_of (negsuc n) = true

valid_whole : (w : ℤ) → nat_abs w ≤ greatest → Valid (negative_of w) (nat_abs w)
valid_whole (pos n) h = record { most = h; some = λ e. absurd (true≢false (sym e)) }
valid_whole (negsuc n) h = record { most = h; some = λ e. omega arith }

value_of_lem : (w : ℤ) → nat_abs w ≤ greatest → value_of (negative_of w) (nat_abs w) ≡ of_int binary64 w
value_of_lem (pos n) h = value_whole false n (valid_whole (pos n) h)
value_of_lem (negsuc n) h = value_whole true (suc n) (valid_whole (negsuc n) h)

-- a phase in which a number starts, whatever its sign
record Opens (p : Phase) : Type 0 where
  plain : Starts false p
  below : (z : List Float) (t : List ℕ) → line_from z p (minus ∷ t) ≡ line_from z Minus t

below_fresh : (z : List Float) (t : List ℕ) → line_from z Fresh (minus ∷ t) ≡ line_from z Minus t
unfolding line_from
below_fresh z t = ap (λ (l : List Float). line_from l Minus t) (append-nil z)

below_next : (z : List Float) (t : List ℕ) → line_from z Next (minus ∷ t) ≡ line_from z Minus t
unfolding line_from
below_next z t = ap (λ (l : List Float). line_from l Minus t) (append-nil z)

opens_fresh : Opens Fresh
opens_fresh = record { plain = starts_fresh; below = below_fresh }

opens_next : Opens Next
opens_next = record { plain = starts_next; below = below_next }

numeral_read : (p : Phase) → Opens p → (w : ℤ) → nat_abs w ≤ greatest → (z : List Float) (t : List ℕ) → line_from z p (numeral w ++ t) ≡ line_from z (Number (negative_of w) (nat_abs w)) t
numeral_read p o (pos n) h z t = digits_read 20 n (fits_decimal n h) false p o.plain (valid_whole (pos n) h) z t
numeral_read p o (negsuc n) h z t = o.below z (decimal (suc n) ++ t) ∙ digits_read 20 (suc n) (fits_decimal (suc n) h) true Minus starts_minus (valid_whole (negsuc n) h) z t

-- ---- a line
pub closed_line : (z : List Float) (t : List ℕ) → line_from z Closed t ≡ got true z t
unfolding line_from
closed_line z [] = refl
closed_line z (c ∷ t) = refl

others_read : (zs : List ℤ) → InRange zs → (z : List Float) (negative : Bool) (n : ℕ) (r : List ℕ)
    → line_from z (Number negative n) (others_text zs ++ r) ≡ got true (z ++ (value_of negative n ∷ floats binary64 zs)) r
unfolding line_from
others_read [] i z negative n r = closed_line (z ++ (value_of negative n ∷ [])) r
others_read (w ∷ zs) (also h i) z negative n r =
    let v = value_of negative n in
    let front = z ++ (v ∷ []) in
    ap (line_from front Next) (append_assoc (numeral w) (others_text zs) r)
    ∙ numeral_read Next opens_next w h front (others_text zs ++ r)
    ∙ others_read zs i front (negative_of w) (nat_abs w) r
    ∙ ap (λ (x : Float). got true (front ++ (x ∷ floats binary64 zs)) r) (value_of_lem w h)
    ∙ ap (λ (l : List Float). got true l r) (append_assoc z (v ∷ []) (floats binary64 (w ∷ zs)))

pub line_read : (zs : List ℤ) → InRange zs → (r : List ℕ) → got_of (line_text zs ++ r) ≡ got true (floats binary64 zs) r
unfolding line_from
line_read [] i r = closed_line [] r
line_read (w ∷ zs) (also h i) r =
    ap (line_from [] Fresh) (append_assoc (numeral w) (others_text zs) r)
    ∙ numeral_read Fresh opens_fresh w h [] (others_text zs ++ r)
    ∙ others_read zs i [] (negative_of w) (nat_abs w) r
    ∙ ap (λ (x : Float). got true (x ∷ floats binary64 zs) r) (value_of_lem w h)
