-- Laws of the border rule: borders by number, remainders, places beyond the line and in it.
use Rattle.std.specs.Prelude.{◌≡◌, refl, Bool, true, false, cond, List, ◌⊎◌, ℕ, ◌+◌, ◌-◌, ◌*◌, ◌/◌, ◌%◌, ◌≤◌, ◌<◌, ltb, length, get_or}
use Rattle.std.proofs.Common.{sym, ap, ◌∙◌, ⊎_elim, mod-lt, mod-eq_of_lt, add-mul, div-add-mod', div-le_self, le-mul_of_pos_right, arith, lt-ltb, le-ltb, ltb-true, ltb-false}
use Rattle.std.proofs.Math.Nat.{mod-add-mod, add-mod_right, add-mul-mod_self_right}
use Rattle.border.specs.declared.Border.{Border}
use Rattle.border.specs.declared.Border.TheVariants.{Clamp, Wrap, Reflect, Zeros, Reflect101, Mirror, Mirror101}
use Rattle.border.specs.declared.rule.Place.{Place}
use Rattle.border.specs.declared.rule.Place.TheVariants.{Before, At}
use Rattle.border.specs.Rule.{borders, number_of, modulo, turned, outside, source, place_in, padded}
use Rattle.border.specs.Reach.{Near, Past}

-- every border stands in the list at its number, so the number tells it
pub listed : (b : Border) → get_or borders (number_of b) Clamp ≡ b
listed Clamp = refl
listed Wrap = refl
listed Reflect = refl
listed Zeros = refl
listed Reflect101 = refl
listed Mirror = refl
listed Mirror101 = refl

pub numbered : (a b : Border) → number_of a ≡ number_of b → a ≡ b
numbered a b e = sym (listed a) ∙ ap (λ (k : ℕ). get_or borders k Clamp) e ∙ listed b

pub mod_low : (k n : ℕ) → 0 < n → k % n < n
mod_low k n h = mod-lt k h

pub modulo_low : (p : Place) (n : ℕ) → 0 < n → modulo p n < n
modulo_low (Before k) n h = omega (arith, mod_low k n h)
modulo_low (At i) n h = mod_low i n h

-- the remainder differs from its place, -(k + 1) or i, by a multiple of n
pub modulo_before : (k n : ℕ) → 0 < n → modulo (Before k) n + (k + 1) ≡ k / n * n + n
modulo_before k n h = omega (arith, div-add-mod' k n, mod_low k n h)

pub modulo_at : (i n : ℕ) → i ≡ i / n * n + modulo (At i) n
modulo_at i n = sym (div-add-mod' i n)

-- a place's remainder is that of its count from the front, moved by whole periods so that nothing is below zero
modulo_as : (period left q : ℕ) → 0 < period → modulo (place_in left q) period ≡ (q + (left * period - left)) % period
modulo_as period left q h = go (ltb q left) (ltb-true q left) (ltb-false q left)
  where
    long : left ≤ left * period
    long = le-mul_of_pos_right left h

    go : (t : Bool) → (t ≡ true → q < left) → (t ≡ false → left ≤ q) → modulo (cond t (Before (left - 1 - q)) (At (q - left))) period ≡ (q + (left * period - left)) % period
    go true y z =
        let a = left - 1 - q in
        let d = a / period in
        let t = left - 1 - d in
        let parts : left ≡ t + (d + 1) = omega (arith, y refl, div-le_self a period) in
        let whole : left * period ≡ t * period + (d * period + 1 * period) = ap (λ (k : ℕ). k * period) parts ∙ add-mul t (d + 1) period ∙ ap (λ (k : ℕ). t * period + k) (add-mul d 1 period) in
        let e : period - 1 - a % period + t * period ≡ q + (left * period - left) = omega (arith, y refl, whole, long, div-add-mod' a period, mod_low a period h) in
        sym (mod-eq_of_lt (omega (arith, h))) ∙ sym (add-mul-mod_self_right (period - 1 - a % period) t period) ∙ ap (λ (k : ℕ). k % period) e
    go false y z =
        let e : q - left + left * period ≡ q + (left * period - left) = omega (arith, z refl, long) in
        sym (add-mul-mod_self_right (q - left) left period) ∙ ap (λ (k : ℕ). k % period) e

-- a sample of the line has its own remainder
pub modulo_line : (period left k : ℕ) → modulo (place_in left (left + k)) period ≡ k % period
modulo_line period left k = let e : left + k - left ≡ k = omega arith in simp (le-ltb (left + k) left (omega arith), e)

-- k places further on the remainder is k more, and begins anew with each period
pub modulo_on : (period left q k : ℕ) → 0 < period → modulo (place_in left (q + k)) period ≡ (modulo (place_in left q) period + k) % period
modulo_on period left q k h =
    let c = left * period - left in
    let e : q + k + c ≡ q + c + k = omega arith in
    modulo_as period left (q + k) h
    ∙ ap (λ (x : ℕ). x % period) e
    ∙ sym (mod-add-mod (q + c) period k)
    ∙ ap (λ (x : ℕ). (x + k) % period) (sym (modulo_as period left q h))

pub modulo_period : (period left q : ℕ) → 0 < period → modulo (place_in left (q + period)) period ≡ modulo (place_in left q) period
modulo_period period left q h = modulo_on period left q period h ∙ add-mod_right (modulo (place_in left q) period) period ∙ mod-eq_of_lt (modulo_low (place_in left q) period h)

-- a place further out in front: its remainder is a period less one more
pub modulo_back : (period k : ℕ) → 0 < period → modulo (Before (k + 1)) period ≡ (modulo (Before k) period + (period - 1)) % period
modulo_back period k h =
    let one : modulo (place_in (k + 2) 0) period ≡ modulo (Before (k + 1)) period = let e : k + 2 - 1 - 0 ≡ k + 1 = omega arith in simp (lt-ltb 0 (k + 2) (omega arith), e) in
    let two : modulo (place_in (k + 2) 1) period ≡ modulo (Before k) period = let e : k + 2 - 1 - 1 ≡ k = omega arith in simp (lt-ltb 1 (k + 2) (omega arith), e) in
    let e : 0 + period ≡ 1 + (period - 1) = omega arith in
    sym one
    ∙ sym (modulo_period period (k + 2) 0 h)
    ∙ ap (λ (j : ℕ). modulo (place_in (k + 2) j) period) e
    ∙ modulo_on period (k + 2) 1 (period - 1) h
    ∙ ap (λ (r : ℕ). (r + (period - 1)) % period) two

-- there and back is a place of the line
pub turned_low : (n turn top q : ℕ) → turn ≤ n → top < turn + n → turned turn top q < n
turned_low n turn top q h k = go (ltb q turn) (ltb-true q turn) (ltb-false q turn)
  where
    go : (t : Bool) → (t ≡ true → q < turn) → (t ≡ false → turn ≤ q) → cond t q (top - q) < n
    go true y z = omega (arith, y refl)
    go false y z = omega (arith, z refl)

-- a place of the padded line that is none of the line itself
pub past_in : (n left q : ℕ) → 0 < n → (q < left) ⊎ (left + n ≤ q) → Past (place_in left q) n
past_in n left q some h = go (ltb q left) (ltb-false q left)
  where
    go : (t : Bool) → (t ≡ false → left ≤ q) → Past (cond t (Before (left - 1 - q)) (At (q - left))) n
    go true y = some
    go false y = ⊎_elim (λ u. omega (arith, y refl, u)) (λ u. omega (arith, u)) h

pub source_past : (b : Border) (p : Place) (n : ℕ) → Past p n → source b p n ≡ outside b p n
unfolding source
source_past b (Before k) n o = refl
source_past b (At i) n o = simp (le-ltb i n o)

-- a place as far as Reflect101 goes
pub near_in : (n left q : ℕ) → left + 2 ≤ n + q → q + 3 ≤ left + 2 * n → Near (place_in left q) n
near_in n left q h k = go (ltb q left) (ltb-true q left) (ltb-false q left)
  where
    go : (t : Bool) → (t ≡ true → q < left) → (t ≡ false → left ≤ q) → Near (cond t (Before (left - 1 - q)) (At (q - left))) n
    go true y z = omega (arith, y refl)
    go false y z = omega (arith, z refl)

-- the line itself stands in the padded line
pub padded_line : {A : Type 0} (z : A) (b : Border) (s : List A) (left k : ℕ) → k < length s → padded z b s left (left + k) ≡ get_or s k z
unfolding padded source
padded_line z b s left k h =
    let e : left + k - left ≡ k = omega arith in
    simp (le-ltb (left + k) left (omega arith), e, lt-ltb k (length s) h)

-- from the line on, a place is the same however many stand in front
pub padded_from : {A : Type 0} (z : A) (b : Border) (s : List A) (left k : ℕ) → padded z b s left (left + k) ≡ padded z b s 0 k
unfolding padded
padded_from z b s left k =
    let e : left + k - left ≡ k = omega arith in
    let o : k - 0 ≡ k = omega arith in
    simp (le-ltb (left + k) left (omega arith), le-ltb k 0 (omega arith), e, o)
