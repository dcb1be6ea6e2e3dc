-- Laws of digits that are filled in from the end: at each turn those still to be filled and those that are make the number's text.
use Rattle.std.specs.Prelude.{◌≡◌, List, [], ◌∷◌, ◌++◌, ℕ, zero, suc, ◌+◌, ◌-◌, ◌/◌, ◌%◌, ◌^◌, ◌≤◌, ◌<◌, length, drop, set}
use Rattle.std.proofs.Common.{sym, ap, ◌∙◌, div-lt_iff_lt-mul, mod-lt, pow-suc, add-one, arith, lt-ltb, le-ltb, lit<, length-set, drop-cons, drop-set-lt, get_or-set_same}
use Rattle.std.proofs.Math.Seq.{append_snoc}
use Rattle.texts.specs.Texts.{digit, digits_of}
use Rattle.texts.specs.Prints.{hex_digit, hex_of}

-- one place more of x is filled, with the last of what was still to be filled
pub filled : (h x : List ℕ) (j v : ℕ) → j < length x → (h ++ (v ∷ [])) ++ drop (suc j) x ≡ h ++ drop j (set x j v)
filled h x j v b =
    append_snoc h v (drop (suc j) x)
    ∙ ap (λ (w : List ℕ). h ++ v ∷ w) (sym (drop-set-lt (suc j) x j v (omega arith)))
    ∙ ap (λ (w : ℕ). h ++ w ∷ drop (suc j) (set x j v)) (sym (get_or-set_same x j v v b))
    ∙ ap (λ (w : List ℕ). h ++ w) (sym (drop-cons (set x j v) j v (simp length-set b)))

pub hex_turn : (x : List ℕ) (i rest : ℕ) {l : List ℕ} {v : ℕ} → 0 < i → i ≤ length x → v ≡ hex_digit (rest % 16) → l ≡ hex_of i rest ++ drop i x
    → l ≡ hex_of (i - 1) (rest / 16) ++ drop (i - 1) (set x (i - 1) v)
unfolding hex_of
hex_turn x i rest {l} {v} a b q e = let s : i ≡ suc (i - 1) = omega arith in go (i - 1) s
  where
    go : (j : ℕ) → i ≡ suc j → l ≡ hex_of j (rest / 16) ++ drop j (set x j v)
    go j s =
        e
        ∙ ap (λ (k : ℕ). hex_of k rest ++ drop k x) s
        ∙ ap (λ (w : ℕ). (hex_of j (rest / 16) ++ (w ∷ [])) ++ drop (suc j) x) (sym q)
        ∙ filled (hex_of j (rest / 16)) x j v (omega arith)

-- none is still to be filled
pub hex_end : (x : List ℕ) (i rest : ℕ) {l : List ℕ} → i ≤ 0 → l ≡ hex_of i rest ++ drop i x → l ≡ x
unfolding hex_of
hex_end x zero rest h e = e
hex_end x (suc i) rest h e = absurd (omega arith)

-- a decimal digit is a hex one below 10
digit_low : (d : ℕ) → d < 10 → hex_digit d ≡ digit d
digit_low d h = simp (lt-ltb d 10 h)

digits_more : (j rest : ℕ) → 9 < rest → digits_of (suc j) rest ≡ digits_of j (rest / 10) ++ (digit (rest % 10) ∷ [])
unfolding digits_of
digits_more j rest h = simp (le-ltb rest 10 (omega arith))

digits_last : (j rest : ℕ) → rest ≤ 9 → digits_of (suc j) rest ≡ digit rest ∷ []
unfolding digits_of
digits_last j rest h = simp (lt-ltb rest 10 (omega arith))

-- a number of more than one digit leaves a place for the next, and the rest of it has one digit less
pub place_left : (i rest : ℕ) → rest < 10 ^ (i + 1) → 9 < rest → 0 < i
place_left zero rest a b = absurd (omega arith)
place_left (suc i) rest a b = omega arith

pub rest_smaller : (i rest : ℕ) → rest < 10 ^ (i + 1) → 0 < i → rest / 10 < 10 ^ (i - 1 + 1)
rest_smaller i rest a b =
    let q : i ≡ i - 1 + 1 = omega arith in
    rw (← q) ((div-lt_iff_lt-mul (lit< tt)).1 (rw (add-one, pow-suc) at a))

pub decimal_turn : (x : List ℕ) (i rest : ℕ) {l : List ℕ} {v : ℕ} → 9 < rest → 0 < i → i < length x → v ≡ hex_digit (rest % 10) → l ≡ digits_of (i + 1) rest ++ drop (i + 1) x
    → l ≡ digits_of (i - 1 + 1) (rest / 10) ++ drop (i - 1 + 1) (set x i v)
decimal_turn x i rest {l} {v} a b h q e =
    let next : i ≡ i - 1 + 1 = omega arith in
    let w : digit (rest % 10) ≡ v = sym (q ∙ digit_low (rest % 10) (mod-lt rest (lit< tt))) in
    e
    ∙ ap (λ (k : ℕ). digits_of k rest ++ drop k x) (add-one i)
    ∙ ap (λ (m : List ℕ). m ++ drop (suc i) x) (digits_more i rest a)
    ∙ ap (λ (d : ℕ). (digits_of i (rest / 10) ++ (d ∷ [])) ++ drop (suc i) x) w
    ∙ filled (digits_of i (rest / 10)) x i v h
    ∙ ap (λ (k : ℕ). digits_of k (rest / 10) ++ drop k (set x i v)) next

pub decimal_end : (x : List ℕ) (i rest : ℕ) {l : List ℕ} {v : ℕ} → rest ≤ 9 → i < length x → v ≡ hex_digit rest → l ≡ digits_of (i + 1) rest ++ drop (i + 1) x → l ≡ drop i (set x i v)
decimal_end x i rest {l} {v} a h q e =
    e
    ∙ ap (λ (k : ℕ). digits_of k rest ++ drop k x) (add-one i)
    ∙ ap (λ (m : List ℕ). m ++ drop (suc i) x) (digits_last i rest a)
    ∙ ap (λ (d : ℕ). d ∷ drop (suc i) x) (sym (q ∙ digit_low rest (omega arith)))
    ∙ filled [] x i v h
