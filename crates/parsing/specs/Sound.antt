-- Laws: what the code reads as a line is the text of a line, of the numbers that it gives. Each phase stands for the bytes that it has read of a number; a byte that goes on adds to them.
use Rattle.std.specs.Prelude.{◌≡◌, refl, Bool, true, false, cond, ◌||◌, List, [], ◌∷◌, ◌++◌, ℕ, zero, suc, ◌+◌, ◌-◌, ◌*◌, ◌≤◌, ltb, eqb, ℤ, nat_abs, Float}
use Rattle.std.proofs.Common.{sym, ap, ◌∙◌, subst, true≢false, append-nil, append_assoc, arith, ltb-false, eqb-true}
use Rattle.std.proofs.lemmas.Bool.{eqb-false}
use Rattle.std.specs.Float.{binary64}
use Rattle.whole.specs.Floats.{signed, floats}
use Rattle.texts.specs.Texts.{newline, space, minus, digit, decimal, numeral, others_text, line_text, greatest, InRange}
use Rattle.texts.specs.Texts.InRange.{none, also}
use Rattle.texts.specs.Numerals.{either, decimal_one, decimal_more}
use Rattle.phases.specs.declared.Phase.{Phase}
use Rattle.phases.specs.declared.Phase.TheVariants.{Fresh, Next, Minus, Number, Closed, Broken}
use Rattle.phases.specs.Phases.{least, firstly, starting, grown, behind, value_of}
use Rattle.parsing.specs.Steps.{number_by, Got, line_from, got_of}
use Rattle.parsing.specs.Values.{Valid, value_whole, signed_size, sign_text, numeral_signed}
use Rattle.parsing.specs.Complete.{closed_line}

-- `front` and t are a line of a number and others, after z
pub record Lined (front t : List ℕ) (z : List Float) (g : Got) : Type 0 where
  pub number : ℤ
  pub others : List ℤ
  pub ranged : InRange (number ∷ others)
  pub given : g.numbers ≡ z ++ floats binary64 (number ∷ others)
  pub text : front ++ t ≡ line_text (number ∷ others) ++ g.rest

-- what broke stays broken
broken : (z : List Float) (t : List ℕ) → (line_from z Broken t).closed ≡ false
unfolding line_from
broken z [] = refl
broken z (c ∷ t) = broken (z ++ []) t

-- the bytes that a number has read
abbrev held : Bool → ℕ → List ℕ
held negative size = sign_text negative ++ decimal size

-- phases in a line that is not empty, and the bytes that each has read of a number
data Amid : Phase → Type 0 where
  next : Amid Next
  below : Amid Minus
  within : {negative : Bool} {size : ℕ} → Valid negative size → Amid (Number negative size)

abbrev front_of : Phase → List ℕ
front_of Fresh = []
front_of Next = []
front_of Minus = minus ∷ []
front_of (Number negative size) = held negative size
front_of Closed = []
front_of Broken = []

-- what is to be shown of a text
abbrev Reads : List ℕ → Type 0
Reads t = (p : Phase) → Amid p → (z : List Float) → (line_from z p t).closed ≡ true → Lined (front_of p) t z (line_from z p t)

-- `front` and t were read, and the phase q reads u, after z'
abbrev Goes : List ℕ → List ℕ → List Float → List ℕ → List Float → Phase → Type 0
Goes front t z u z' q = (line_from z' q u).closed ≡ true → Lined front t z (line_from z' q u)

breaks : (front t : List ℕ) (z : List Float) (u : List ℕ) (z' : List Float) → Goes front t z u z' Broken
breaks front t z u z' e = absurd (true≢false (sym e ∙ broken z' u))

-- the same bytes and numbers, parted otherwise
moved : {front t : List ℕ} {z : List Float} {g : Got} (front' t' : List ℕ) (z' : List Float) → front' ++ t' ≡ front ++ t → z ≡ z' → Lined front t z g → Lined front' t' z' g
moved front' t' z' e f l = record {
  number = l.number;
  others = l.others;
  ranged = l.ranged;
  given = l.given ∙ ap (λ (y : List Float). y ++ floats binary64 (l.number ∷ l.others)) f;
  text = e ∙ l.text;
}

-- ---- a digit that starts a number
digit_back : (c : ℕ) → 48 ≤ c → digit (c - 48) ≡ c
digit_back c h = omega arith

starts : (negative : Bool) (c : ℕ) (t : List ℕ) → 48 ≤ c → c ≤ 57 → sign_text negative ++ (c ∷ t) ≡ held negative (c - 48) ++ t
starts negative c t h l =
    let d : decimal (c - 48) ≡ c ∷ [] = decimal_one (c - 48) (omega arith) ∙ ap (λ (k : ℕ). k ∷ []) (digit_back c h) in
    sym (ap (λ (k : List ℕ). sign_text negative ++ k ++ t) d ∙ append_assoc (sign_text negative) (c ∷ []) t)

first_digit : (negative : Bool) (c : ℕ) (t : List ℕ) → Reads t → (z : List Float) → Goes (sign_text negative) (c ∷ t) z t (z ++ []) (firstly negative c)
first_digit negative c t reads z =
    either (Goes (sign_text negative) (c ∷ t) z t (z ++ [])) (ltb c (least negative)) (λ q. breaks _ _ z t _)
    (λ l. either (Goes (sign_text negative) (c ∷ t) z t (z ++ [])) (ltb 57 c) (λ q. breaks _ _ z t _)
    (λ m e. let low = from negative (ltb-false c (least negative) l) in
    moved (sign_text negative) (c ∷ t) z (starts negative c t low.0 (ltb-false 57 c m)) (append-nil z)
    (reads (Number negative (c - 48)) (within (record { most = let top = ltb-false 57 c m in omega arith; some = low.1 })) (z ++ []) e)))
  where
    from : (negative : Bool) → least negative ≤ c → (48 ≤ c) × (negative ≡ true → 1 ≤ c - 48)
    from true h = (omega (arith, h), λ e. omega (arith, h))
    from false h = (h, λ e. absurd (true≢false (sym e)))

first_byte : (c : ℕ) (t : List ℕ) → Reads t → (z : List Float) → Goes [] (c ∷ t) z t (z ++ []) (starting c)
first_byte c t reads z =
    either (Goes [] (c ∷ t) z t (z ++ [])) (eqb c minus)
    (λ q e. moved [] (c ∷ t) z (ap (λ (k : ℕ). k ∷ t) (eqb-true c minus q)) (append-nil z) (reads Minus below (z ++ []) e))
    (λ q. first_digit false c t reads z)

-- ---- a byte behind a number's digits
module _ (negative : Bool) (size : ℕ) (v : Valid negative size) (z : List Float) where
  abbrev itself : ℤ
  itself = signed negative size

  ranged_itself : nat_abs itself ≤ greatest
  ranged_itself = subst (λ (k : ℕ). k ≤ greatest) (sym (signed_size negative size)) v.most

  -- one number and a newline
  alone : (t : List ℕ) → Goes (held negative size) (newline ∷ t) z t (z ++ (value_of negative size ∷ [])) Closed
  alone t e =
      let g = closed_line (z ++ (value_of negative size ∷ [])) t in
      subst (Lined (held negative size) (newline ∷ t) z) (sym g)
      (record {
        number = itself;
        others = [];
        ranged = also ranged_itself none;
        given = ap (λ (x : Float). z ++ (x ∷ [])) (value_whole negative size v);
        text = ap (λ (l : List ℕ). l ++ (newline ∷ t)) (sym (numeral_signed negative size v)) ∙ sym (append_assoc (numeral itself) (newline ∷ []) t);
      })

  -- a space, and a line of others
  parted : (t : List ℕ) → Reads t → Goes (held negative size) (space ∷ t) z t (z ++ (value_of negative size ∷ [])) Next
  parted t reads e =
      let l = reads Next next (z ++ (value_of negative size ∷ [])) e in
      let rest = (line_from (z ++ (value_of negative size ∷ [])) Next t).rest in
      record {
        number = itself;
        others = l.number ∷ l.others;
        ranged = also ranged_itself l.ranged;
        given = l.given ∙ append_assoc z (value_of negative size ∷ []) (floats binary64 (l.number ∷ l.others))
            ∙ ap (λ (x : Float). z ++ (x ∷ floats binary64 (l.number ∷ l.others))) (value_whole negative size v);
        text = ap (λ (k : List ℕ). k ++ (space ∷ t)) (sym (numeral_signed negative size v))
            ∙ ap (λ (k : List ℕ). numeral itself ++ (space ∷ k)) l.text
            ∙ sym (append_assoc (numeral itself) (others_text (l.number ∷ l.others)) rest);
      }

  -- a digit more
  further : (c : ℕ) (t : List ℕ) → 48 ≤ c → c ≤ 57 → 1 ≤ size → held negative size ++ (c ∷ t) ≡ held negative (size * 10 + (c - 48)) ++ t
  further c t low top some =
      let d : decimal (size * 10 + (c - 48)) ≡ decimal size ++ (c ∷ []) = decimal_more size (c - 48) some v.most (omega arith) ∙ ap (λ (k : ℕ). decimal size ++ (k ∷ [])) (digit_back c low) in
      sym (ap (λ (k : List ℕ). sign_text negative ++ k ++ t) d
      ∙ ap (λ (k : List ℕ). k ++ t) (sym (append_assoc (sign_text negative) (decimal size) (c ∷ [])))
      ∙ append_assoc (held negative size) (c ∷ []) t)

  longer : (c : ℕ) (t : List ℕ) → Reads t → Goes (held negative size) (c ∷ t) z t (z ++ []) (grown negative size c)
  longer c t reads =
      let G = Goes (held negative size) (c ∷ t) z t (z ++ []) in
      let more = size * 10 + (c - 48) in
      either G (ltb c 48) (λ q. breaks _ _ z t _)
      (λ l. either G (ltb 57 c) (λ q. breaks _ _ z t _)
      (λ m. either G (eqb size 0) (λ q. breaks _ _ z t _)
      (λ n. either G (ltb greatest more) (λ q. breaks _ _ z t _)
      (λ o e.
      let low = ltb-false c 48 l in
      let top = ltb-false 57 c m in
      let some = above size (eqb-false size 0 n) in
      moved (held negative size) (c ∷ t) z (further c t low top some) (append-nil z)
      (reads (Number negative more) (within (record { most = ltb-false greatest more o; some = λ q. omega arith })) (z ++ []) e)))))
    where
      above : (n : ℕ) → (n ≡ 0 → ⊥) → 1 ≤ n
      above zero h = absurd (h refl)
      above (suc n) h = omega arith

  -- any byte
  behind_number : (c : ℕ) (t : List ℕ) → Reads t → Goes (held negative size) (c ∷ t) z t (z ++ number_by negative size c) (behind negative size c)
  behind_number c t reads = go (eqb c space) (eqb c newline) refl refl
    where
      go : (a b : Bool) → eqb c space ≡ a → eqb c newline ≡ b
          → Goes (held negative size) (c ∷ t) z t (z ++ cond (a || b) (value_of negative size ∷ []) []) (cond a Next (cond b Closed (grown negative size c)))
      go true b p q e = subst (λ (k : ℕ). Lined (held negative size) (k ∷ t) z (line_from (z ++ (value_of negative size ∷ [])) Next t)) (sym (eqb-true c space p)) (parted t reads e)
      go false true p q e = subst (λ (k : ℕ). Lined (held negative size) (k ∷ t) z (line_from (z ++ (value_of negative size ∷ [])) Closed t)) (sym (eqb-true c newline q)) (alone t e)
      go false false p q e = longer c t reads e

-- ---- every text
after : (t : List ℕ) → Reads t
unfolding line_from
after [] Next next z e = absurd (true≢false (sym e))
after [] Minus below z e = absurd (true≢false (sym e))
after [] (Number negative size) (within v) z e = absurd (true≢false (sym e))
after [] Fresh p z e = elim p [ ]
after [] Closed p z e = elim p [ ]
after [] Broken p z e = elim p [ ]
after (c ∷ t) Fresh p z e = elim p [ ]
after (c ∷ t) Closed p z e = elim p [ ]
after (c ∷ t) Broken p z e = elim p [ ]
after (c ∷ t) Next next z e = first_byte c t (after t) z e
after (c ∷ t) Minus below z e = first_digit true c t (after t) z e
after (c ∷ t) (Number negative size) (within v) z e = behind_number negative size v z c t (after t) e

-- what a line that was closed gave: the whole numbers of its text, and the text behind
pub record Line (t : List ℕ) (g : Got) : Type 0 where
  pub numbers : List ℤ
  pub ranged : InRange numbers
  pub given : g.numbers ≡ floats binary64 numbers
  pub text : t ≡ line_text numbers ++ g.rest

pub line_sound : (t : List ℕ) → (got_of t).closed ≡ true → Line t (got_of t)
unfolding line_from
line_sound [] = λ e. absurd (true≢false (sym e))
line_sound (c ∷ t) = either (λ (p : Phase). (line_from [] p t).closed ≡ true → Line (c ∷ t) (line_from [] p t)) (eqb c newline) (λ q e. empty q) (λ q e. some (first_byte c t (after t) [] e))
  where
    empty : eqb c newline ≡ true → Line (c ∷ t) (line_from [] Closed t)
    empty q =
        subst (Line (c ∷ t)) (sym (closed_line [] t))
        (record { numbers = []; ranged = none; given = refl; text = ap (λ (k : ℕ). k ∷ t) (eqb-true c newline q) })

    some : {g : Got} → Lined [] (c ∷ t) [] g → Line (c ∷ t) g
    some l = record { numbers = l.number ∷ l.others; ranged = l.ranged; given = l.given; text = l.text }
