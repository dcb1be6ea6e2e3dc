-- Laws of reading: a text has fewer numbers than half its bytes, so the buffer is large enough for them; and what parsing answered asks for what the definition says.
use Rattle.std.specs.Prelude.{◌≡◌, refl, Bool, true, false, cond, ◌⊎◌, List, [], ◌∷◌, ◌++◌, ℕ, suc, ◌+◌, ◌-◌, ◌*◌, ◌/◌, ◌%◌, ◌≤◌, ltb, length, take, drop, ℤ, pos, negsuc, Result, Ok, Err, IfOk, Float}
use Rattle.std.proofs.Common.{sym, ap, ◌∙◌, subst, inl, inr, append_assoc, arith, le-ltb, length-append, drop-drop, take_at, drop_at}
use Rattle.std.proofs.lemmas.List.{length-map}
use Rattle.std.proofs.lemmas.Result.{IfOk-weaker}
use Rattle.std.specs.Float.{binary64}
use Rattle.std.specs.Float.Ieee.{of_int}
use Rattle.numbers.specs.Tests.{cond_false, renewed}
use Rattle.whole.specs.Floats.{floats}
use Rattle.border.specs.declared.Border.{Border}
use Rattle.texts.specs.Texts.{newline, digit, digits_of, numeral, others_text, line_text, name_of, lists_text, Request, Stands}
use Rattle.parsing.specs.declared.Request as parsed
use Rattle.parsing.specs.declared.ParseError.{ParseError}
use Rattle.parsing.specs.declared.ParseError.TheVariants.{InputSize, Unreadable}
use Rattle.parsing.specs.Parses.{number_of, numbers_of, held_by, request, TextParsed}
use Rattle.parsing.specs.Decides as Decides
use Rattle.parsing.specs.Parsing.{floats_all}
use Rattle.parsing.specs.Unique.{decide}
use Rattle.answering.specs.declared.asking.Asked.{Asked}
use Rattle.answering.specs.declared.asking.Refusal.{Refusal}
use Rattle.answering.specs.declared.asking.Refusal.TheVariants as refusal
use Rattle.answering.specs.Answers.{most_numbers}
use Rattle.answering.specs.Asks.{unparsed, line_in, ListsAsked, TextAsked}

-- ---- how many numbers a text has
some_digit : (k n : ℕ) → 1 ≤ length (digits_of (suc k) n)
unfolding digits_of
some_digit k n = go (ltb n 10)
  where
    go : (t : Bool) → 1 ≤ length (cond t (digit n ∷ []) (digits_of k (n / 10) ++ (digit (n % 10) ∷ [])))
    go true = omega arith
    go false = omega (arith, length-append (digits_of k (n / 10)) (digit (n % 10) ∷ []))

some_byte : (z : ℤ) → 1 ≤ length (numeral z)
some_byte (pos n) = some_digit 19 n
some_byte (negsuc n) = omega arith

length-others : (zs : List ℤ) → 2 * length zs + 1 ≤ length (others_text zs)
length-others [] = omega arith
length-others (z ∷ zs) = omega (arith, length-append (numeral z) (others_text zs), some_byte z, length-others zs)

length-line : (zs : List ℤ) → 2 * length zs ≤ length (line_text zs)
length-line [] = omega arith
length-line (z ∷ zs) = omega (arith, length-append (numeral z) (others_text zs), some_byte z, length-others zs)

pub few : (q : Request) (t : List ℕ) → Stands q t → length (numbers_of q) ≤ most_numbers
few q t s =
    let whole = ap length s.same in
    let a = length-append (name_of q.border) (newline ∷ lists_text q.low q.high q.samples) in
    let b = length-append (line_text q.low) (line_text q.high ++ line_text q.samples) in
    let c = length-append (line_text q.high) (line_text q.samples) in
    let d = length-append q.low (q.high ++ q.samples) in
    let e = length-append q.high q.samples in
    let l = length-line q.low in
    let h = length-line q.high in
    let n = length-line q.samples in
    omega (arith, s.size)

pub few_samples : (q : Request) (t : List ℕ) → Stands q t → length (floats binary64 q.samples) ≤ most_numbers
few_samples q t s =
    let all = few q t s in
    let c = length-append q.low (q.high ++ q.samples) in
    let d = length-append q.high q.samples in
    omega (arith, length-map q.samples (of_int binary64))

-- ---- lists one behind another
in_parts : (a b c rest : List Float) (l h s : ℕ) → length a ≡ l → length b ≡ h → length c ≡ s → {n : List Float} → n ≡ a ++ (b ++ (c ++ rest))
    → (take l n ≡ a) × (take (l + h - l) (drop l n) ≡ b) × (take (l + h + s - (l + h)) (drop (l + h) n) ≡ c)
in_parts a b c rest l h s e f g {n} p =
    let one : drop l n ≡ b ++ (c ++ rest) = ap (drop l) p ∙ drop_at a (b ++ (c ++ rest)) l e in
    let two : drop (l + h) n ≡ c ++ rest = sym (drop-drop h l n) ∙ ap (drop h) one ∙ drop_at b (c ++ rest) h f in (
      ap (take l) p ∙ take_at a (b ++ (c ++ rest)) l e,
      ap (take (l + h - l)) one ∙ take_at b (c ++ rest) (l + h - l) (omega (arith, f)),
      ap (take (l + h + s - (l + h))) two ∙ take_at c rest (l + h + s - (l + h)) (omega (arith, g)),
    )

-- the same lists and count by other names
asked_same : {b b' : Border} {low low' high high' : List Float} {n n' : ℕ} {a : Result Asked Refusal} → b ≡ b' → low ≡ low' → high ≡ high' → n ≡ n' → ListsAsked b low high n a → ListsAsked b' low' high' n' a
asked_same {b} {b'} {low} {low'} {high} {high'} {n} {n'} {a} e f g h w =
    subst (λ (x : ℕ). ListsAsked b' low' high' x a) h
    (subst (λ (x : List Float). ListsAsked b' low' x n a) g
    (subst (λ (x : List Float). ListsAsked b' x high n a) f
    (subst (λ (x : Border). ListsAsked x low high n a) e w)))

-- ---- what parsing answered
module _ (text : List ℕ) (numbers : List Float) (r : Result parsed.Request ParseError) (numbers' : List Float) (p : TextParsed text numbers r numbers') (room : most_numbers ≤ length numbers) where
  -- a request that the text stands for is answered
  taken : (q : Request) → Stands q text → r ≡ Ok (request q.border (length q.low) (length q.high) (length q.samples))
  taken q s = p.answer q s ∙ cond_false (ltb (length numbers) (length (numbers_of q))) _ _ (le-ltb (length numbers) (length (numbers_of q)) (omega (arith, few q text s)))

  pub never : {need have : ℕ} → r ≡ Err (InputSize need have) → ⊥
  never {need} {have} e = go (decide text)
    where
      go : Decides.Asked text ⊎ ((k : Request) → Stands k text → ⊥) → ⊥
      go (inl a) = let n = ap number_of (sym e ∙ taken a.request a.stands) in absurd (omega (arith, n))
      go (inr f) = let n = ap number_of (sym e ∙ p.unreadable f) in absurd (omega (arith, n))

  pub refused_14 : {x : List Float} → r ≡ Err Unreadable → TextAsked text x (Err refusal.Unreadable)
  refused_14 {x} e =
      let none : (k : Request) → Stands k text → ⊥ = λ k s. let n = ap number_of (sym e ∙ taken k s) in absurd (omega (arith, n)) in
      record {
        request = λ k s. absurd (none k s);
        placed = λ k s. absurd (none k s);
        held = λ k s. absurd (none k s);
        unreadable = λ f. refl;
      }

  -- what parsing refused
  pub not_parsed : {x : List Float} {e : ParseError} → r ≡ Err e → TextAsked text x (Err (unparsed e))
  not_parsed {e = InputSize need have} f = absurd (never f)
  not_parsed {e = Unreadable} f = refused_14 f

  -- ---- the fields of a request that was answered
  module _ {a : parsed.Request} (e : r ≡ Ok a) where
    record Fields (q : Request) : Type 0 where
      border : a.border ≡ q.border
      lows : a.low ≡ length q.low
      highs : a.high ≡ length q.high
      all : a.samples ≡ length q.samples
      held : numbers' ≡ held_by q numbers

    fields : (q : Request) → Stands q text → Fields q
    fields q k =
        let t = taken q k in
        let same : a ≡ request q.border (length q.low) (length q.high) (length q.samples) = cc in
        record {
          border = ap (λ (x : parsed.Request). x.border) same;
          lows = ap (λ (x : parsed.Request). x.low) same;
          highs = ap (λ (x : parsed.Request). x.high) same;
          all = ap (λ (x : parsed.Request). x.samples) same;
          held = renewed (held_by q numbers) numbers (ap number_of e) (p.held q k);
        }

    -- the text stands for some request
    asked : Decides.Asked text
    asked = go (decide text)
      where
        go : Decides.Asked text ⊎ ((k : Request) → Stands k text → ⊥) → Decides.Asked text
        go (inl a) = a
        go (inr f) = absurd (let n = ap number_of (sym e ∙ p.unreadable f) in omega (arith, n))

    pub sized : a.low + a.high + a.samples ≤ length numbers'
    sized =
        let q = asked.request in
        let f = fields q asked.stands in
        let lows = f.lows in
        let highs = f.highs in
        let all = f.all in
        let n = few q text asked.stands in
        let c = length-append q.low (q.high ++ q.samples) in
        let d = length-append q.high q.samples in
        let m = length-map (numbers_of q) (of_int binary64) in
        let k = length-append (floats binary64 (numbers_of q)) (drop (length (floats binary64 (numbers_of q))) numbers) in
        let w = ap length f.held in
        omega arith

    -- the three lists of a request, where parsing put them
    lists_of : (q : Request) → Stands q text
        → (take a.low numbers' ≡ floats binary64 q.low) × (line_in a.low (a.low + a.high) numbers' ≡ floats binary64 q.high) × (line_in (a.low + a.high) (a.low + a.high + a.samples) numbers' ≡ floats binary64 q.samples)
    lists_of q k =
        let f = fields q k in
        let F = floats binary64 in
        let rest = drop (length (F (numbers_of q))) numbers in
        let parts : numbers' ≡ F q.low ++ (F q.high ++ (F q.samples ++ rest)) =
        f.held ∙ ap (λ (x : List Float). x ++ rest) (sym (floats_all q)) ∙ append_assoc (F q.low) (F q.high ++ F q.samples) rest ∙ ap (λ (x : List Float). F q.low ++ x) (append_assoc (F q.high) (F q.samples) rest) in
        in_parts (F q.low) (F q.high) (F q.samples) rest a.low a.high a.samples (length-map q.low _ ∙ sym f.lows) (length-map q.high _ ∙ sym f.highs) (length-map q.samples _ ∙ sym f.all) parts

    pub answered : {w : Result Asked Refusal} → IfOk w (λ k. (k.from ≡ a.low + a.high) × (k.end ≡ a.low + a.high + a.samples))
        → ListsAsked a.border (take a.low numbers') (line_in a.low (a.low + a.high) numbers') (a.low + a.high + a.samples - (a.low + a.high)) w → TextAsked text numbers' w
    answered {w} ends lists = record {
      request = λ q k.
          let d = lists_of q k in
          asked_same (fields q k).border d.0 d.1 (omega (arith, (fields q k).all, length-map q.samples (of_int binary64))) lists;
      placed = λ q k. IfOk-weaker w _ _ (λ x at. record {
        starts = omega (arith, at.0, at.1);
        ends = omega (arith, at.1, sized);
        same = ap (λ (n : ℕ). line_in n x.end numbers') at.0 ∙ ap (λ (n : ℕ). line_in (a.low + a.high) n numbers') at.1 ∙ (lists_of q k).2;
      }) ends;
      held = λ q k.
          let f = fields q k in
          let from : a.low + a.high ≡ length q.low + length q.high = omega (arith, f.lows, f.highs) in
          let end : a.low + a.high + a.samples ≡ length q.low + length q.high + length q.samples = omega (arith, from, f.all) in
          record {
            starts = omega arith;
            ends = omega (arith, end, sized);
            same = sym (ap (λ (n : ℕ). line_in n (a.low + a.high + a.samples) numbers') from ∙ ap (λ (n : ℕ). line_in (length q.low + length q.high) n numbers') end) ∙ (lists_of q k).2;
          };
      unreadable = λ f. absurd (f asked.request asked.stands);
    }
