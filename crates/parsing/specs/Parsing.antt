-- Laws that the entry's proof cites: a text that is not read stands for no request, and one that is read gives what its request does, whichever request it is.
use Rattle.std.specs.Prelude.{◌≡◌, refl, true, List, [], ◌∷◌, ◌++◌, ℕ, ◌+◌, ◌≤◌, ◌<◌, ltb, length, drop, ℤ, Option, Some, None, Result, Ok, Err, Float}
use Rattle.std.proofs.Common.{sym, ap, ◌∙◌, subst, true≢false, arith, lt-ltb, le-ltb, length-append}
use Rattle.std.proofs.lemmas.Result.{MatchResult-at_ok}
use Rattle.std.specs.Result.{is_ok}
use Rattle.std.proofs.lemmas.List.{length-map}
use Rattle.std.specs.Float.{binary64}
use Rattle.std.specs.Float.Ieee.{of_int}
use Rattle.numbers.specs.Tests.{cond_true, cond_false}
use Rattle.whole.specs.Floats.{floats}
use Rattle.border.specs.declared.Border.{Border}
use Rattle.texts.specs.Laying.{laid}
use Rattle.texts.specs.Laid.{laid_nowhere, laid_whole}
use Rattle.texts.specs.Texts.{longest_text, Request, Stands}
use Rattle.parsing.specs.declared.lists.Lists.{Lists}
use Rattle.modes.specs.declared.Mode.{Mode}
use Rattle.parsing.specs.declared.ParseError.TheVariants.{InputSize, Unreadable}
use Rattle.parsing.specs.Parses.{numbers_of, request, TextParsed}
use Rattle.modes.specs.Names.{mode_of}
use Rattle.parsing.specs.Steps.{Three, three, three_of, all_of, Counts, ListsRead}
use Rattle.parsing.specs.Decides.{border_in, next_in, is_found, known, asked}

-- the numbers of a request as floats, list by list
floats_append : (a c : List ℤ) → floats binary64 (a ++ c) ≡ floats binary64 a ++ floats binary64 c
floats_append [] c = refl
floats_append (x ∷ a) c = ap {B = List Float} (λ r. of_int binary64 x ∷ r) (floats_append a c)

pub floats_all : (q : Request) → floats binary64 q.low ++ (floats binary64 q.high ++ floats binary64 q.samples) ≡ floats binary64 (numbers_of q)
floats_all q = sym (floats_append q.low (q.high ++ q.samples) ∙ ap (λ (k : List Float). floats binary64 q.low ++ k) (floats_append q.high q.samples))

-- ---- a text that stands for no request
pub unread : {text : List ℕ} {numbers : List Float} → ((q : Request) → Stands q text → ⊥) → TextParsed text numbers (Err Unreadable) numbers
unread n = record { answer = λ q s. absurd (n q s); held = λ q s. absurd (n q s); unreadable = λ m. refl; kept = λ m. refl }

pub too_long : {text : List ℕ} {numbers : List Float} → longest_text < length text → TextParsed text numbers (Err Unreadable) numbers
too_long h = unread (λ q s. absurd (omega (arith, h, s.size)))

pub no_mode : {text : List ℕ} {numbers : List Float} {m : Option Mode} → m ≡ mode_of text → m ≡ None → TextParsed text numbers (Err Unreadable) numbers
no_mode e u = unread (λ q s. absurd (true≢false (sym (ap is_found (sym u ∙ e ∙ (known q _ s).mode)))))

-- ---- a text whose mode is found
module _ (text : List ℕ) (numbers : List Float) (m : Mode) (short : length text ≤ longest_text) (found : mode_of text ≡ Some m) where
  -- what a request that it stands for has to do with what was read
  record Meant (q : Request) : Type 0 where
    border : q.border ≡ m.border
    same : three_of (drop m.next text) ≡ three true (floats binary64 q.low) (floats binary64 q.high) (floats binary64 q.samples)

  meant : (q : Request) → Stands q text → Meant q
  meant q s =
      let k = known q text s in
      let e = sym k.mode ∙ found in
      record { border = ap border_in e; same = ap (λ (n : ℕ). three_of (drop n text)) (sym (ap next_in e)) ∙ k.lists }

  no_lists : {r : Result Lists Lists} {k : Lists} {old new : List Float} → ListsRead text m.next old r new → r ≡ Err k → TextParsed text numbers (Err Unreadable) numbers
  no_lists l e = unread (λ q s. absurd (true≢false (sym (ap (λ (t : Three). t.readable) (meant q s).same) ∙ sym l.whole ∙ ap is_ok e)))

  -- a text that was read stands for some request
  not_none : {r : Result Lists Lists} {k : Lists} {old new : List Float} → ListsRead text m.next old r new → r ≡ Ok k → ((q : Request) → Stands q text → ⊥) → ⊥
  not_none l e n =
      let u : mode_of text ≡ None → ⊥ = λ u. true≢false (sym (ap is_found found) ∙ ap is_found u) in
      let a = asked text short u (ap (λ (k : ℕ). (three_of (drop k text)).readable) (ap next_in found) ∙ sym l.whole ∙ ap is_ok e) in
      n a.request a.stands

  -- how many numbers each list has
  record Counted (q : Request) (r : Lists) : Type 0 where
    lows : r.low ≡ length q.low
    highs : r.high ≡ length q.high
    all : r.samples ≡ length q.samples
    sum : r.low + r.high + r.samples ≡ length (numbers_of q)

  counted : {r : Result Lists Lists} {k : Lists} {old new : List Float} (q : Request) → Stands q text → ListsRead text m.next old r new → r ≡ Ok k → Counted q k
  counted {k = k} q s l e =
      let c = MatchResult-at_ok (Counts text (three_of (drop m.next text))) _ k e l.counted in
      let t = (meant q s).same in
      let lows = c.lows ∙ ap (λ (t : Three). length t.low) t ∙ length-map q.low (of_int binary64) in
      let highs = c.highs ∙ ap (λ (t : Three). length t.high) t ∙ length-map q.high (of_int binary64) in
      let all = c.all ∙ ap (λ (t : Three). length t.samples) t ∙ length-map q.samples (of_int binary64) in
      let two = length-append q.low (q.high ++ q.samples) in
      let three = length-append q.high q.samples in
      record { lows = lows; highs = highs; all = all; sum = omega (arith, lows, highs, all, two, three) }

  short_of : {r : Result Lists Lists} {k : Lists} {old new : List Float} → ListsRead text m.next old r new → r ≡ Ok k → length numbers < k.low + k.high + k.samples
      → TextParsed text numbers (Err (InputSize (k.low + k.high + k.samples) (length numbers))) numbers
  short_of {k = k} l e h = record {
    answer = λ q s. let n = (counted q s l e).sum in
        ap (λ (n : ℕ). Err (InputSize n (length numbers))) n ∙ sym (cond_true (ltb (length numbers) (length (numbers_of q))) _ _ (lt-ltb _ _ (subst (λ (n : ℕ). length numbers < n) n h)));
    held = λ q s. refl;
    unreadable = λ n. absurd (not_none l e n);
    kept = λ n. refl;
  }

  filled : {r r' : Result Lists Lists} {k : Lists} {old new out : List Float} → ListsRead text m.next old r new → ListsRead text m.next numbers r' out → r ≡ Ok k → k.low + k.high + k.samples ≤ length numbers
      → TextParsed text numbers (Ok (request m.border k.low k.high k.samples)) out
  filled {k = k} {out = out} l w e h = record {
    answer = λ q s. let n = counted q s l e in
        let fits = le-ltb (length numbers) (length (numbers_of q)) (subst (λ (n : ℕ). n ≤ length numbers) n.sum h) in
        let same = answered (sym (meant q s).border) n.lows n.highs n.all in
        ap Ok same ∙ sym (cond_false (ltb (length numbers) (length (numbers_of q))) _ _ fits);
    held = λ q s. let n = counted q s l e in
        let all : all_of (three_of (drop m.next text)) ≡ floats binary64 (numbers_of q) = ap all_of (meant q s).same ∙ floats_all q in
        let many : length (floats binary64 (numbers_of q)) ≡ length (numbers_of q) = length-map (numbers_of q) (of_int binary64) in
        let room : length (floats binary64 (numbers_of q)) ≤ length numbers = omega (arith, many, n.sum, h) in
        w.put ∙ ap (λ (x : List Float). laid x numbers) all ∙ laid_whole (floats binary64 (numbers_of q)) numbers room;
    unreadable = λ n. absurd (not_none l e n);
    kept = λ n. absurd (not_none l e n);
  }
    where
      answered : {b b' : Border} {a a' c c' d d' : ℕ} → b ≡ b' → a ≡ a' → c ≡ c' → d ≡ d' → request b a c d ≡ request b' a' c' d'
      answered e f g h = cc

  -- ---- the same after a look that wrote nowhere: an empty part was lent and came back
  unmoved : {r : Result Lists Lists} {part : List Float} → ListsRead text m.next [] r part → numbers ≡ part ++ numbers
  unmoved l = sym (laid_nowhere (all_of (three_of (drop m.next text))) numbers l.put)

  pub not_lists : {r : Result Lists Lists} {k : Lists} {part : List Float} → ListsRead text m.next [] r part → r ≡ Err k → TextParsed text numbers (Err Unreadable) (part ++ numbers)
  not_lists l e = subst (TextParsed text numbers (Err Unreadable)) (unmoved l) (no_lists l e)

  pub no_room : {r : Result Lists Lists} {k : Lists} {part : List Float} → ListsRead text m.next [] r part → r ≡ Ok k → length (part ++ numbers) < k.low + k.high + k.samples
      → TextParsed text numbers (Err (InputSize (k.low + k.high + k.samples) (length (part ++ numbers)))) (part ++ numbers)
  no_room {k = k} l e =
      let need = k.low + k.high + k.samples in
      subst (λ (x : List Float). length x < need → TextParsed text numbers (Err (InputSize need (length x))) x) (unmoved l) (short_of l e)

  pub all_read : {r r' : Result Lists Lists} {k : Lists} {part out : List Float} → ListsRead text m.next [] r part → ListsRead text m.next (part ++ numbers) r' out → r ≡ Ok k
      → k.low + k.high + k.samples ≤ length (part ++ numbers) → TextParsed text numbers (Ok (request m.border k.low k.high k.samples)) out
  all_read {r' = r'} {k} {out = out} l w e h =
      let back = sym (unmoved l) in
      filled l (subst (λ (x : List Float). ListsRead text m.next x r' out) back w) e (subst (λ (x : List Float). k.low + k.high + k.samples ≤ length x) back h)
