-- Laws of whole texts: a text that stands for a request is read as its border and numbers; and what is read as such stands for one.
use Rattle.std.specs.Prelude.{◌≡◌, refl, Bool, true, ◌&&◌, List, [], ◌∷◌, ◌++◌, ℕ, ◌≤◌, eqb, length, drop, ℤ, Option, Some, None, is_some}
use Rattle.std.proofs.Common.{sym, ap, ◌∙◌, subst, true≢false, append-nil, append_assoc, arith, eqb-true, length-append}
use Rattle.std.specs.Float.{binary64}
use Rattle.numbers.specs.Tests.{both}
use Rattle.whole.specs.Floats.{floats}
use Rattle.border.specs.declared.Border.{Border}
use Rattle.border.specs.declared.Border.TheVariants.{Clamp, Wrap, Reflect, Zeros, Reflect101, Mirror, Mirror101}
use Rattle.border.specs.Rule.{borders}
use Rattle.texts.specs.Texts.{newline, name_of, line_text, lists_text, longest_text, InRange, Request, Stands}
use Rattle.texts.specs.Numerals.{either}
use Rattle.modes.specs.declared.Mode.{Mode}
use Rattle.modes.specs.Names.{begins, mode_text, found, found_in, mode_of}
use Rattle.parsing.specs.Steps.{Got, got, got_of, three, emptied, three_of}
use Rattle.parsing.specs.Complete.{line_read}
use Rattle.parsing.specs.Sound.{line_sound}

-- ---- the border's line
begins_drop : (name t : List ℕ) → begins name t ≡ true → t ≡ name ++ drop (length name) t
unfolding begins
begins_drop [] t e = refl
begins_drop (x ∷ name) [] e = absurd (true≢false (sym e))
begins_drop (x ∷ name) (y ∷ t) e =
    let p = both (eqb y x) (begins name t) e in
    ap (λ (k : ℕ). k ∷ t) (eqb-true y x p.0) ∙ ap {B = List ℕ} (λ r. x ∷ r) (begins_drop name t p.1)

begins_fits : (name t : List ℕ) → begins name t ≡ true → length name ≤ length t
begins_fits name t e =
    let whole = ap length (begins_drop name t e) in
    let parts = length-append name (drop (length name) t) in
    omega arith

abbrev pub border_in : Option Mode → Border
border_in None = Clamp
border_in (Some m) = m.border

abbrev pub next_in : Option Mode → ℕ
next_in None = 0
next_in (Some m) = m.next

abbrev pub is_found : Option Mode → Bool
is_found m = is_some m

-- what was found is the front of the text
abbrev Fronts : List ℕ → Option Mode → Type 0
Fronts t m = (m ≡ None → ⊥) → (t ≡ mode_text (border_in m) ++ drop (next_in m) t) × (next_in m ≤ length t)

fronts_in : (t : List ℕ) (l : List Border) → Fronts t (found_in t l)
fronts_in t [] = λ n. absurd (n refl)
fronts_in t (b ∷ l) = either (Fronts t) (begins (mode_text b) t) (λ e n. (begins_drop (mode_text b) t e, begins_fits (mode_text b) t e)) (λ e. fronts_in t l)

fronts : (t : List ℕ) → Fronts t (mode_of t)
fronts t = fronts_in t borders

pub mode_inside : (t : List ℕ) (m : Mode) → mode_of t ≡ Some m → m.next ≤ length t
mode_inside t m e = subst (λ (n : ℕ). n ≤ length t) (ap next_in e) (fronts t (λ u. true≢false (sym (ap is_found e) ∙ ap is_found u))).1

mode_read : (b : Border) (r : List ℕ) → mode_of (mode_text b ++ r) ≡ found b (length (mode_text b))
unfolding begins
mode_read Clamp r = refl
mode_read Wrap r = refl
mode_read Reflect r = refl
mode_read Zeros r = refl
mode_read Reflect101 r = refl
mode_read Mirror r = refl
mode_read Mirror101 r = refl

drop-front : (l r : List ℕ) → drop (length l) (l ++ r) ≡ r
drop-front [] r = refl
drop-front (x ∷ l) r = drop-front l r

-- ---- three lists
three_read : (low high samples : List ℤ) → InRange low → InRange high → InRange samples
    → three_of (lists_text low high samples) ≡ three true (floats binary64 low) (floats binary64 high) (floats binary64 samples)
three_read low high samples l h s =
    let a = line_read low l (line_text high ++ line_text samples) in
    let b = line_read high h (line_text samples) in
    let c : got_of (line_text samples) ≡ got true (floats binary64 samples) [] = ap got_of (sym (append-nil (line_text samples))) ∙ line_read samples s [] in
    ap (λ (g : Got). let high = got_of g.rest in let samples = got_of high.rest in
    three (g.closed && high.closed && samples.closed && emptied samples.rest) g.numbers high.numbers samples.numbers) a
    ∙ ap (λ (g : Got). let samples = got_of g.rest in three (true && g.closed && samples.closed && emptied samples.rest) (floats binary64 low) g.numbers samples.numbers) b
    ∙ ap (λ (g : Got). three (true && true && g.closed && emptied g.rest) (floats binary64 low) (floats binary64 high) g.numbers) c

-- what is found in a text that stands for a request
pub record Known (q : Request) (t : List ℕ) : Type 0 where
  pub mode : mode_of t ≡ found q.border (length (mode_text q.border))
  pub lists : three_of (drop (length (mode_text q.border)) t) ≡ three true (floats binary64 q.low) (floats binary64 q.high) (floats binary64 q.samples)

pub known : (q : Request) (t : List ℕ) → Stands q t → Known q t
known q t s =
    let lists = lists_text q.low q.high q.samples in
    let parts : t ≡ mode_text q.border ++ lists = s.same ∙ sym (append_assoc (name_of q.border) (newline ∷ []) lists) in
    record {
      mode = ap mode_of parts ∙ mode_read q.border lists;
      lists =
          ap three_of (ap (drop (length (mode_text q.border))) parts ∙ drop-front (mode_text q.border) lists)
          ∙ three_read q.low q.high q.samples s.lows s.highs s.all;
    }

-- the request that a text stands for, where it is read
pub record Asked (t : List ℕ) : Type 0 where
  pub request : Request
  pub stands : Stands request t

emptied_nil : (l : List ℕ) → emptied l ≡ true → l ≡ []
emptied_nil [] e = refl
emptied_nil (c ∷ l) e = absurd (true≢false (sym e))

pub asked : (t : List ℕ) → length t ≤ longest_text → (mode_of t ≡ None → ⊥) → (three_of (drop (next_in (mode_of t)) t)).readable ≡ true → Asked t
asked t short m e =
    let behind = drop (next_in (mode_of t)) t in
    let low = got_of behind in
    let high = got_of low.rest in
    let samples = got_of high.rest in
    let p = both (low.closed && high.closed && samples.closed) (emptied samples.rest) e in
    let q = both (low.closed && high.closed) samples.closed p.0 in
    let r = both low.closed high.closed q.0 in
    let l = line_sound behind r.0 in
    let h = line_sound low.rest r.1 in
    let s = line_sound high.rest q.1 in
    let last : line_text s.numbers ++ samples.rest ≡ line_text s.numbers = ap (λ (k : List ℕ). line_text s.numbers ++ k) (emptied_nil samples.rest p.1) ∙ append-nil (line_text s.numbers) in
    let parts : behind ≡ lists_text l.numbers h.numbers s.numbers =
    l.text ∙ ap (λ (k : List ℕ). line_text l.numbers ++ k) (h.text ∙ ap (λ (k : List ℕ). line_text h.numbers ++ k) (s.text ∙ last)) in
    record {
      request = record { border = border_in (mode_of t); low = l.numbers; high = h.numbers; samples = s.numbers };
      stands = record {
        same = (fronts t m).0 ∙ ap (λ (k : List ℕ). mode_text (border_in (mode_of t)) ++ k) parts ∙ append_assoc (name_of (border_in (mode_of t))) (newline ∷ []) (lists_text l.numbers h.numbers s.numbers);
        size = short;
        lows = l.ranged;
        highs = h.ranged;
        all = s.ranged;
      };
    }
