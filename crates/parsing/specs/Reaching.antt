-- Laws of the loop over a line: so far, what is left comes to the same as the whole line; a turn goes one byte further, and it stops where the line is closed or the text ends.
use Rattle.std.specs.Prelude.{◌≡◌, refl, Bool, true, false, cond, ◌⊎◌, drop, Result, Ok, Err, Float}
use Rattle.std.specs.Result.{is_ok, MatchResult}
use Rattle.std.proofs.Math.Path.{sym, ap}
use Rattle.std.proofs.Common.{◌∙◌, inl, inr, length-append, drop_of_length-le}
use mathlib.Core.List.{List, [], ◌∷◌, ◌++◌, append-nil}
use Prim.Native.Nat.{ℕ, suc, ◌+◌, ◌≤◌, ◌<◌}
use native.Mathlib.Omega.{arith}
use Rattle.std.proofs.Math.ListN.{length, get_or}
use Rattle.numbers.specs.Tests.{cond_false}
use Rattle.texts.specs.Laying.{laid}
use Rattle.texts.specs.Laid.{laid_more}
use Rattle.phases.specs.declared.Phase.{Phase}
use Rattle.phases.specs.declared.Phase.TheVariants.{Fresh, Next, Minus, Number, Closed, Broken}
use Rattle.modes.specs.Fronts.{drop_at}
use Rattle.phases.specs.Phases.{stepped, closed_at, value_of}
use Rattle.parsing.specs.declared.line.Line.{Line}
use Rattle.parsing.specs.Steps.{separates, ended_by, kept_on, Got, got, line_from, got_of, LineEnds, LineRead}

-- the place behind a line, and how many numbers it has
abbrev pub line : ℕ → ℕ → Line
line next count = record { next = next; count = count }

-- done or not, the same line
abbrev pub line_told : Bool → Line → Result Line Line
line_told true l = Ok l
line_told false l = Err l

-- so far: the text from `at` on, after the numbers, comes to the same as the whole line
pub record Reached (text : List ℕ) (from : ℕ) (old out : List Float) (p : Phase) (at count : ℕ) : Type 0 where
  pub numbers : List Float
  pub same : line_from numbers p (drop at text) ≡ got_of (drop from text)
  pub counted : count ≡ length numbers
  pub put : out ≡ laid numbers old
  pub further : from + count ≤ at
  pub inside : at ≤ length text

pub started : (text : List ℕ) (from : ℕ) (old : List Float) → from ≤ length text → Reached text from old old Fresh from 0
unfolding laid
started text from old h = record { numbers = []; same = refl; counted = refl; put = refl; further = omega arith; inside = h }

-- what was ended is laid behind the others
laid_kept : (numbers items old : List Float) → length items ≤ 1 → laid (numbers ++ items) old ≡ kept_on items (laid numbers old) (length numbers)
laid_kept numbers [] old h = ap (λ (l : List Float). laid l old) (append-nil numbers)
laid_kept numbers (x ∷ []) old h = laid_more numbers x old
laid_kept numbers (x ∷ y ∷ items) old h = absurd (omega (arith, h))

one_number : (negative : Bool) (size : ℕ) (t : Bool) → length (cond t (value_of negative size ∷ []) []) ≤ 1
one_number negative size true = omega arith
one_number negative size false = omega arith

one_item : (p : Phase) (c : ℕ) → length (ended_by p c) ≤ 1
one_item Fresh c = omega arith
one_item Next c = omega arith
one_item Minus c = omega arith
one_item (Number negative size) c = one_number negative size (separates c)
one_item Closed c = omega arith
one_item Broken c = omega arith

-- where the line was closed, or nothing is left, no more is read
stopped : (z : List Float) (p : Phase) (t : List ℕ) → (closed_at p ≡ true) ⊎ (t ≡ []) → line_from z p t ≡ got (closed_at p) z t
unfolding line_from
stopped z p [] h = refl
stopped z p (c ∷ t) (inl e) = simp e
stopped z p (c ∷ t) (inr e) = absurd (some e)
  where
    some : c ∷ t ≡ [] → ⊥
    some e = let l : length (c ∷ t) ≡ 0 = ap length e in absurd (omega (arith, l))

module _ (text : List ℕ) (from : ℕ) (old out : List Float) (p : Phase) (at count : ℕ) (s : Reached text from old out p at count) where
  pub ended : {closed : Bool} → closed ≡ closed_at p → (closed ≡ true) ⊎ (length text ≤ at) → LineRead text from old (line_told closed (line at count)) out
  ended {closed} e h =
      let g : got closed s.numbers (drop at text) ≡ got_of (drop from text) =
      ap (λ (b : Bool). got b s.numbers (drop at text)) e ∙ sym (stopped s.numbers p (drop at text) (why h)) ∙ s.same in
      record {
        whole = whole_of closed (line at count) ∙ ap (λ (k : Got). k.closed) g;
        ends = ends_of closed (record {
          counted = s.counted ∙ ap (λ (k : Got). length k.numbers) g;
          left = ap (λ (k : Got). k.rest) g;
          inside = s.inside;
          fewer = s.further;
        });
        put = s.put ∙ ap (λ (k : Got). laid k.numbers old) g;
      }
    where
      why : (closed ≡ true) ⊎ (length text ≤ at) → (closed_at p ≡ true) ⊎ (drop at text ≡ [])
      why (inl t) = inl (sym e ∙ t)
      why (inr l) = inr (drop_of_length-le text l)

      whole_of : (b : Bool) (l : Line) → is_ok (line_told b l) ≡ b
      whole_of true l = refl
      whole_of false l = refl

      ends_of : (b : Bool) {l : Line} → LineEnds text from (got_of (drop from text)) l → MatchResult (line_told b l) (LineEnds text from (got_of (drop from text))) (LineEnds text from (got_of (drop from text)))
      ends_of true k = k
      ends_of false k = k

  pub gone_on : {out' : List Float} {q : Phase} {count' : ℕ} (d : ℕ) → at < length text → closed_at p ≡ false
      → (count' ≡ count + length (ended_by p (get_or text at d))) × (out' ≡ kept_on (ended_by p (get_or text at d)) out count) → q ≡ stepped p (get_or text at d)
      → Reached text from old out' q (at + 1) count'
  unfolding line_from
  gone_on {out'} {q} {count'} d h o k e =
      let c = get_or text at d in
      let items = ended_by p c in
      let one : at + 1 ≡ suc at = omega arith in
      let few = one_item p c in
      let more = k.0 in
      let far = s.further in
      record {
        numbers = s.numbers ++ items;
        same = ap (λ (i : ℕ). line_from (s.numbers ++ items) q (drop i text)) one
            ∙ ap (λ (r : Phase). line_from (s.numbers ++ items) r (drop (suc at) text)) e
            ∙ sym (ap (line_from s.numbers p) (drop_at text at d h) ∙ cond_false (closed_at p) _ _ o) ∙ s.same;
        counted = more ∙ ap (λ (i : ℕ). i + length items) s.counted ∙ sym (length-append s.numbers items);
        put = k.1 ∙ ap (λ (i : ℕ). kept_on items out i) s.counted ∙ ap (λ (l : List Float). kept_on items l (length s.numbers)) s.put ∙ sym (laid_kept s.numbers items old few);
        further = omega (arith, more, few, far);
        inside = omega (arith, h);
      }
