-- Laws of the lines one behind another: each is read where the one before ended, and laid behind it; where one does not end nothing is left for the others.
use Rattle.std.specs.Prelude.{◌≡◌, refl, Bool, true, false, ◌&&◌, List, [], ◌∷◌, ◌++◌, ℕ, ◌+◌, ◌-◌, ◌≤◌, ◌<◌, min, length, take, drop, Result, Ok, Err, Float}
use Rattle.std.specs.Result.{is_ok, MatchResult}
use Rattle.std.proofs.Common.{sym, ap, ◌∙◌, subst, true≢false, append_assoc, append-nil, arith, length-append, drop_of_length-le}
use Rattle.std.proofs.lemmas.Result.{MatchResult-at_ok, MatchResult-at_err}
use borrow.Rule.Slice.PartMut.{put_mid}
use Rattle.texts.specs.Laying.{laid}
use Rattle.texts.specs.Laid.{laid_lent, length-laid}
use Rattle.texts.specs.Numerals.{either}
use Rattle.phases.specs.declared.Phase.{Phase}
use Rattle.phases.specs.declared.Phase.TheVariants.{Fresh}
use Rattle.phases.specs.Phases.{stepped, closed_at}
use Rattle.parsing.specs.declared.line.Line.{Line}
use Rattle.parsing.specs.Steps.{Got, got, ended_by, line_from, got_of, LineEnds, LineRead, emptied, three_of, all_of, counts, Counts, ListsRead}
use Rattle.modes.specs.Fronts.{drop_at}

-- a line that does not end reaches the end of the text
unended : (z : List Float) (p : Phase) (t : List ℕ) → (line_from z p t).closed ≡ false → (line_from z p t).rest ≡ []
unfolding line_from
unended z p [] = λ e. refl
unended z p (c ∷ t) = either (λ (g : Got). g.closed ≡ false → g.rest ≡ []) (closed_at p) (λ _ f. absurd (true≢false f)) (λ _. unended (z ++ ended_by p c) (stepped p c) t)

-- so no line follows it
nothing_left : (t : List ℕ) → (got_of t).closed ≡ false → got_of (got_of t).rest ≡ got false [] []
unfolding line_from
nothing_left t e = ap got_of (unended [] Fresh t e)

no_line : (got_of []).numbers ≡ []
unfolding line_from
no_line = refl

-- the text ends where a line did, or not
at_end : (text : List ℕ) (n : ℕ) → length text ≤ n → emptied (drop n text) ≡ true
at_end text n h = ap emptied (drop_of_length-le text {i = n} h)

before_end : (text : List ℕ) (n : ℕ) → n < length text → emptied (drop n text) ≡ false
before_end text n h = ap emptied (drop_at text n 0 h)

and_same : {a b c d a' b' c' d' : Bool} → a ≡ a' → b ≡ b' → c ≡ c' → d ≡ d' → (a && b && c && d) ≡ (a' && b' && c' && d')
and_same e f g h = cc

module _ (text : List ℕ) (from : ℕ) (old : List Float) {r1 : Result Line Line} {o1 : List Float} (x1 : LineRead text from old r1 o1) where
  abbrev low : Got
  low = got_of (drop from text)

  abbrev high : Got
  high = got_of low.rest

  abbrev samples : Got
  samples = got_of high.rest

  -- ---- no first line
  pub low_open : {l1 : Line} → r1 ≡ Err l1 → ListsRead text from old (Err (counts l1.count 0 0)) o1
  low_open {l1} e =
      let ends : LineEnds text from low l1 = MatchResult-at_err _ (LineEnds text from low) l1 e x1.ends in
      let c : false ≡ low.closed = sym (ap is_ok e) ∙ x1.whole in
      let h : high ≡ got false [] [] = nothing_left (drop from text) (sym c) in
      let none : high.numbers ++ samples.numbers ≡ [] = ap (λ (g : Got). g.numbers ++ (got_of g.rest).numbers) h ∙ no_line in
      record {
        whole = and_same {b' = high.closed} {c' = samples.closed} {d' = emptied samples.rest} c refl refl refl;
        counted = record {
          lows = ends.counted;
          highs = sym (ap (λ (g : Got). length g.numbers) h);
          all = sym (ap (λ (g : Got). length (got_of g.rest).numbers) h ∙ ap length no_line);
          few = omega (arith, ends.fewer, ends.inside);
        };
        put = x1.put ∙ ap (λ (l : List Float). laid l old) (sym (ap (λ (l : List Float). low.numbers ++ l) none ∙ append-nil low.numbers));
      }

  -- ---- a first line, and a second read behind it
  module _ {l1 : Line} (e1 : r1 ≡ Ok l1) {a : ℕ} (ea : a ≡ min l1.count (length o1)) {r2 : Result Line Line} {p2 : List Float} (x2 : LineRead text l1.next (take (length o1 - a) (drop a o1)) r2 p2) where
    abbrev o2 : List Float
    o2 = put_mid a (length o1 - a) o1 p2

    ends1 : LineEnds text from low l1
    ends1 = MatchResult-at_ok (LineEnds text from low) _ l1 e1 x1.ends

    got2 : got_of (drop l1.next text) ≡ high
    got2 = ap got_of ends1.left

    closed1 : true ≡ low.closed
    closed1 = sym (ap is_ok e1) ∙ x1.whole

    closed2 : is_ok r2 ≡ high.closed
    closed2 = x2.whole ∙ ap (λ (g : Got). g.closed) got2

    both2 : MatchResult r2 (LineEnds text l1.next high) (LineEnds text l1.next high)
    both2 = subst (λ (g : Got). MatchResult r2 (LineEnds text l1.next g) (LineEnds text l1.next g)) got2 x2.ends

    two : o2 ≡ laid (low.numbers ++ high.numbers) old
    two =
        laid_lent low.numbers high.numbers old a x1.put (omega (arith, ea, ends1.counted, ap length x1.put, length-laid low.numbers old))
        (x2.put ∙ ap (λ (g : Got). laid g.numbers (take (length o1 - a) (drop a o1))) got2)

    pub high_open : {l2 : Line} → r2 ≡ Err l2 → ListsRead text from old (Err (counts l1.count l2.count 0)) o2
    high_open {l2} e =
        let ends : LineEnds text l1.next high l2 = MatchResult-at_err _ (LineEnds text l1.next high) l2 e both2 in
        let c : false ≡ high.closed = sym (ap is_ok e) ∙ closed2 in
        let none : samples.numbers ≡ [] = ap (λ (g : Got). g.numbers) (nothing_left low.rest (sym c)) in
        record {
          whole = and_same {c' = samples.closed} {d' = emptied samples.rest} closed1 c refl refl;
          counted = record {
            lows = ends1.counted;
            highs = ends.counted;
            all = sym (ap length none);
            few = omega (arith, ends1.fewer, ends.fewer, ends.inside);
          };
          put = two ∙ ap (λ (l : List Float). laid (low.numbers ++ l) old) (sym (ap (λ (l : List Float). high.numbers ++ l) none ∙ append-nil high.numbers));
        }

    -- ---- a second line, and a third read behind it
    module _ {l2 : Line} (e2 : r2 ≡ Ok l2) {b : ℕ} (eb : b ≡ min (l1.count + l2.count) (length o2)) {r3 : Result Line Line} {p3 : List Float} (x3 : LineRead text l2.next (take (length o2 - b) (drop b o2)) r3 p3) where
      abbrev o3 : List Float
      o3 = put_mid b (length o2 - b) o2 p3

      ends2 : LineEnds text l1.next high l2
      ends2 = MatchResult-at_ok (LineEnds text l1.next high) _ l2 e2 both2

      got3 : got_of (drop l2.next text) ≡ samples
      got3 = ap got_of ends2.left

      three_laid : o3 ≡ laid (all_of (three_of (drop from text))) old
      three_laid =
          laid_lent (low.numbers ++ high.numbers) samples.numbers old b two
          (omega (arith, eb, ends1.counted, ends2.counted, length-append low.numbers high.numbers, ap length two, length-laid (low.numbers ++ high.numbers) old))
          (x3.put ∙ ap (λ (g : Got). laid g.numbers (take (length o2 - b) (drop b o2))) got3)
          ∙ ap (λ (l : List Float). laid l old) (append_assoc low.numbers high.numbers samples.numbers)

      closed3 : is_ok r3 ≡ samples.closed
      closed3 = x3.whole ∙ ap (λ (g : Got). g.closed) got3

      both3 : MatchResult r3 (LineEnds text l2.next samples) (LineEnds text l2.next samples)
      both3 = subst (λ (g : Got). MatchResult r3 (LineEnds text l2.next g) (LineEnds text l2.next g)) got3 x3.ends

      -- how many there are, of a third line that ends or does not
      counted3 : (l3 : Line) → LineEnds text l2.next samples l3 → Counts text (three_of (drop from text)) (counts l1.count l2.count l3.count)
      counted3 l3 ends = record {
        lows = ends1.counted;
        highs = ends2.counted;
        all = ends.counted;
        few = omega (arith, ends1.fewer, ends2.fewer, ends.fewer, ends.inside);
      }

      pub samples_open : {l3 : Line} → r3 ≡ Err l3 → ListsRead text from old (Err (counts l1.count l2.count l3.count)) o3
      samples_open {l3} e = record {
        whole = and_same {d' = emptied samples.rest} closed1 (sym (ap is_ok e2) ∙ closed2) (sym (ap is_ok e) ∙ closed3) refl;
        counted = counted3 l3 (MatchResult-at_err _ (LineEnds text l2.next samples) l3 e both3);
        put = three_laid;
      }

      -- ---- a third line
      module _ {l3 : Line} (e3 : r3 ≡ Ok l3) where
        ends3 : LineEnds text l2.next samples l3
        ends3 = MatchResult-at_ok (LineEnds text l2.next samples) _ l3 e3 both3

        -- the text's end decides
        all_tests : {b : Bool} → emptied (drop l3.next text) ≡ b → b ≡ (three_of (drop from text)).readable
        all_tests e = and_same closed1 (sym (ap is_ok e2) ∙ closed2) (sym (ap is_ok e3) ∙ closed3) (sym e ∙ ap emptied ends3.left)

        pub more_behind : l3.next < length text → ListsRead text from old (Err (counts l1.count l2.count l3.count)) o3
        more_behind h = record { whole = all_tests (before_end text l3.next h); counted = counted3 l3 ends3; put = three_laid }

        pub lists_read : length text ≤ l3.next → ListsRead text from old (Ok (counts l1.count l2.count l3.count)) o3
        lists_read h = record { whole = all_tests (at_end text l3.next h); counted = counted3 l3 ends3; put = three_laid }
