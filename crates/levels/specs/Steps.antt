-- Laws of one level more: what the loop over the levels finds, writes and leaves is the recursion's next line, details and scratch.
use Rattle.std.specs.Prelude.{◌≡◌, refl, List, ◌++◌, ℕ, zero, suc, ◌+◌, ◌-◌, ◌≤◌, ◌<◌, eqb, length, take, drop, Float}
use Rattle.std.proofs.Common.{sym, ap, ◌∙◌, add-one, arith, ne_eqb, length-append, length-drop, take-append-drop, length-take-le, take_all, take_at, drop_at}
use borrow.Rule.Slice.PartMut.{put_mid}
use Rattle.std.proofs.lemmas.List.{take-append-le, drop-append-le}
use Rattle.std.proofs.Math.Seq.{take-append-add, drop-append-add}
use Rattle.std.specs.Float.{Format, binary64}
use Rattle.numbers.specs.Words.{tab}
use Rattle.numbers.specs.Tests.{cond_false}
use Rattle.border.specs.declared.Border.{Border}
use Rattle.bank.specs.Lengths.{pairs}
use Rattle.analysis.specs.Lines.{band, padded_into}
use Rattle.analysis.specs.Taps.{length-band, of_samples_lem}
use Rattle.analysis.specs.Works.{band_of}
use Rattle.packed.specs.Lengths.{line_after, details_to}
use Rattle.packed.specs.Falls.{line_next, room, long_before, fallen, padded_shorter}
use Rattle.levels.specs.Lines.{line_of, details_of, packed_line, padded_lines}
use Rattle.levels.specs.Works.{line_held, Held, Splitting}

-- ---- the recursion: as it begins, and one level
pub details_start : (g : Format) (low high : List Float) (F : ℕ) (b : Border) (s packed : List Float) → take 0 packed ≡ details_of g low high F b s 0
unfolding details_of
details_start g low high F b s packed = refl

pub scratch_start : (g : Format) (low : List Float) (F : ℕ) (b : Border) (s scratch : List Float) → scratch ≡ padded_lines g low F b s 0 scratch
unfolding padded_lines
scratch_start g low F b s scratch = refl

pub line_start : (g : Format) (low : List Float) (F : ℕ) (b : Border) (s packed : List Float) → line_held s packed 0 0 (length s) ≡ line_of g low F b s 0
unfolding line_of
line_start g low F b s packed = refl

pub line_more : (g : Format) (low : List Float) (F : ℕ) (b : Border) (s : List Float) (k : ℕ) → line_of g low F b s (k + 1) ≡ band g low F b (line_of g low F b s k)
unfolding line_of
line_more g low F b s k = ap (line_of g low F b s) (add-one k)

pub details_more : (g : Format) (low high : List Float) (F : ℕ) (b : Border) (s : List Float) (k : ℕ)
    → details_of g low high F b s (k + 1) ≡ details_of g low high F b s k ++ band g high F b (line_of g low F b s k)
unfolding details_of
details_more g low high F b s k = ap (details_of g low high F b s) (add-one k)

pub scratch_more : (g : Format) (low : List Float) (F : ℕ) (b : Border) (s scratch : List Float) (k : ℕ) {held x y : List Float}
    → held ≡ line_of g low F b s k → x ≡ padded_lines g low F b s k scratch → y ≡ padded_into F b held x → y ≡ padded_lines g low F b s (k + 1) scratch
unfolding padded_lines
scratch_more g low F b s scratch k {held} {x} e p q =
    q ∙ ap (λ (l : List Float). padded_into F b l x) e ∙ ap (padded_into F b (line_of g low F b s k)) p
    ∙ sym (ap (λ (j : ℕ). padded_lines g low F b s j scratch) (add-one k))

pub length-line : (g : Format) (low : List Float) (F : ℕ) (b : Border) (s : List Float) (k : ℕ) → length (line_of g low F b s k) ≡ line_after (length s) F k
unfolding line_of line_after
length-line g low F b s zero = refl
length-line g low F b s (suc k) = length-band g low F b (line_of g low F b s k) ∙ ap (λ (n : ℕ). pairs n F) (length-line g low F b s k)

-- ---- both bands beside each other, in a part of the packed buffer
-- they are the bands of the line that was padded
pub both_bands : (low high : List Float) (F : ℕ) (b : Border) (line scratch padded : List Float) (m : ℕ) {both : List Float}
    → m ≡ pairs (length line) F → padded ≡ padded_into F b line scratch
    → both ≡ tab (band_of binary64 high F padded) m ++ tab (band_of binary64 low F padded) m
    → both ≡ band binary64 high F b line ++ band binary64 low F b line
both_bands low high F b line scratch padded m e p q =
    q ∙ ap (λ (k : ℕ). tab (band_of binary64 high F padded) k ++ tab (band_of binary64 low F padded) k) e
    ∙ ap (λ (l : List Float). l ++ tab (band_of binary64 low F padded) (pairs (length line) F)) (of_samples_lem binary64 b high line padded scratch F p)
    ∙ ap (λ (l : List Float). band binary64 high F b line ++ l) (of_samples_lem binary64 b low line padded scratch F p)

-- in front of them the buffer is as it was, the first m of them follow, and then the others
module _ (a m e : ℕ) (x d l : List Float) {ys : List Float} (h : e ≤ length x) (k : e ≡ a + (m + m)) (ed : length d ≡ m) (el : length l ≡ m) (q : ys ≡ d ++ l) where
  front : length (take a x) ≡ a
  front = length-take-le a x (omega (arith, h, k))

  pub put_front : take (a + m) (put_mid a (e - a) x ys) ≡ take a x ++ d
  put_front =
      ap (λ (n : ℕ). take (n + m) (put_mid a (e - a) x ys)) (sym front)
      ∙ take-append-add (take a x) (ys ++ drop (e - a) (drop a x)) m
      ∙ ap (λ (z : List Float). take a x ++ take m (z ++ drop (e - a) (drop a x))) q
      ∙ ap (λ (z : List Float). take a x ++ z) (take-append-le m (d ++ l) (drop (e - a) (drop a x)) (omega (arith, length-append d l, ed)) ∙ take_at d l m ed)

  pub put_behind : take m (drop (a + m) (put_mid a (e - a) x ys)) ≡ l
  put_behind =
      ap (take m)
      (ap (λ (n : ℕ). drop (n + m) (put_mid a (e - a) x ys)) (sym front)
      ∙ drop-append-add (take a x) (ys ++ drop (e - a) (drop a x)) m
      ∙ ap (λ (z : List Float). drop m (z ++ drop (e - a) (drop a x))) q
      ∙ drop-append-le m (d ++ l) (drop (e - a) (drop a x)) (omega (arith, length-append d l, ed))
      ∙ ap (λ (z : List Float). z ++ drop (e - a) (drop a x)) (drop_at d l m ed))
      ∙ take_at l (drop (e - a) (drop a x)) m el

-- ---- a turn of the loop
-- the line of level k + 1, its lengths and the room for its bands
pub record Turn (n f p s k start line m : ℕ) : Type 0 where
  pub held : Held f n p start line s
  pub next : m ≡ line_after n f (k + 1)
  pub inside : start + (m + m) ≤ p

pub turn : (n f levels p s k start line m : ℕ) → Splitting n f levels p s → k < levels → start ≡ details_to n f k → line ≡ line_after n f k → m ≡ pairs line f
    → Turn n f p s k start line m
unfolding details_to line_after
turn n f levels p s k start line m w h es el em =
    let long = long_before n f k levels w.packs.long h in
    let fell = fallen n f k w.packs.sound.taps long.0 in
    let q : m ≡ line_after n f (k + 1) = em ∙ ap (λ (j : ℕ). pairs j f) el ∙ sym (line_next n f k) in
    let less : line ≤ n = omega (arith, el, fell.fewer) in
    let enough : f ≤ line = omega (arith, el, long.1) in
    let limit = w.packs.sound.limit in
    let here = room n f k levels w.packs.sound.taps.two (omega (arith, h)) in
    let there = room n f (suc k) levels w.packs.sound.taps.two h in
    let r : m ≡ line_after n f (suc k) = em ∙ ap (λ (j : ℕ). pairs j f) el in
    record {
      held = record {
        first = record { ready = record { taps = w.packs.sound.taps; limit = limit; enough = omega (arith, less, enough) }; room = omega (arith, w.room) };
        next = record { ready = record { taps = w.packs.sound.taps; limit = omega (arith, less, limit); enough = enough }; room = omega (arith, padded_shorter n line f less, w.room) };
        inside = omega (arith, es, el, here, w.packs.filled);
      };
      next = q;
      inside = omega (arith, es, r, there, w.packs.filled);
    }

-- what a level finds when it is not the first
pub held_next : (line packed : List Float) (k start n : ℕ) → line_held line packed (k + 1) start n ≡ take n (drop start packed)
held_next line packed k start n = cond_false (eqb (k + 1) 0) _ _ (ne_eqb (k + 1) 0 (λ e. absurd (omega (arith, e))))

-- the bands in the buffer: the details follow those of the levels before, and the approximations lie behind them for the next
pub level_more : (low high : List Float) (F : ℕ) (b : Border) (s packed scratch padded : List Float) (k start n m e : ℕ) (ys : List Float)
    → e ≡ start + (m + m) → e ≤ length packed → n ≡ line_after (length s) F k → m ≡ pairs n F
    → take start packed ≡ details_of binary64 low high F b s k → line_held s packed k start n ≡ line_of binary64 low F b s k
    → padded ≡ padded_into F b (line_held s packed k start n) scratch
    → ys ≡ tab (band_of binary64 high F padded) m ++ tab (band_of binary64 low F padded) m
    → (take (start + m) (put_mid start (e - start) packed ys) ≡ details_of binary64 low high F b s (k + 1))
    × (line_held s (put_mid start (e - start) packed ys) (k + 1) (start + m) m ≡ line_of binary64 low F b s (k + 1))
level_more low high F b s packed scratch padded k start n m e ys ee room en em ed el ep eb =
    let line = line_of binary64 low F b s k in
    let d = band binary64 high F b line in
    let l = band binary64 low F b line in
    let count : m ≡ pairs (length line) F = em ∙ ap (λ (j : ℕ). pairs j F) (en ∙ sym (length-line binary64 low F b s k)) in
    let both = both_bands low high F b line scratch padded m count (ep ∙ ap (λ (z : List Float). padded_into F b z scratch) el) eb in
    let ld : length d ≡ m = length-band binary64 high F b line ∙ sym count in
    let ll : length l ≡ m = length-band binary64 low F b line ∙ sym count in (
      put_front start m e packed d l room ee ld ll both ∙ ap (λ (z : List Float). z ++ d) ed ∙ sym (details_more binary64 low high F b s k),
      held_next s (put_mid start (e - start) packed ys) k (start + m) m ∙ put_behind start m e packed d l room ee ld ll both ∙ sym (line_more binary64 low F b s k),
    )

-- ---- the end: the details and the last line are the whole buffer
pub all_packed : (g : Format) (low high : List Float) (F : ℕ) (b : Border) (s : List Float) (levels k start n : ℕ) {packed : List Float}
    → k ≡ levels → 1 ≤ levels → start + n ≡ length packed
    → take start packed ≡ details_of g low high F b s k → line_held s packed k start n ≡ line_of g low F b s k
    → packed ≡ packed_line g low high F b s levels
all_packed g low high F b s levels k start n {packed} e h q p r =
    sym (take-append-drop start packed)
    ∙ ap (λ (l : List Float). l ++ drop start packed) p
    ∙ ap (λ (l : List Float). details_of g low high F b s k ++ l)
    (sym (take_all n (drop start packed) (omega (arith, length-drop start packed, q)))
    ∙ sym (cond_false (eqb k 0) s _ (ne_eqb k 0 (λ z. absurd (omega (arith, z, e, h)))))
    ∙ r)
    ∙ ap (packed_line g low high F b s) e
