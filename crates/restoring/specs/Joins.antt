-- Laws of one join more: what the loop over the levels finds at a buffer's front, joins and lays there is the recursion's next line, and every length is in its place.
-- What is done to a joined line (`done`) may be anything that keeps its length.
use Rattle.std.specs.Prelude.{◌≡◌, eqb, length, drop, Float}
use Rattle.std.proofs.Math.Path.{refl, sym, ap}
use Rattle.std.proofs.Common.{◌∙◌, add-one, arith, eq-eqb, ne_eqb, length-take-le, take_at, drop_at}
use Rattle.std.proofs.Math.Bool.{cond}
use mathlib.Core.List.{List, ◌++◌}
use Prim.Native.Nat.{ℕ, zero, suc, ◌+◌, ◌-◌, ◌%◌, ◌≤◌, ◌<◌}
use Rattle.std.proofs.Math.Decide.{dec_lt}
use Rattle.std.proofs.Math.ListN.{take}
use Rattle.std.proofs.Math.Seq.{take-append-le, take-length}
use Rattle.std.specs.Float.{Format}
use Rattle.numbers.specs.Words.{headed, cleared}
use Rattle.numbers.specs.Tests.{cond_true, cond_false}
use Rattle.bank.specs.Lengths.{pairs, line_length}
use Rattle.synthesis.specs.Lines.{synthesised}
use Rattle.synthesis.specs.Runs.{length_join}
use Rattle.packed.specs.Lengths.{line_after}
use Rattle.packed.specs.Answers.{part_at}
use Rattle.packed.specs.Falls.{all_before, fallen, first_longest}
use Rattle.packed.specs.Follow.{length_part, as_many, whole_length}
use Rattle.restoring.specs.Lines.{level_join, joined_by, first_by, second_by}
use Rattle.restoring.specs.Works.{line_held, turn_first_by, turn_second_by, Turning, Restoring}

-- ---- one join at a buffer's front
-- the line is joined into the first n places (xs), what is done to it is done there (ys), and the rest is as it was
pub headed_front : (done : List Float → List Float) (g : Format) (F : ℕ) (low high line detail out : List Float) (m n : ℕ) {xs ys : List Float}
    → ((l : List Float) → length (done l) ≡ length l) → m ≡ length detail → n ≡ line_length m F → n ≤ length out
    → xs ≡ synthesised g F low high (take m line) detail (cleared (length (take n out))) → ys ≡ done (take n (xs ++ drop n out))
    → ys ++ drop n (xs ++ drop n out) ≡ headed (done (level_join g F low high line detail)) out
headed_front done g F low high line detail out m n {xs} {ys} long em en h e q =
    let c : length (take n out) ≡ line_length (length detail) F = length-take-le n out h ∙ en ∙ ap (λ (k : ℕ). line_length k F) em in
    let j = level_join g F low high line detail in
    let is : xs ≡ j =
    e ∙ ap (λ (k : ℕ). synthesised g F low high (take k line) detail (cleared (length (take n out)))) em
    ∙ ap (λ (k : ℕ). synthesised g F low high (take (length detail) line) detail (cleared k)) c in
    let all : length xs ≡ n = ap length is ∙ length_join g F low high _ (take (length detail) line) detail ∙ ap (λ (k : ℕ). line_length k F) (sym em) ∙ sym en in
    let done-is : ys ≡ done j = q ∙ ap done (take_at xs (drop n out) n all ∙ is) in
    ap (λ (l : List Float). ys ++ l) (drop_at xs (drop n out) n all)
    ∙ ap (λ (l : List Float). l ++ drop n out) done-is
    ∙ ap (λ (k : ℕ). done j ++ drop k out) (sym all ∙ ap length is ∙ sym (long j))

-- a join reads no more of its line than the details are
pub join_front : (g : Format) (F : ℕ) (low high line line' detail : List Float) → take (length detail) line ≡ take (length detail) line'
    → level_join g F low high line detail ≡ level_join g F low high line' detail
join_front g F low high line line' detail e = ap (λ (l : List Float). synthesised g F low high l detail (cleared (line_length (length detail) F))) e

-- ---- which buffer holds the line
module _ (done : List Float → List Float) (g : Format) (F : ℕ) (low high packed : List Float) (n levels : ℕ) (first second : List Float) where
  abbrev R : ℕ → List Float
  R j = joined_by done g F low high packed n levels j

  abbrev A : ℕ → List Float
  A j = first_by done g F low high packed n levels j first

  abbrev B : ℕ → List Float
  B j = second_by done g F low high packed n levels j second

  pub first_start : first ≡ A 0
  unfolding first_by
  first_start = refl

  pub second_start : second ≡ B 0
  unfolding second_by
  second_start = refl

  -- the line that the join before left stands at the front of the buffer that it went to
  pub held_front : (j m : ℕ) → m ≤ length (R j) → take m (line_held (part_at n F levels packed 0) (A j) (B j) j) ≡ take m (R j)
  unfolding joined_by first_by second_by
  held_front zero m h = refl
  held_front (suc i) m h =
      ap (take m) (cond_false (eqb (suc i) 0) (part_at n F levels packed 0) (cond (eqb (suc i % 2) 0) (B (suc i)) (A (suc i))) (ne_eqb (suc i) 0 (λ z. absurd (omega (arith, z)))))
      ∙ go (dec_lt (i % 2) 1)
    where
      go : Dec (i % 2 < 1) → take m (cond (eqb (suc i % 2) 0) (B (suc i)) (A (suc i))) ≡ take m (R (suc i))
      go (yes l) =
          let e : i % 2 ≡ 0 = omega (arith, l) in
          ap (take m)
          (cond_false (eqb (suc i % 2) 0) (B (suc i)) (A (suc i)) (ne_eqb (suc i % 2) 0 (λ z. absurd (omega (arith, z, e))))
          ∙ cond_true (eqb (i % 2) 0) (headed (R (suc i)) (A i)) (A i) (eq-eqb (i % 2) 0 e))
          ∙ take-append-le m (R (suc i)) (drop (length (R (suc i))) (A i)) h
      go (no l) =
          let z : suc i % 2 ≡ 0 = omega (arith, l) in
          ap (take m)
          (cond_true (eqb (suc i % 2) 0) (B (suc i)) (A (suc i)) (eq-eqb (suc i % 2) 0 z)
          ∙ cond_false (eqb (i % 2) 0) (B i) (headed (R (suc i)) (B i)) (ne_eqb (i % 2) 0 (λ e. absurd (omega (arith, e, l)))))
          ∙ take-append-le m (R (suc i)) (drop (length (R (suc i))) (B i)) h

  -- a turn
  module _ (j : ℕ) {x y deepest detail : List Float} (ex : x ≡ A j) (ey : y ≡ B j) (ed : deepest ≡ part_at n F levels packed 0)
      (et : detail ≡ part_at n F levels packed (levels - j)) (h : length detail ≤ length (R j)) where
    pub same_join : level_join g F low high (line_held deepest x y j) detail ≡ level_join g F low high (R j) (part_at n F levels packed (levels - j))
    same_join =
        join_front g F low high (line_held deepest x y j) (R j) detail
        (ap (λ (l : List Float). take (length detail) (line_held l x y j)) ed
        ∙ ap (λ (l : List Float). take (length detail) (line_held (part_at n F levels packed 0) l y j)) ex
        ∙ ap (λ (l : List Float). take (length detail) (line_held (part_at n F levels packed 0) (A j) l j)) ey
        ∙ held_front j (length detail) h)
        ∙ ap (level_join g F low high (R j)) et

    pub first_more : turn_first_by done g F low high (line_held deepest x y j) detail j x ≡ A (j + 1)
    unfolding joined_by first_by
    first_more =
        ap (λ (l : List Float). cond (eqb (j % 2) 0) (headed (done l) x) x) same_join
        ∙ ap (λ (z : List Float). cond (eqb (j % 2) 0) (headed (R (suc j)) z) z) ex
        ∙ sym (ap A (add-one j))

    pub second_more : turn_second_by done g F low high (line_held deepest x y j) detail j y ≡ B (j + 1)
    unfolding joined_by second_by
    second_more =
        ap (λ (l : List Float). cond (eqb (j % 2) 0) y (headed (done l) y)) same_join
        ∙ ap (λ (z : List Float). cond (eqb (j % 2) 0) z (headed (R (suc j)) z)) ey
        ∙ sym (ap B (add-one j))

-- ---- the lengths of a turn
-- the line that j joins leave is no shorter than the next level's details
pub long_enough : (done : List Float → List Float) (g : Format) (low high packed : List Float) (n F levels p a b j : ℕ) → ((l : List Float) → length (done l) ≡ length l)
    → Restoring n F levels p a b → length packed ≡ p → j ≤ levels → line_after n F (levels - j) ≤ length (joined_by done g F low high packed n levels j)
unfolding joined_by line_after
long_enough done g low high packed n F levels p a b zero long w e h =
    let l = length_part n F levels 0 packed w.packs.sound.taps.two (omega arith) (e ∙ whole_length w.packs) in
    let r : length (joined_by done g F low high packed n levels 0) ≡ line_after n F levels = l ∙ ap (line_after n F) (as_many w.packs) in
    let z : levels - 0 ≡ levels = omega arith in
    omega (arith, r, ap (line_after n F) z)
long_enough done g low high packed n F levels p a b (suc j) long w e h = go (levels - j) refl
  where
    go : (k : ℕ) → levels - j ≡ k → line_after n F (levels - suc j) ≤ length (done (level_join g F low high (joined_by done g F low high packed n levels j) (part_at n F levels packed (levels - j))))
    go zero q = absurd (omega (arith, q, h))
    go (suc k) q =
        let less : levels - suc j ≡ k = omega (arith, q) in
        let c : length (part_at n F levels packed (levels - j)) ≡ pairs (line_after n F k) F =
        ap (λ (i : ℕ). length (part_at n F levels packed i)) q ∙ length_part n F levels (suc k) packed w.packs.sound.taps.two (omega (arith, q)) (e ∙ whole_length w.packs) in
        let d = part_at n F levels packed (levels - j) in
        let r = joined_by done g F low high packed n levels j in
        let l = long (level_join g F low high r d) ∙ length_join g F low high (line_length (length d) F) (take (length d) r) d in
        omega (arith, l, c, ap (line_after n F) less, w.packs.sound.taps.two)

-- a level's join has room in either buffer
pub turning : (n f levels p a b j deepest m : ℕ) → Restoring n f levels p a b → j < levels → deepest ≡ line_after n f levels → m ≡ line_after n f (levels - j) → Turning f deepest m j a b
turning n f levels p a b j deepest m w h ed em =
    let q = all_before n f (levels - j) levels w.packs.long (omega arith) in
    let r = fallen n f (levels - j) w.packs.sound.taps q in
    let s = first_longest n f (levels - j) w.packs.sound.taps.two q (omega (arith, h)) in
    record {
      taps = w.packs.sound.taps;
      few = omega (arith, em, r.fewer, w.packs.sound.limit);
      deep = λ z. let e : levels - j ≡ levels = omega (arith, z) in omega (arith, ed, em, ap (line_after n f) e);
      grown = omega (arith, em, r.enough (omega (arith, h)));
      room = omega (arith, em, s, w.room);
      space = omega (arith, em, s, w.space);
    }

-- ---- the end
-- the whole line stands at the front of the first buffer after an odd number of joins, of the second after an even one
pub whole_front : (done : List Float → List Float) (g : Format) (F : ℕ) (low high packed : List Float) (n levels m : ℕ) (first second : List Float) → 1 ≤ levels
    → m ≡ length (joined_by done g F low high packed n levels levels)
    → take m (cond (eqb (levels % 2) 0) (second_by done g F low high packed n levels levels second) (first_by done g F low high packed n levels levels first))
    ≡ joined_by done g F low high packed n levels levels
whole_front done g F low high packed n levels m first second h e =
    let r = joined_by done g F low high packed n levels levels in
    ap (take m) (sym (cond_false (eqb levels 0) (part_at n F levels packed 0) _ (ne_eqb levels 0 (λ z. absurd (omega (arith, z, h))))))
    ∙ held_front done g F low high packed n levels first second levels m (omega (arith, e))
    ∙ ap (λ (k : ℕ). take k r) e
    ∙ take-length r
