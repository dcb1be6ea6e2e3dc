-- Laws of one join more where nothing is done to a joined line: the recursion is that of Joins which does nothing, so each is the law of its name there.
pub use Rattle.restoring.specs.Joins.{join_front, turning}
use Rattle.std.specs.Prelude.{◌≡◌, cond, eqb, length, List, ℕ, zero, suc, ◌+◌, ◌-◌, ◌%◌, ◌≤◌, take, drop, Float}
use Rattle.std.proofs.Common.{refl, sym, ap, ◌∙◌, ◌++◌}
use Rattle.std.proofs.Math.ListN.{take-append-drop}
use Rattle.std.specs.Float.{Format}
use Rattle.numbers.specs.Words.{headed, cleared}
use Rattle.bank.specs.Lengths.{line_length}
use Rattle.synthesis.specs.Lines.{synthesised}
use Rattle.packed.specs.Lengths.{line_after}
use Rattle.packed.specs.Answers.{part_at}
use Rattle.restoring.specs.Lines.{level_join, restored_after, restored, first_after, second_after, joined_by, first_by, second_by}
use Rattle.restoring.specs.Joins as Joins
use Rattle.restoring.specs.Works.{line_held, turn_first, turn_second, Restoring}

-- ---- both recursions are one where nothing is done
module _ (g : Format) (F : ℕ) (low high packed : List Float) (n levels : ℕ) where
  pub same_line : (j : ℕ) → restored_after g F low high packed n levels j ≡ joined_by (λ l. l) g F low high packed n levels j
  unfolding restored_after joined_by
  same_line zero = refl
  same_line (suc j) = ap (λ (r : List Float). level_join g F low high r (part_at n F levels packed (levels - j))) (same_line j)

  pub same_first : (x : List Float) (j : ℕ) → first_after g F low high packed n levels j x ≡ first_by (λ l. l) g F low high packed n levels j x
  unfolding first_after first_by
  same_first x zero = refl
  same_first x (suc j) =
      ap (λ (y : List Float). cond (eqb (j % 2) 0) (headed (restored_after g F low high packed n levels (suc j)) y) y) (same_first x j)
      ∙ ap (λ (r : List Float). let y = first_by (λ l. l) g F low high packed n levels j x in cond (eqb (j % 2) 0) (headed r y) y) (same_line (suc j))

  pub same_second : (x : List Float) (j : ℕ) → second_after g F low high packed n levels j x ≡ second_by (λ l. l) g F low high packed n levels j x
  unfolding second_after second_by
  same_second x zero = refl
  same_second x (suc j) =
      ap (λ (y : List Float). cond (eqb (j % 2) 0) y (headed (restored_after g F low high packed n levels (suc j)) y)) (same_second x j)
      ∙ ap (λ (r : List Float). let y = second_by (λ l. l) g F low high packed n levels j x in cond (eqb (j % 2) 0) y (headed r y)) (same_line (suc j))

-- ---- one join at a buffer's front
pub headed_front : (g : Format) (F : ℕ) (low high line detail out : List Float) (m n : ℕ) {ys : List Float} → m ≡ length detail → n ≡ line_length m F → n ≤ length out
    → ys ≡ synthesised g F low high (take m line) detail (cleared (length (take n out))) → ys ++ drop n out ≡ headed (level_join g F low high line detail) out
headed_front g F low high line detail out m n {ys} em en h e =
    sym (take-append-drop n (ys ++ drop n out)) ∙ Joins.headed_front (λ l. l) g F low high line detail out m n (λ l. refl) em en h e refl

-- ---- which buffer holds the line
module _ (g : Format) (F : ℕ) (low high packed : List Float) (n levels : ℕ) (first second : List Float) where
  abbrev R : ℕ → List Float
  R j = restored_after g F low high packed n levels j

  abbrev A : ℕ → List Float
  A j = first_after g F low high packed n levels j first

  abbrev B : ℕ → List Float
  B j = second_after g F low high packed n levels j second

  pub first_start : first ≡ A 0
  unfolding first_after
  first_start = refl

  pub second_start : second ≡ B 0
  unfolding second_after
  second_start = refl

  -- the line that the join before left stands at the front of the buffer that it went to
  pub held_front : (j m : ℕ) → m ≤ length (R j) → take m (line_held (part_at n F levels packed 0) (A j) (B j) j) ≡ take m (R j)
  held_front j m h =
      let s = same_line g F low high packed n levels j in
      rw (same_first g F low high packed n levels first j, same_second g F low high packed n levels second j, s)
      (Joins.held_front (λ l. l) g F low high packed n levels first second j m (rw s at h))

  -- a turn
  module _ (j : ℕ) {x y deepest detail : List Float} (ex : x ≡ A j) (ey : y ≡ B j) (ed : deepest ≡ part_at n F levels packed 0)
      (et : detail ≡ part_at n F levels packed (levels - j)) (h : length detail ≤ length (R j)) where
    same_join : level_join g F low high (line_held deepest x y j) detail ≡ level_join g F low high (R j) (part_at n F levels packed (levels - j))
    same_join =
        let s = same_line g F low high packed n levels j in
        Joins.same_join (λ l. l) g F low high packed n levels first second j (ex ∙ same_first g F low high packed n levels first j) (ey ∙ same_second g F low high packed n levels second j) ed et (rw s at h)
        ∙ ap (λ (r : List Float). level_join g F low high r (part_at n F levels packed (levels - j))) (sym s)

    pub first_more : turn_first g F low high (line_held deepest x y j) detail j x ≡ A (j + 1)
    first_more =
        Joins.first_more (λ l. l) g F low high packed n levels first second j (ex ∙ same_first g F low high packed n levels first j) (ey ∙ same_second g F low high packed n levels second j) ed et
        (rw (same_line g F low high packed n levels j) at h)
        ∙ sym (same_first g F low high packed n levels first (j + 1))

    pub second_more : turn_second g F low high (line_held deepest x y j) detail j y ≡ B (j + 1)
    second_more =
        Joins.second_more (λ l. l) g F low high packed n levels first second j (ex ∙ same_first g F low high packed n levels first j) (ey ∙ same_second g F low high packed n levels second j) ed et
        (rw (same_line g F low high packed n levels j) at h)
        ∙ sym (same_second g F low high packed n levels second (j + 1))

-- ---- the lengths of a turn
-- the line that j joins leave is no shorter than the next level's details
pub long_enough : (g : Format) (low high packed : List Float) (n F levels p a b j : ℕ) → Restoring n F levels p a b → length packed ≡ p → j ≤ levels
    → line_after n F (levels - j) ≤ length (restored_after g F low high packed n levels j)
long_enough g low high packed n F levels p a b j w e h =
    rw (same_line g F low high packed n levels j) (Joins.long_enough (λ l. l) g low high packed n F levels p a b j (λ l. refl) w e h)

-- ---- the end
-- the whole line stands at the front of the first buffer after an odd number of joins, of the second after an even one
pub whole_front : (g : Format) (F : ℕ) (low high packed : List Float) (n levels m : ℕ) (first second : List Float) → 1 ≤ levels → m ≡ length (restored g F low high packed n levels)
    → take m (cond (eqb (levels % 2) 0) (second_after g F low high packed n levels levels second) (first_after g F low high packed n levels levels first)) ≡ restored g F low high packed n levels
whole_front g F low high packed n levels m first second h e =
    let s = same_line g F low high packed n levels levels in
    rw (same_second g F low high packed n levels second levels, same_first g F low high packed n levels first levels, s)
    (Joins.whole_front (λ l. l) g F low high packed n levels m first second h (e ∙ ap length s))
