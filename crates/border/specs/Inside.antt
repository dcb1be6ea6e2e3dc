-- Laws of a line that lies in the buffer of its padded line: it is moved to its place, and then padded there.
use Rattle.std.specs.Prelude.{◌≡◌, List, ◌++◌, ℕ, ◌+◌, ◌-◌, ◌≤◌, ◌<◌, length, get_or, take, drop, Float}
use Rattle.std.proofs.Math.Path.{refl}
use Rattle.std.proofs.Common.{sym, ap, ◌∙◌, arith, append_assoc, drop-drop, length-drop, ext_get_or, length-take-le}
use Rattle.std.specs.Float.{nan}
use borrow.Rule.Slice.PartMut.{put_mid}
use Rattle.numbers.specs.Words.{plus_zero, at, tab, written, placed}
use Rattle.numbers.specs.Write.{length-tab, get_or-tab, written_all, length-placed, get_or-placed_before, get_or-placed_behind}
use Rattle.numbers.specs.Places.{get_or-placed_in, get_or_part, is_placed}
use Rattle.border.specs.declared.Border.{Border}
use Rattle.border.specs.Rule.{padded}

module _ (b : Border) (x y : List Float) (v : ℕ → Float) (n to left right : ℕ) (room : to + (left + n + right) ≤ length x)
    (e : y ≡ placed v (to + left) n x) where
  abbrev N : ℕ
  N = left + n + right

  ly : length y ≡ length x
  ly = ap length e ∙ length-placed v (to + left) n x (omega arith)

  abbrev P : List Float
  P = take N (drop to y)

  lP : length P ≡ N
  lP = length-take-le N (drop to y) (omega (arith, length-drop to y, ly))

  -- the samples in the part are those of the line
  samples : take n (drop left P) ≡ tab v n
  samples =
      ext_get_or nan (take n (drop left P)) (tab v n)
      (l1 ∙ sym (length-tab v n))
      (λ i h. let k : i < n = omega (arith, l1) in
      get_or_part nan left n P i k
      ∙ get_or_part nan to N y (left + i) (omega arith)
      ∙ ap (λ (j : ℕ). get_or y j nan) (assoc i)
      ∙ ap (λ (l : List Float). get_or l (to + left + i) nan) e
      ∙ get_or-placed_in v (to + left) n x i nan (omega arith) k
      ∙ sym (get_or-tab v n i nan k))
    where
      l1 : length (take n (drop left P)) ≡ n
      l1 = length-take-le n (drop left P) (omega (arith, length-drop left P, lP))

      assoc : (i : ℕ) → to + (left + i) ≡ to + left + i
      assoc i = omega arith

  abbrev g : ℕ → Float
  g = padded plus_zero b (tab v n) left

  moved : placed g to N y ≡ placed g to N x
  moved =
      is_placed nan g to N x (placed g to N y) room (length-placed g to N y (omega (arith, ly)) ∙ ly)
      (λ j h. get_or-placed_before g to N y j nan (omega (arith, ly)) h ∙ ap (λ (l : List Float). get_or l j nan) e ∙ get_or-placed_before v (to + left) n x j nan (omega arith) (omega arith))
      (λ i h. get_or-placed_in g to N y i nan (omega (arith, ly)) h)
      (λ j h. get_or-placed_behind g to N y j nan (omega (arith, ly)) h ∙ ap (λ (l : List Float). get_or l j nan) e ∙ get_or-placed_behind v (to + left) n x j nan (omega arith) (omega arith))

  back : take to y ++ (tab g N ++ drop N (drop to y)) ≡ placed g to N y
  unfolding placed written
  back = refl

  pub pad_inside : (end : ℕ) (zs : List Float) → end ≡ to + N → zs ≡ written (padded plus_zero b (take n (drop left (take (end - to) (drop to y)))) left) N (take (end - to) (drop to y))
      → put_mid to (end - to) y zs ≡ placed g to N x
  pad_inside end zs q z =
      let d : end - to ≡ N = omega arith in
      let z' : zs ≡ tab g N =
      z
      ∙ ap (λ (k : ℕ). written (padded plus_zero b (take n (drop left (take k (drop to y)))) left) N (take k (drop to y))) d
      ∙ ap (λ (l : List Float). written (padded plus_zero b l left) N P) samples
      ∙ ap (λ (k : ℕ). written g k P) (sym lP) ∙ written_all g P ∙ ap (tab g) lP
      in
      ap (λ (k : ℕ). put_mid to k y zs) d ∙ ap (λ (l : List Float). take to y ++ (l ++ drop N (drop to y))) z' ∙ back ∙ moved

-- a part as a table of its places
pub part_tab : (x : List Float) (from n : ℕ) → from + n ≤ length x → tab (λ k. at x (from + k)) n ≡ take n (drop from x)
part_tab x from n h =
    let l : length (take n (drop from x)) ≡ n = length-take-le n (drop from x) (omega (arith, length-drop from x)) in
    ext_get_or nan (tab (λ k. at x (from + k)) n) (take n (drop from x)) (length-tab (λ k. at x (from + k)) n ∙ sym l)
    (λ i k. let q : i < n = omega (arith, length-tab (λ k. at x (from + k)) n) in get_or-tab (λ k. at x (from + k)) n i nan q ∙ sym (get_or_part nan from n x i q))

-- a part that is copied to another place of the list
pub moved_part : (x : List Float) (from n to : ℕ) → from + n ≤ length x
    → (take to x ++ take (from + n - from) (drop from x)) ++ drop (to + (from + n - from)) x ≡ placed (λ k. at x (from + k)) to n x
unfolding placed written
moved_part x from n to h =
    let e : from + n - from ≡ n = omega arith in
    ap (λ (k : ℕ). (take to x ++ take k (drop from x)) ++ drop (to + k) x) e
    ∙ append_assoc (take to x) (take n (drop from x)) (drop (to + n) x)
    ∙ ap (λ (l : List Float). take to x ++ (l ++ drop (to + n) x)) (sym (part_tab x from n h))
    ∙ ap (λ (l : List Float). take to x ++ (tab (λ k. at x (from + k)) n ++ l)) (sym (drop-drop n to x))
