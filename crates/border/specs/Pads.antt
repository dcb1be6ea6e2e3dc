-- Laws of padding: the samples are put in place, then both ends are filled, and that is the padded line.
use Rattle.std.specs.Prelude.{◌≡◌, List, ◌++◌, ℕ, ◌+◌, ◌-◌, ◌≤◌, ◌<◌, length, get_or, take, drop, Float}
use Rattle.std.proofs.Common.{sym, ap, ◌∙◌, subst, inl, inr, ⊎_elim, zero-add, le_refl, arith, length-take-le, length-drop}
use Rattle.std.proofs.Math.Decide.{dec_lt}
use Rattle.std.specs.Float.{nan}
use Rattle.numbers.specs.Words.{plus_zero, at, tab, written, placed}
use Rattle.numbers.specs.Write.{length-placed, get_or-placed_before, get_or-placed_behind, part_placed, tab_get_or}
use Rattle.numbers.specs.Places.{get_or_any, part_apart, is_placed, get_or_part, get_or-placed_in, placed_front, drop-behind}
use Rattle.border.specs.declared.Border.{Border}
use Rattle.border.specs.Rule.{place_in, padded}
use Rattle.border.specs.Reach.{Reach, Paddable, Fillable, filled}
use Rattle.border.specs.Rules.{near_in, padded_line}

pub fill_reach : {b : Border} {n len left from count : ℕ} → Fillable b n len left from count → (i : ℕ) → i < count → Reach b (place_in left (from + i)) n
fill_reach {n = n} {left = left} {from = from} f i h = record { some = f.some; few = f.few; near = λ e k. near_in n left (from + i) (omega (arith, f.near e k)) (omega (arith, f.near e k)) }

pub filled_part : {b : Border} {n left from count : ℕ} (x : List Float) (i : ℕ) → Fillable b n (length x) left from count → i ≤ count → take n (drop left (filled b left n from i x)) ≡ take n (drop left x)
filled_part {b} {n} {left} {from} {count} x i f h =
    part_apart nan (λ k. padded plus_zero b (take n (drop left x)) left (from + k)) from i x left n (omega (arith, f.room))
    (⊎_elim (λ u. inl (omega arith)) (λ u. inr u) f.apart)

pub fill_left : {b : Border} {n left right : ℕ} (len : ℕ) → Paddable b n left right → left + n + right ≤ len → Fillable b n len left 0 left
fill_left len p h = record { some = p.some; few = p.few; line = omega arith; room = omega arith; apart = inl (omega arith); near = λ e k. (omega (arith, p.near e k), omega (arith, p.near e k)) }

pub fill_right : {b : Border} {n left right : ℕ} (len : ℕ) → Paddable b n left right → left + n + right ≤ len → Fillable b n len left (left + n) right
fill_right {b} {n} {left} len p h = record { some = p.some; few = p.few; line = omega arith; room = h; apart = inr (le_refl (left + n)); near = λ e k. (omega arith, omega (arith, p.near e k)) }

-- both ends filled: the padded line
pub ends : (b : Border) (n left right : ℕ) (x : List Float) → Paddable b n left right → left + n + right ≤ length x
    → filled b left n (left + n) right (filled b left n 0 left x) ≡ written (padded plus_zero b (take n (drop left x)) left) (left + n + right) x
ends b n left right x p room =
    is_placed nan P 0 (left + n + right) x (filled b left n (left + n) right y) (omega arith)
    (length-placed G (left + n) right y (omega (arith, ly)) ∙ ly)
    (λ j h. absurd (omega arith))
    (λ i h. ap (λ (k : ℕ). get_or (filled b left n (left + n) right y) k nan) (zero-add i) ∙ go i h (dec_lt i left) (dec_lt i (left + n)))
    (λ j h. get_or-placed_behind G (left + n) right y j nan (omega (arith, ly)) (omega arith) ∙ get_or-placed_behind F 0 left x j nan (omega arith) (omega arith))
    ∙ placed_front P (left + n + right) x
  where
    line : List Float
    line = take n (drop left x)

    P : ℕ → Float
    P = padded plus_zero b line left

    F : ℕ → Float
    F i = padded plus_zero b line left (0 + i)

    y : List Float
    y = filled b left n 0 left x

    G : ℕ → Float
    G i = padded plus_zero b (take n (drop left y)) left (left + n + i)

    ly : length y ≡ length x
    ly = length-placed F 0 left x (omega arith)

    f : Fillable b n (length x) left 0 left
    f = fill_left (length x) p room

    same : take n (drop left y) ≡ line
    same = filled_part x left f (omega arith)

    ln : length line ≡ n
    ln = length-take-le n (drop left x) (omega (arith, length-drop left x))

    go : (i : ℕ) → i < left + n + right → Dec (i < left) → Dec (i < left + n) → get_or (filled b left n (left + n) right y) i nan ≡ P i
    go i h (yes u) v =
        get_or-placed_before G (left + n) right y i nan (omega (arith, ly)) (omega arith)
        ∙ ap (λ (k : ℕ). get_or y k nan) (sym (zero-add i))
        ∙ get_or-placed_in F 0 left x i nan (omega arith) u
        ∙ ap P (zero-add i)
    go i h (no u) (yes v) =
        let k = i - left in
        let e : left + k ≡ i = omega arith in
        get_or-placed_before G (left + n) right y i nan (omega (arith, ly)) v
        ∙ get_or-placed_behind F 0 left x i nan (omega arith) (omega arith)
        ∙ ap (λ (j : ℕ). get_or x j nan) (sym e)
        ∙ sym (get_or_part nan left n x k (omega arith))
        ∙ get_or_any line k nan plus_zero (omega (arith, ln))
        ∙ sym (padded_line plus_zero b line left k (omega (arith, ln)))
        ∙ ap P e
    go i h (no u) (no v) =
        let k = i - (left + n) in
        let e : left + n + k ≡ i = omega arith in
        ap (λ (j : ℕ). get_or (filled b left n (left + n) right y) j nan) (sym e)
        ∙ get_or-placed_in G (left + n) right y k nan (omega (arith, ly)) (omega arith)
        ∙ ap (λ (l : List Float). padded plus_zero b l left (left + n + k)) same
        ∙ ap P e

-- the samples put in place, and then both ends
pub pad_all : (b : Border) (line x : List Float) (left right : ℕ) → Paddable b (length line) left right → left + length line + right ≤ length x
    → (y : List Float) → y ≡ placed (λ k. at line k) left (length line) x
    → written (padded plus_zero b (take (length line) (drop left y)) left) (left + length line + right) y ≡ written (padded plus_zero b line left) (left + length line + right) x
unfolding written
pad_all b line x left right p room y e =
    let n = length line in
    let q : take n (drop left y) ≡ line = ap (λ (l : List Float). take n (drop left l)) e ∙ part_placed (λ k. at line k) left n x (omega arith) ∙ tab_get_or line nan in
    let t : drop (left + n + right) y ≡ drop (left + n + right) x = ap (drop (left + n + right)) e ∙ drop-behind (λ k. at line k) left n x (left + n + right) (omega arith) (omega arith) in
    ap (λ (l : List Float). tab (padded plus_zero b l left) (left + n + right) ++ drop (left + n + right) y) q
    ∙ ap (λ (l : List Float). tab (padded plus_zero b line left) (left + n + right) ++ l) t

-- of a line of n
pub pad_all_by : (b : Border) (line x : List Float) (left right n : ℕ) → length line ≡ n → Paddable b n left right → left + n + right ≤ length x
    → (y : List Float) → y ≡ placed (at line) left n x
    → written (padded plus_zero b (take n (drop left y)) left) (left + n + right) y ≡ written (padded plus_zero b line left) (left + n + right) x
pad_all_by b line x left right n e =
    subst
    (λ (k : ℕ). Paddable b k left right → left + k + right ≤ length x → (y : List Float) → y ≡ placed (at line) left k x
    → written (padded plus_zero b (take k (drop left y)) left) (left + k + right) y ≡ written (padded plus_zero b line left) (left + k + right) x)
    e (pad_all b line x left right)
