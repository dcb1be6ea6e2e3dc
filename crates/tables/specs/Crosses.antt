-- Laws of a crossing: a part that is written at one place of the lines carries it one place further, strips of lines follow each other, and all of them are the crossing.
use Rattle.std.specs.Prelude.{◌≡◌, refl, ◌⊎◌, List, ◌++◌, ℕ, ◌+◌, ◌-◌, ◌*◌, ◌/◌, ◌%◌, ◌≤◌, ◌<◌, length, take, drop, Float}
use Rattle.std.proofs.Common.{sym, ap, subst, ◌∙◌, inl, inr, ⊎_elim, mul_comm, add-mul, mod-lt, div-add-mod', div-lt_iff_lt-mul, arith, length-drop, take-append-drop, ext_get_or, length-take-le, drop_at, get_or-drop, drop-drop}
use Rattle.std.proofs.Math.Decide.{dec_lt}
use Rattle.std.proofs.Math.Arith.{digits_lt}
use Rattle.std.specs.Float.{nan}
use Rattle.numbers.specs.Words.{at, placed}
use Rattle.numbers.specs.Write.{length-placed, get_or-placed_before, get_or-placed_behind}
use Rattle.numbers.specs.Places.{get_or-placed_in, get_or_part, part_ext}
use Rattle.tables.specs.Tables.{line_of, stored, crossing, crossed}
use Rattle.tables.specs.Works.{Gatherable, Crossable, Strip, CrossedTo}
use Rattle.tables.specs.Stored.{line_end, sides_below, length-stored, length-crossing, stored_at, crossing_at}

module _ (lines n : ℕ) where
  -- place k of line r, and place r of crossing k, are within the table
  within : (k r : ℕ) → k < n → r < lines → r * n + k < lines * n
  within k r h l = digits_lt l h

  within_crossed : (k r : ℕ) → k < n → r < lines → k * lines + r < lines * n
  within_crossed k r h l = omega (arith, digits_lt {q = k} {m = n} {r = r} {c = lines} h l, mul_comm n lines)

  -- some of the lines and some of their places, in a list that is as long
  pub some_of : (first end left right : ℕ) (x s : List Float) → Crossable (length x) lines n → length s ≡ length x → first ≤ end → end ≤ lines → left ≤ right → right ≤ n
      → Strip (length s) lines n first end left right
  some_of first end left right x s w q h k o i =
      record { all = record { tall = w.tall; wide = w.wide; room = omega (arith, w.room, q) }; rising = h; last = k; onward = o; inside = i }

  -- no line or no place is among them
  pub crossed_none : (first end left c : ℕ) (x : List Float) → (end ≤ first) ⊎ (c ≤ left) → CrossedTo lines n first end left c x x
  crossed_none first end left c x e = record {
    long = refl;
    across = λ k r g h l m. ⊎_elim (λ q. absurd (omega arith)) (λ q. absurd (omega arith)) e;
    others = λ k r h l. refl;
    earlier = λ k r h l. refl;
    before = λ j h. refl;
    behind = λ j h. refl;
  }

  -- ---- the lines from `first` on, as many as are written at place c of the crossing
  module _ (first end left right c to count : ℕ) (x s : List Float) (g : ℕ → Float) (p : Strip (length x) lines n first end left right) (o : left ≤ c) (h : c < n)
      (et : to ≡ lines * n + (c * lines + first)) (ec : first + count ≡ end) (eg : (k : ℕ) → k < count → g k ≡ at s ((first + k) * n + c))
      (q : CrossedTo lines n first end left c x s) where
    room : to + count ≤ length s
    room = omega (arith, et, ec, q.long, line_end lines h, mul_comm n lines, p.last, p.all.room)

    last : to + count ≤ lines * n + lines * n
    last = omega (arith, et, ec, line_end lines h, mul_comm n lines, p.last)

    sooner : (k r : ℕ) → k < c → r < lines → lines * n + (k * lines + r) < to
    sooner k r l m = omega (arith, et, line_end lines l)

    new : (k r : ℕ) → Dec (k < c) → left ≤ k → k < c + 1 → first ≤ r → r < end → at (placed g to count s) (lines * n + (k * lines + r)) ≡ at x (r * n + k)
    new k r (yes l) i m u v =
        get_or-placed_before g to count s (lines * n + (k * lines + r)) nan (omega (arith, room)) (sooner k r l (omega (arith, p.last))) ∙ q.across k r i l u v
    new k r (no l) w m u v =
        let e : k ≡ c = omega arith in
        let i = r - first in
        let there : lines * n + (c * lines + r) ≡ to + i = omega (arith, et) in
        let line : first + i ≡ r = omega arith in
        ap (λ (k : ℕ). at (placed g to count s) (lines * n + (k * lines + r))) e
        ∙ ap (at (placed g to count s)) there
        ∙ get_or-placed_in g to count s i nan room (omega (arith, ec))
        ∙ eg i (omega (arith, ec))
        ∙ ap (λ (r : ℕ). at s (r * n + c)) line
        ∙ q.before (r * n + c) (within c r h (omega (arith, p.last)))
        ∙ ap (λ (k : ℕ). at x (r * n + k)) (sym e)

    old : (k r : ℕ) → Dec (k < c) → Dec (k < c + 1) → r < lines → (r < first) ⊎ (end ≤ r)
        → at (placed g to count s) (lines * n + (k * lines + r)) ≡ at s (lines * n + (k * lines + r))
    old k r (yes l) d m o = get_or-placed_before g to count s (lines * n + (k * lines + r)) nan (omega (arith, room)) (sooner k r l m)
    old k r (no l) (yes d) m o =
        let e : k * lines ≡ c * lines = ap (λ (k : ℕ). k * lines) (let z : k ≡ c = omega arith in z) in
        ⊎_elim
        (λ u. get_or-placed_before g to count s (lines * n + (k * lines + r)) nan (omega (arith, room)) (omega (arith, et, e)))
        (λ u. get_or-placed_behind g to count s (lines * n + (k * lines + r)) nan (omega (arith, room)) (omega (arith, et, ec, e)))
        o
    old k r (no l) (no d) m o =
        get_or-placed_behind g to count s (lines * n + (k * lines + r)) nan (omega (arith, room)) (omega (arith, et, ec, line_end lines (let z : c < k = omega arith in z), p.last))

    crossed_step : CrossedTo lines n first end left (c + 1) x (placed g to count s)
    crossed_step = record {
      long = length-placed g to count s room ∙ q.long;
      across = λ k r i l u v. new k r (dec_lt k c) i l u v;
      others = λ k r l o. old k r (dec_lt k c) (dec_lt k (c + 1)) l o ∙ q.others k r l o;
      earlier = λ k r l m. get_or-placed_before g to count s (lines * n + (k * lines + r)) nan (omega (arith, room)) (sooner k r (omega (arith, o)) l) ∙ q.earlier k r l m;
      before = λ j l. get_or-placed_before g to count s j nan (omega (arith, room)) (omega (arith, et)) ∙ q.before j l;
      behind = λ j l. get_or-placed_behind g to count s j nan (omega (arith, room)) (omega (arith, last)) ∙ q.behind j l;
    }

  -- a turn of the strip: what is gathered at place c may be asked for, and carries the crossing one place further
  module _ (first count left right c to : ℕ) (x s : List Float) (p : Strip (length x) lines n first (first + count) left right) (o : left ≤ c) (h : c < n)
      (et : to ≡ lines * n + (c * lines + first)) (q : CrossedTo lines n first (first + count) left c x s) where
    pub gathering : Gatherable (length s) n (first * n + c) to count
    gathering = record {
      before = λ k l. omega (arith, et, within c (first + k) h (omega (arith, p.last)), add-mul first k n);
      few = omega (arith, sides_below lines n p.all.tall p.all.wide, p.all.room, q.long);
      room = omega (arith, et, line_end lines h, mul_comm n lines, p.last, p.all.room, q.long);
    }

    pub crossed_turn : {t : List Float} → t ≡ placed (λ k. at s (first * n + c + k * n)) to count s → CrossedTo lines n first (first + count) left (c + 1) x t
    crossed_turn e =
        subst (λ (y : List Float). CrossedTo lines n first (first + count) left (c + 1) x y) (sym e)
        (crossed_step first (first + count) left right c to count x s (λ k. at s (first * n + c + k * n)) p o h et refl
        (λ k l. ap (at s) (let z : first * n + c + k * n ≡ (first + k) * n + c = omega (arith, add-mul first k n) in z)) q)

  -- ---- strips of lines one behind the other
  pub crossed_more : (left c a e : ℕ) (x s t : List Float) → c ≤ n → a ≤ e → e ≤ lines
      → CrossedTo lines n 0 a left c x s → CrossedTo lines n a e left c s t → CrossedTo lines n 0 e left c x t
  crossed_more left c a e x s t i h l p q = record {
    long = q.long ∙ p.long;
    across = λ k r g u v w. go k r g u w (dec_lt r a);
    others = λ k r u o. ⊎_elim
        (λ v. absurd (omega arith))
        (λ v. q.others k r u (inr v) ∙ p.others k r u (inr (omega arith)))
        o;
    earlier = λ k r u v. q.earlier k r u v ∙ p.earlier k r u v;
    before = λ j u. q.before j u ∙ p.before j u;
    behind = λ j u. q.behind j u ∙ p.behind j u;
  }
    where
      go : (k r : ℕ) → left ≤ k → k < c → r < e → Dec (r < a) → at t (lines * n + (k * lines + r)) ≡ at x (r * n + k)
      go k r g u w (yes d) = q.others k r (omega arith) (inl d) ∙ p.across k r g u (omega arith) d
      go k r g u w (no d) = q.across k r g u (omega arith) w ∙ p.before (r * n + k) (within k r (omega arith) (omega arith))

  -- ---- and tiles of places
  pub crossed_beside : (a e : ℕ) (x s t : List Float) → a ≤ e → e ≤ n → CrossedTo lines n 0 lines 0 a x s → CrossedTo lines n 0 lines a e s t → CrossedTo lines n 0 lines 0 e x t
  crossed_beside a e x s t h l p q = record {
    long = q.long ∙ p.long;
    across = λ k r g u v w. go k r u w (dec_lt k a);
    others = λ k r u o. ⊎_elim (λ v. absurd (omega arith)) (λ v. absurd (omega arith)) o;
    earlier = λ k r u v. absurd (omega arith);
    before = λ j u. q.before j u ∙ p.before j u;
    behind = λ j u. q.behind j u ∙ p.behind j u;
  }
    where
      go : (k r : ℕ) → k < e → r < lines → Dec (k < a) → at t (lines * n + (k * lines + r)) ≡ at x (r * n + k)
      go k r u w (yes d) = q.earlier k r w d ∙ p.across k r (omega arith) d (omega arith) w
      go k r u w (no d) = q.across k r (omega arith) u (omega arith) w ∙ p.before (r * n + k) (within k r (omega arith) w)

  -- ---- all lines
  abbrev A : ℕ
  A = lines * n

  abbrev S : List Float → List Float
  S x = stored (crossing (line_of n x) lines) n

  each : (x : List Float) (c : ℕ) → c < n → length (crossing (line_of n x) lines c) ≡ lines
  each x c h = length-crossing (line_of n x) lines c

  module _ (x s : List Float) (w : Crossable (length x) lines n) (p : CrossedTo lines n 0 lines 0 n x s) where
    -- place r of crossing k is place k of line r
    here : (i k r : ℕ) → k < n → r < lines → k * lines + r ≡ i → at (take A (drop A s)) i ≡ at (S x) i
    here i k r h l e =
        ap (at (take A (drop A s))) (sym e)
        ∙ get_or_part nan A A s (k * lines + r) (within_crossed k r h l)
        ∙ p.across k r (omega arith) h (omega arith) l
        ∙ sym (get_or_part nan (r * n) n x k h)
        ∙ sym (crossing_at (line_of n x) lines k r l)
        ∙ sym (stored_at (crossing (line_of n x) lines) lines n (each x) k r h l)
        ∙ ap (at (S x)) e

    some : (i : ℕ) → i < A → Dec (0 < lines) → at (take A (drop A s)) i ≡ at (S x) i
    some i h (yes l) = here i (i / lines) (i % lines) ((div-lt_iff_lt-mul l).1 (omega (arith, h, mul_comm lines n))) (mod-lt i l) (div-add-mod' i lines)
    some i h (no l) = let z : lines ≡ 0 = omega arith in let e = ap (λ (k : ℕ). k * n) z in absurd (omega (arith, h, e))

    count : length (take A (drop A s)) ≡ A
    count = length-take-le A (drop A s) (omega (arith, length-drop A s, p.long, w.room))

    middle : take A (drop A s) ≡ S x
    middle =
        ext_get_or nan (take A (drop A s)) (S x) (count ∙ mul_comm lines n ∙ sym (length-stored (crossing (line_of n x) lines) lines n (each x)))
        (λ i h. some i (omega (arith, h, count)) (dec_lt 0 lines))

    rest : drop (A + A) s ≡ drop (A + A) x
    rest =
        ext_get_or nan (drop (A + A) s) (drop (A + A) x) (length-drop (A + A) s ∙ ap (λ (k : ℕ). k - (A + A)) p.long ∙ sym (length-drop (A + A) x))
        (λ i h. get_or-drop (A + A) s i nan ∙ p.behind (A + A + i) (omega arith) ∙ sym (get_or-drop (A + A) x i nan))

    pub crossed_all : s ≡ crossed lines n x
    crossed_all =
        sym (take-append-drop A s)
        ∙ ap (λ (l : List Float). l ++ drop A s) (part_ext nan 0 A s x p.long (λ j h l. p.before j (omega arith)))
        ∙ ap (λ (l : List Float). take A x ++ l)
        (sym (take-append-drop A (drop A s)) ∙ ap (λ (l : List Float). l ++ drop A (drop A s)) middle ∙ ap (λ (l : List Float). S x ++ l) (drop-drop A A s ∙ rest))

  -- what stands behind the lines, and behind their crossings
  pub crossings : (x : List Float) → Crossable (length x) lines n → drop (lines * n) (crossed lines n x) ≡ S x ++ drop (A + A) x
  crossings x w = drop_at (take A x) (S x ++ drop (A + A) x) A (length-take-le A x (omega (arith, w.room)))

  pub crossed_behind : (x : List Float) → Crossable (length x) lines n → drop (lines * n + lines * n) (crossed lines n x) ≡ drop (lines * n + lines * n) x
  crossed_behind x w =
      sym (drop-drop A A (crossed lines n x))
      ∙ ap (drop A) (crossings x w)
      ∙ drop_at (S x) (drop (A + A) x) A (length-stored (crossing (line_of n x) lines) lines n (each x) ∙ mul_comm n lines)
