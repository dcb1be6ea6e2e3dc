-- Laws of a plane's synthesis: a side that is even may be joined, each join is one line of the table, and the rows of the columns' crossing are those that the definition joins.
use Rattle.std.specs.Prelude.{◌≡◌, refl, List, [], ◌++◌, ℕ, ◌+◌, ◌-◌, ◌*◌, ◌%◌, ◌≤◌, ◌<◌, length, take, drop, Float}
use Rattle.std.proofs.Common.{sym, ap, ◌∙◌, append-nil, mul_comm, arith, length-drop, length-take-le, take_at, drop_at, take-add, take-take, drop-drop}
use Rattle.std.proofs.Math.Seq.{take-length}
use Rattle.std.specs.Float.{Format}
use Rattle.numbers.specs.Words.{longest, at, cleared}
use Rattle.bank.specs.Lengths.{GoodTaps, pairs}
use Rattle.synthesis.specs.Lines.{synthesised, join_of}
use Rattle.synthesis.specs.Works.{Joinable}
use Rattle.synthesis.specs.Runs.{length_join}
use Rattle.tables.specs.Tables.{line_of, stored, crossing, crossed}
use Rattle.tables.specs.Works.{Crossable}
use Rattle.tables.specs.Stored.{line_end, length-stored, stored_at, line_stored, line_further, stored_same, length-crossing, crossing_same, crossing_add}
use Rattle.tables.specs.Crosses.{crossings}
use Rattle.plane_synthesis.specs.Joins.{column_join, row_join, plane_joined}
use Rattle.plane_synthesis.specs.Works.{Joins, step_join, Columning, Rowing, row_held}

-- ---- joins
pub side_joins : (n f : ℕ) {a d o : ℕ} → GoodTaps f → 1 ≤ n → n ≤ longest → n % 2 ≡ 0 → a ≡ pairs n f → d ≡ pairs n f → o ≡ n → Joinable f a d o
side_joins n f t some few even ea ed eo = record {
  two = t.two;
  most = t.most;
  even = t.even;
  few = omega (arith, ea, few, some, t.most, t.two);
  both = omega (arith, ea, ed);
  ruled = omega (arith, ea, eo, even, t.even, t.two, some);
}

-- a join of parts, by their lengths
pub joined_parts : (g : Format) (F : ℕ) (low high : List Float) (n : ℕ) {a a' d d' ys : List Float} {o : ℕ} → ys ≡ synthesised g F low high a d (cleared o) → a ≡ a' → d ≡ d' → o ≡ n
    → ys ≡ join_of g F low high n a' d'
joined_parts g F low high n {a} {a'} {d} {d'} {ys} {o} e ea ed eo =
    e ∙ ap (λ (x : List Float). synthesised g F low high x d (cleared o)) ea ∙ ap (λ (x : List Float). synthesised g F low high a' x (cleared o)) ed
    ∙ ap (λ (k : ℕ). join_of g F low high k a' d') eo

-- ---- the bands of a row, m each, in its line
pub row_low : (m r k : ℕ) (x : List Float) → k ≡ m → take k (drop (r * (m + m)) x) ≡ take m (line_of (m + m) x r)
row_low m r k x e = ap (λ (n : ℕ). take n (drop (r * (m + m)) x)) e ∙ sym (take-take m (m + m) (drop (r * (m + m)) x) (omega arith))

pub row_high : (m r k : ℕ) (x : List Float) → k ≡ m → r * (m + m) + (m + m) ≤ length x → take k (drop (r * (m + m) + m) x) ≡ drop m (line_of (m + m) x r)
row_high m r k x e h =
    let z = drop (r * (m + m)) x in
    ap (λ (n : ℕ). take n (drop (r * (m + m) + m) x)) e
    ∙ ap (take m) (sym (drop-drop m (r * (m + m)) x))
    ∙ sym (drop_at (take m z) (take m (drop m z)) m (length-take-le m z (omega (arith, length-drop (r * (m + m)) x))))
    ∙ ap (drop m) (sym (take-add m m z))

-- ---- the columns of two bands, and the rows of both, as lines a step apart
pub columns_join : {w h f lo hi out m B : ℕ} → Columning w h f lo hi out → m ≡ pairs w f → B ≡ pairs h f → Joins f lo hi B h m out
columns_join {w} {h} {f} {m = m} {B} a em eb = record {
  taps = a.even.sides.taps;
  some = a.even.sides.high;
  few = a.even.sides.down;
  even = a.even.high;
  lows = λ c l. omega (arith, line_end B l, a.lows, long, eb);
  highs = λ c l. omega (arith, line_end B l, a.highs, long, eb);
  room = a.filled ∙ ap (λ (k : ℕ). k * h) (sym em);
}
  where
    long : m * B ≡ pairs w f * pairs h f
    long = cc

pub columns_held : (g : Format) (w h f m B : ℕ) (low high x y : List Float) → m ≡ pairs w f → B ≡ pairs h f
    → stored (step_join g f low high B h x y) m ≡ stored (column_join g f low high h x y) (pairs w f)
columns_held g w h f m B low high x y em eb = ap (λ (k : ℕ). stored (step_join g f low high k h x y) m) eb ∙ ap (stored (column_join g f low high h x y)) em

pub rows_few : {w h f bands p m : ℕ} → Rowing w h f bands p → m ≡ pairs w f → m ≤ bands
rows_few {w} {h} {f} a em = omega (arith, em, line_end (pairs w f + pairs w f) (let z : 0 < h = omega (arith, a.even.sides.high) in z), a.held)

-- their length, by so many pairs
rows_long : {w h f bands p m : ℕ} → Rowing w h f bands p → m ≡ pairs w f → bands ≡ h * (m + m)
rows_long {h = h} a em = a.held ∙ ap (λ (k : ℕ). h * (k + k)) (sym em)

pub rows_join : {w h f bands hi p m : ℕ} → Rowing w h f bands p → m ≡ pairs w f → hi ≡ bands - m → Joins f bands hi (m + m) w h p
rows_join {w} {h} {m = m} a em e = record {
  taps = a.even.sides.taps;
  some = a.even.sides.wide;
  few = a.even.sides.across;
  even = a.even.wide;
  lows = λ c l. omega (arith, line_end (m + m) l, rows_long a em, em);
  highs = λ c l. omega (arith, line_end (m + m) l, rows_long a em, em, e);
  room = a.filled ∙ mul_comm w h;
}

-- the details of a row, read m numbers further
row_beside : (m r : ℕ) (x : List Float) → drop (r * (m + m)) (drop m x) ≡ drop (r * (m + m) + m) x
row_beside m r x = drop-drop (r * (m + m)) m x ∙ ap (λ (k : ℕ). drop k x) (let z : m + r * (m + m) ≡ r * (m + m) + m = omega arith in z)

pub rest_all : (m : ℕ) (x : List Float) → take (length x - m) (drop m x) ≡ drop m x
rest_all m x = ap (λ (k : ℕ). take k (drop m x)) (sym (length-drop m x)) ∙ take-length (drop m x)

pub rows_held : (g : Format) (w h f bands p m : ℕ) (low high x y : List Float) → length x ≡ bands → y ≡ drop m x → Rowing w h f bands p → m ≡ pairs w f
    → stored (step_join g f low high (m + m) w x y) h ≡ stored (row_held g f low high w (pairs w f) x) h
rows_held g w h f bands p m low high x y e ey a em =
    stored_same (step_join g f low high (m + m) w x y) (row_held g f low high w m x) h
    (λ r l. let k = pairs w f in
    joined_parts g f low high w refl (row_low m r k x (sym em))
    (ap (λ (z : List Float). take k (drop (r * (m + m)) z)) ey ∙ ap (take k) (row_beside m r x) ∙ row_high m r k x (sym em) (omega (arith, line_end (m + m) l, rows_long a em, e))) refl)
    ∙ ap (λ (k : ℕ). stored (row_held g f low high w k x) h) em

-- ---- all of it: two tables of m columns of h stand in s, their crossing behind them in t
module _ (cl ch : ℕ → List Float) (m h : ℕ) (el : (c : ℕ) → length (cl c) ≡ h) (eh : (c : ℕ) → length (ch c) ≡ h) (s t rest : List Float)
    (es : s ≡ stored cl m ++ (stored ch m ++ rest)) (w : Crossable (length s) (m + m) h) (et : t ≡ crossed (m + m) h s) where
  low_line : (c : ℕ) → c < m → line_of h s c ≡ cl c
  low_line c l = ap (λ (y : List Float). line_of h y c) es ∙ line_stored cl h m (λ k q. el k) (stored ch m ++ rest) c l

  high_line : (c : ℕ) → c < m → line_of h s (m + c) ≡ ch c
  high_line c l =
      sym (line_further h m c s)
      ∙ ap (λ (y : List Float). line_of h y c) (ap (drop (m * h)) es ∙ drop_at (stored cl m) (stored ch m ++ rest) (m * h) (length-stored cl h m (λ k q. el k)))
      ∙ line_stored ch h m (λ k q. eh k) rest c l

  -- row r of the crossing: the approximations, then the details
  row_crossed : (r : ℕ) → crossing (line_of h s) (m + m) r ≡ crossing cl m r ++ crossing ch m r
  row_crossed r =
      crossing_add (line_of h s) m m r
      ∙ ap (λ (y : List Float). y ++ crossing (λ k. line_of h s (m + k)) m r) (crossing_same (line_of h s) cl m r r (λ k q. ap (λ (y : List Float). at y r) (low_line k q)))
      ∙ ap (λ (y : List Float). crossing cl m r ++ y) (crossing_same (λ k. line_of h s (m + k)) ch m r r (λ k q. ap (λ (y : List Float). at y r) (high_line k q)))

  -- where the crossing is read
  bands_held : (n : ℕ) → n ≡ (m + m) * h → take n (drop ((m + m) * h) t) ≡ stored (crossing (line_of h s) (m + m)) h
  bands_held n e =
      ap (λ (y : List Float). take n (drop ((m + m) * h) y)) et
      ∙ ap (take n) (crossings (m + m) h s w)
      ∙ take_at (stored (crossing (line_of h s) (m + m)) h) (drop ((m + m) * h + (m + m) * h) s) n
      (length-stored (crossing (line_of h s) (m + m)) (m + m) h (λ k q. length-crossing (line_of h s) (m + m) k) ∙ mul_comm h (m + m) ∙ sym e)

  row_read : (n r : ℕ) → n ≡ (m + m) * h → r < h → line_of (m + m) (take n (drop ((m + m) * h) t)) r ≡ crossing cl m r ++ crossing ch m r
  row_read n r e l =
      ap (λ (y : List Float). line_of (m + m) y r) (bands_held n e ∙ sym (append-nil (stored (crossing (line_of h s) (m + m)) h)))
      ∙ line_stored (crossing (line_of h s) (m + m)) (m + m) h (λ k q. length-crossing (line_of h s) (m + m) k) [] r l
      ∙ row_crossed r

  pub rows_joined : (g : Format) (F : ℕ) (low high : List Float) (v n : ℕ) → n ≡ (m + m) * h
      → stored (row_held g F low high v m (take n (drop ((m + m) * h) t))) h ≡ stored (λ r. join_of g F low high v (crossing cl m r) (crossing ch m r)) h
  rows_joined g F low high v n e =
      stored_same (row_held g F low high v m (take n (drop ((m + m) * h) t))) (λ r. join_of g F low high v (crossing cl m r) (crossing ch m r)) h
      (λ r l. let q = row_read n r e l in
      ap (λ (y : List Float). join_of g F low high v (take m y) (drop m y)) q
      ∙ ap (λ (y : List Float). join_of g F low high v y (drop m (crossing cl m r ++ crossing ch m r))) (take_at (crossing cl m r) (crossing ch m r) m (length-crossing cl m r))
      ∙ ap (join_of g F low high v (crossing cl m r)) (drop_at (crossing cl m r) (crossing ch m r) m (length-crossing cl m r)))

-- ---- where a place of the plane stands: place c of row r at r w + c
pub place_of : (g : Format) (F : ℕ) (low high : List Float) (w h : ℕ) (ll lh hl hh : List Float) (r c : ℕ) → r < h → c < w
    → at (plane_joined g F low high w h ll lh hl hh) (r * w + c) ≡ at (row_join g F low high w h ll lh hl hh r) c
unfolding plane_joined
place_of g F low high w h ll lh hl hh r c l k = stored_at (row_join g F low high w h ll lh hl hh) w h (λ i q. length_join g F low high w _ _) r c l k
