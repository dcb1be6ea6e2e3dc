-- Laws of a plane's analysis: a row's bands carry the table of rows one row further, a column's bands each band one column further, and the columns of the table's crossing are those of the rows' bands.
use Rattle.std.specs.Prelude.{◌≡◌, refl, List, [], ◌++◌, ℕ, ◌+◌, ◌-◌, ◌*◌, ◌≤◌, ◌<◌, length, take, Float}
use Rattle.std.proofs.Math.Path.{sym, ap}
use Rattle.std.proofs.Common.{◌∙◌, append-nil, mul_comm, mul-add, arith, length-append, length-drop, take-append-drop, length-take-le, take-add, drop-drop, get_or-append-add}
use Rattle.std.proofs.Math.Nat.{add-mul}
use Rattle.std.proofs.Math.ListN.{drop, get_or-append}
use Rattle.std.proofs.Math.Seq.{drop-nil}
use Rattle.std.specs.Float.{nan, Format}
use borrow.Rule.Slice.PartMut.{put_mid}
use Rattle.numbers.specs.Words.{at, tab, written, placed}
use Rattle.numbers.specs.Write.{tab_get_or, length-written, length-placed, take-placed, part_placed}
use Rattle.numbers.specs.Places.{lent_length, take_lent, part_lent, drop_lent, drop-behind, front_at, part_ext}
use Rattle.border.specs.declared.Border.{Border}
use Rattle.bank.specs.Lengths.{pairs, spanned, padded_length}
use Rattle.analysis.specs.Lines.{padded_at, padded_into, band}
use Rattle.analysis.specs.Works.{band_of, both_placed}
use Rattle.analysis.specs.Taps.{length-band, of_samples_lem}
use Rattle.tables.specs.Tables.{line_of, stored, crossing, crossed}
use Rattle.tables.specs.Works.{Crossable}
use Rattle.tables.specs.Crosses.{crossings}
use Rattle.tables.specs.Stored.{one_more, line_end, stored_none, stored_more, stored_same, stored_at, line_stored, length-crossing, crossing_same}
use Rattle.plane_analysis.specs.Bands.{row_band, column_band, plane_band}
use Rattle.plane_analysis.specs.Works.{row_bands, line_bands, Rowed, Still}

-- ---- rows
module _ (g : Format) (low high : List Float) (F : ℕ) (b : Border) (plane : List Float) (w h m : ℕ) (em : m ≡ pairs w F) (ep : length plane ≡ h * w) where
  abbrev both : ℕ → List Float
  both r = row_bands g low high F b plane w r

  length_row : (r : ℕ) → r < h → length (line_of w plane r) ≡ w
  length_row r l = length-take-le w (drop (r * w) plane) (omega (arith, length-drop (r * w) plane, ep, line_end w l))

  length_row_band : (taps : List Float) (r : ℕ) → r < h → length (row_band g taps F b plane w r) ≡ m
  length_row_band taps r l = length-band g taps F b (line_of w plane r) ∙ ap (λ (n : ℕ). pairs n F) (length_row r l) ∙ sym em

  length_both : (r : ℕ) → r < h → length (both r) ≡ m + m
  length_both r l = length-append (row_band g low F b plane w r) (row_band g high F b plane w r) ∙ omega (arith, length_row_band low r l, length_row_band high r l)

  -- no row
  pub rowed_none : (end : ℕ) (x : List Float) → Rowed g low high F b plane w 0 m end x x
  rowed_none end x = record { long = refl; front = ap (λ (n : ℕ). take n x) (let z : 0 * (m + m) ≡ 0 = omega arith in z) ∙ sym (stored_none both); beyond = refl }

  -- one row more: zs is its padded line, which the scratch s takes from `start` on and so becomes t; u has its bands as well
  module _ (r start end : ℕ) (x s zs u line rest : List Float) (l : r < h) (two : 2 ≤ F) (ee : end ≡ start + spanned m F) (before : h * (m + m) ≤ start) (room : end ≤ length x)
      (p : Rowed g low high F b plane w r m end x s) (el : line ≡ line_of w plane r) (lr : length rest ≡ end - start) (pad : zs ≡ padded_into F b line rest)
      (eu : u ≡ both_placed g low high F start (r * (m + m)) m (put_mid start (end - start) s zs)) where
    abbrev t : List Float
    t = put_mid start (end - start) s zs

    row_room : r * (m + m) + (m + m) ≤ start
    row_room = omega (arith, line_end (m + m) l, before)

    row_pairs : pairs (length line) F ≡ m
    row_pairs = ap (λ (n : ℕ). pairs n F) (ap length el ∙ length_row r l) ∙ sym em

    length_pad : length zs ≡ end - start
    length_pad = ap length pad ∙ length-written (padded_at F b line) (padded_length (length line) F) rest (omega (arith, lr, ee, row_pairs)) ∙ lr

    inside : end ≤ length s
    inside = omega (arith, room, p.long)

    rising : start ≤ end
    rising = omega (arith, ee)

    length-t : length t ≡ length s
    length-t = lent_length nan start end s zs rising inside length_pad

    -- the padded line is read where it was put
    held : take (spanned m F) (drop start t) ≡ zs
    held = ap (λ (n : ℕ). take n (drop start t)) (let z : spanned m F ≡ end - start = omega (arith, ee) in z) ∙ part_lent nan start end s zs rising inside length_pad

    made : (taps : List Float) → tab (band_of g taps F (take (spanned m F) (drop start t))) m ≡ row_band g taps F b plane w r
    made taps =
        ap (λ (y : List Float). tab (band_of g taps F y) m) held
        ∙ ap (tab (band_of g taps F zs)) (sym row_pairs)
        ∙ of_samples_lem g b taps line zs rest F pad
        ∙ ap (band g taps F b) el

    -- so that what was put is both bands of the row
    eu' : u ≡ placed (at (both r)) (r * (m + m)) (m + m) t
    eu' =
        eu
        ∙ ap (λ (y : List Float). placed (at (y ++ tab (band_of g high F (take (spanned m F) (drop start t))) m)) (r * (m + m)) (m + m) t) (made low)
        ∙ ap (λ (y : List Float). placed (at (row_band g low F b plane w r ++ y)) (r * (m + m)) (m + m) t) (made high)

    fits : r * (m + m) + (m + m) ≤ length t
    fits = omega (arith, row_room, rising, inside, length-t)

    front : take (r * (m + m) + (m + m)) (placed (at (both r)) (r * (m + m)) (m + m) t) ≡ take (r * (m + m)) t ++ both r
    front =
        take-add (r * (m + m)) (m + m) (placed (at (both r)) (r * (m + m)) (m + m) t)
        ∙ ap (λ (y : List Float). y ++ take (m + m) (drop (r * (m + m)) (placed (at (both r)) (r * (m + m)) (m + m) t))) (take-placed (at (both r)) (r * (m + m)) (m + m) t (omega (arith, fits)))
        ∙ ap (λ (y : List Float). take (r * (m + m)) t ++ y)
        (part_placed (at (both r)) (r * (m + m)) (m + m) t (omega (arith, fits)) ∙ ap (tab (at (both r))) (sym (length_both r l)) ∙ tab_get_or (both r) nan)

    pub rowed_next : Rowed g low high F b plane w (r + 1) m end x u
    rowed_next = record {
      long = ap length eu' ∙ length-placed (at (both r)) (r * (m + m)) (m + m) t fits ∙ length-t ∙ p.long;
      front = ap (take ((r + 1) * (m + m))) eu'
          ∙ ap (λ (n : ℕ). take n (placed (at (both r)) (r * (m + m)) (m + m) t)) (one_more r (m + m))
          ∙ front
          ∙ ap (λ (y : List Float). y ++ both r) (take_lent nan start end s zs rising inside length_pad (r * (m + m)) (omega (arith, row_room)) ∙ p.front)
          ∙ sym (stored_more both r);
      beyond = ap (drop end) eu' ∙ drop-behind (at (both r)) (r * (m + m)) (m + m) t end (omega (arith, fits)) (omega (arith, row_room, rising))
          ∙ drop_lent nan start end s zs rising inside length_pad ∙ p.beyond;
    }

-- ---- columns
-- a table is what is written to nothing
none : (G : ℕ → Float) (n : ℕ) → tab G n ≡ written G n []
unfolding written
none G n = sym (ap (λ (y : List Float). tab G n ++ y) (drop-nil n) ∙ append-nil (tab G n))

-- one column more: s' has its padded line from `start` on, and the part lent of a band takes the column's band
module _ (g : Format) (taps : List Float) (F : ℕ) (b : Border) (base m h start end c : ℕ) (x s s' : List Float) (l : c < m)
    (ee : end ≡ start + padded_length h F) (before : base + m * h ≤ start) (room : end ≤ length x) (p : Still start end x s)
    (es : s' ≡ placed (padded_at F b (take h (drop (base + c * h) s))) start (padded_length h F) s) where
  abbrev column : List Float
  column = line_of h (drop base x) c

  -- the column is the one at entry
  same : take h (drop (base + c * h) s) ≡ column
  same =
      part_ext nan (base + c * h) h s x p.long (λ j u v. front_at nan start s x p.front j (omega (arith, line_end h l, before)))
      ∙ ap (take h) (sym (drop-drop (c * h) base x))

  length-column : length column ≡ h
  length-column = length-take-le h (drop (c * h) (drop base x)) (omega (arith, length-drop (c * h) (drop base x), length-drop base x, line_end h l, before, room, ee))

  es' : s' ≡ placed (padded_at F b column) start (padded_length h F) s
  es' = es ∙ ap (λ (y : List Float). placed (padded_at F b y) start (padded_length h F) s) same

  padded_fits : start + padded_length h F ≤ length s
  padded_fits = omega (arith, ee, room, p.long)

  pub still_next : Still start end x s'
  still_next = record {
    long = ap length es' ∙ length-placed (padded_at F b column) start (padded_length h F) s padded_fits ∙ p.long;
    front = ap (take start) es' ∙ take-placed (padded_at F b column) start (padded_length h F) s (omega (arith, padded_fits)) ∙ p.front;
    beyond = ap (drop end) es' ∙ drop-behind (padded_at F b column) start (padded_length h F) s end (omega (arith, padded_fits)) (omega (arith, ee)) ∙ p.beyond;
  }

  -- what the sums over the padded line give
  pub column_made : (n k : ℕ) → n ≡ end - start → k ≡ pairs h F → tab (band_of g taps F (take n (drop start s'))) k ≡ band g taps F b column
  column_made n k en ek =
      let ep : padded_length (length column) F ≡ padded_length h F = ap (λ (q : ℕ). padded_length q F) length-column in
      let line : take n (drop start s') ≡ padded_into F b column [] =
      ap (λ (q : ℕ). take q (drop start s')) (let z : n ≡ padded_length h F = omega (arith, en, ee) in z)
      ∙ ap (λ (y : List Float). take (padded_length h F) (drop start y)) es'
      ∙ part_placed (padded_at F b column) start (padded_length h F) s (omega (arith, padded_fits))
      ∙ ap (tab (padded_at F b column)) (sym ep)
      ∙ none (padded_at F b column) (padded_length (length column) F) in
      ap (tab (band_of g taps F (take n (drop start s')))) (ek ∙ ap (λ (q : ℕ). pairs q F) (sym length-column)) ∙ of_samples_lem g b taps column (take n (drop start s')) [] F line

-- a column's band has as many places as it has pairs
pub each_band : (g : Format) (taps : List Float) (F : ℕ) (b : Border) (base m h : ℕ) (x : List Float) → base + m * h ≤ length x
    → (c : ℕ) → c < m → length (band g taps F b (line_of h (drop base x) c)) ≡ pairs h F
each_band g taps F b base m h x room c l =
    length-band g taps F b (line_of h (drop base x) c)
    ∙ ap (λ (n : ℕ). pairs n F) (length-take-le h (drop (c * h) (drop base x)) (omega (arith, length-drop (c * h) (drop base x), length-drop base x, line_end h l, room)))

-- ---- all of it
-- the table of both bands is two tables of one
pub area_halves : (h m : ℕ) → h * (m + m) ≡ m * h + m * h
area_halves h m = mul-add h m m ∙ omega (arith, mul_comm h m)

-- the rows' bands stand in s₁, their crossing behind them in s₂, and s is as s₂ up to where both end
module _ (g : Format) (low high : List Float) (F : ℕ) (b : Border) (plane : List Float) (w h m : ℕ) (em : m ≡ pairs w F) (ep : length plane ≡ h * w) (s₁ s₂ s : List Float)
    (rows : take (h * (m + m)) s₁ ≡ stored (row_bands g low high F b plane w) h) (w₁ : Crossable (length s₁) h (m + m))
    (es : s₂ ≡ crossed h (m + m) s₁) (long : length s ≡ length s₂) (front : take (h * (m + m) + h * (m + m)) s ≡ take (h * (m + m) + h * (m + m)) s₂) where
  abbrev A : ℕ
  A = h * (m + m)

  row_of : (r : ℕ) → r < h → line_of (m + m) s₁ r ≡ row_bands g low high F b plane w r
  row_of r l =
      ap (λ (y : List Float). line_of (m + m) y r) (sym (take-append-drop A s₁) ∙ ap (λ (y : List Float). y ++ drop A s₁) rows)
      ∙ line_stored (row_bands g low high F b plane w) (m + m) h (length_both g low high F b plane w h m em ep) (drop A s₁) r l

  low_column : (c : ℕ) → c < m → crossing (line_of (m + m) s₁) h c ≡ crossing (row_band g low F b plane w) h c
  low_column c k =
      crossing_same (line_of (m + m) s₁) (row_band g low F b plane w) h c c
      (λ r l. ap (λ (y : List Float). at y c) (row_of r l)
      ∙ get_or-append (row_band g low F b plane w r) (row_band g high F b plane w r) nan c (omega (arith, length_row_band g low high F b plane w h m em ep low r l)))

  high_column : (c : ℕ) → crossing (line_of (m + m) s₁) h (m + c) ≡ crossing (row_band g high F b plane w) h c
  high_column c =
      crossing_same (line_of (m + m) s₁) (row_band g high F b plane w) h (m + c) c
      (λ r l. ap (λ (y : List Float). at y (m + c)) (row_of r l)
      ∙ ap (λ (k : ℕ). at (row_bands g low high F b plane w r) (k + c)) (sym (length_row_band g low high F b plane w h m em ep low r l))
      ∙ get_or-append-add (row_band g low F b plane w r) (row_band g high F b plane w r) c nan)

  -- column c of the crossing, in s
  column_of : (c : ℕ) → c < m + m → line_of h (drop A s) c ≡ crossing (line_of (m + m) s₁) h c
  column_of c l =
      ap (take h) (drop-drop (c * h) A s)
      ∙ part_ext nan (A + c * h) h s s₂ long (λ j u v. front_at nan (A + A) s s₂ front j (omega (arith, line_end h l, mul_comm (m + m) h)))
      ∙ ap (take h) (sym (drop-drop (c * h) A s₂))
      ∙ ap (λ (y : List Float). line_of h y c) (ap (drop A) es ∙ crossings h (m + m) s₁ w₁)
      ∙ line_stored (crossing (line_of (m + m) s₁) h) h (m + m) (λ k q. length-crossing (line_of (m + m) s₁) h k) (drop (A + A) s₁) c l

  pub low_bands : (taps : List Float) → line_bands g taps F b A m h s ≡ plane_band g low taps F b plane w h
  unfolding plane_band
  low_bands taps =
      stored_same _ (column_band g low taps F b plane w h) m (λ c l. ap (band g taps F b) (column_of c (omega arith) ∙ low_column c l))
      ∙ ap (stored (column_band g low taps F b plane w h)) em

  pub high_bands : (taps : List Float) → line_bands g taps F b (A + m * h) m h s ≡ plane_band g high taps F b plane w h
  unfolding plane_band
  high_bands taps =
      stored_same _ (column_band g high taps F b plane w h) m (λ c l. ap (band g taps F b) (further c ∙ column_of (m + c) (omega arith) ∙ high_column c))
      ∙ ap (stored (column_band g high taps F b plane w h)) em
    where
      further : (c : ℕ) → line_of h (drop (A + m * h) s) c ≡ line_of h (drop A s) (m + c)
      further c =
          ap (take h) (drop-drop (c * h) (A + m * h) s ∙ ap (λ (k : ℕ). drop k s) (let z : A + m * h + c * h ≡ A + (m + c) * h = omega (arith, add-mul m c h) in z) ∙ sym (drop-drop ((m + c) * h) A s))

-- ---- where a place of a band stands: with B places in a column, place r of column c at c B + r
pub place_of : (g : Format) (across down : List Float) (F : ℕ) (b : Border) (plane : List Float) (w h c r : ℕ) → c < pairs w F → r < pairs h F
    → at (plane_band g across down F b plane w h) (c * pairs h F + r) ≡ at (column_band g across down F b plane w h c) r
unfolding plane_band
place_of g across down F b plane w h c r l k =
    stored_at (column_band g across down F b plane w h) (pairs h F) (pairs w F)
    (λ i q. length-band g down F b _ ∙ ap (λ (n : ℕ). pairs n F) (length-crossing (row_band g across F b plane w) h i)) c r l k
