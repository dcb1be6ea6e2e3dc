-- Laws of lines one after another: how long they are together, where a place of a line stands, and what a loop holds that fills a list line after line.
use Rattle.std.specs.Prelude.{◌≡◌, refl, List, [], ◌∷◌, ◌++◌, ℕ, zero, suc, ◌+◌, ◌-◌, ◌*◌, ◌≤◌, ◌<◌, length, take, drop, Float}
use Rattle.std.proofs.Common.{sym, ap, ◌∙◌, append-nil, append_assoc, ⊎_elim, add-mul, suc-mul, mul-one, one-mul, mul-le-mul_left, mul-le-mul_right, eq-or-lt_of_le, le_of_suc-le-suc, add-one, add-one-le, arith, length-append, length-drop, ext_get_or, take_at, drop_at, drop-drop, get_or-append-add, length-take-le}
use Rattle.std.proofs.Math.ListN.{get_or-append}
use Rattle.std.proofs.Math.Seq.{drop-length}
use Rattle.std.specs.Float.{nan}
use borrow.Rule.Slice.PartMut.{put_mid}
use Rattle.numbers.specs.Words.{at, tab}
use Rattle.numbers.specs.Write.{length-tab, get_or-tab}
use Rattle.numbers.specs.Places.{tab_same, get_or_part}
use Rattle.tables.specs.Tables.{line_of, stored, crossing}

-- ---- products of a table
pub one_more : (c n : ℕ) → (c + 1) * n ≡ c * n + n
one_more c n = rw add-one (suc-mul c n)

-- line c of fewer ends before they do
pub line_end : {c lines : ℕ} (n : ℕ) → c < lines → c * n + n ≤ lines * n
line_end {c} {lines} n h = omega (arith, one_more c n, mul-le-mul_right n (add-one-le h))

-- a table is no smaller than either side
pub sides_below : (lines n : ℕ) → 1 ≤ lines → 1 ≤ n → (lines ≤ lines * n) × (n ≤ lines * n)
sides_below lines n h k = (omega (arith, mul-le-mul_left lines k, mul-one lines), omega (arith, mul-le-mul_right n h, one-mul n))

-- ---- lines one after another
pub stored_none : (g : ℕ → List Float) → stored g 0 ≡ []
unfolding stored
stored_none g = refl

pub stored_more : (g : ℕ → List Float) (c : ℕ) → stored g (c + 1) ≡ stored g c ++ g c
unfolding stored
stored_more g c = rw add-one

pub stored_same : (g h : ℕ → List Float) (n : ℕ) → ((c : ℕ) → c < n → g c ≡ h c) → stored g n ≡ stored h n
unfolding stored
stored_same g h zero e = refl
stored_same g h (suc n) e = ap (λ (l : List Float). l ++ g n) (stored_same g h n (λ c l. e c (omega arith))) ∙ ap (λ (l : List Float). stored h n ++ l) (e n (omega arith))

-- ---- lines of B numbers each
abbrev pub Each : (ℕ → List Float) → ℕ → ℕ → Type 0
Each g B n = (c : ℕ) → c < n → length (g c) ≡ B

pub length-stored : (g : ℕ → List Float) (B n : ℕ) → Each g B n → length (stored g n) ≡ n * B
unfolding stored
length-stored g B zero each = omega arith
length-stored g B (suc n) each =
    length-append (stored g n) (g n) ∙ omega (arith, length-stored g B n (λ c l. each c (omega arith)), each n (omega arith), suc-mul n B)

-- place r of line c is at c B + r
pub stored_at : (g : ℕ → List Float) (B n : ℕ) → Each g B n → (c r : ℕ) → c < n → r < B → at (stored g n) (c * B + r) ≡ at (g c) r
unfolding stored
stored_at g B zero each c r l k = absurd (omega arith)
stored_at g B (suc n) each c r l k =
    let few : Each g B n = λ c l. each c (omega arith) in
    let long = length-stored g B n few in
    ⊎_elim
    (λ e. ap (λ (i : ℕ). at (stored g n ++ g n) (i * B + r)) e
    ∙ ap (λ (i : ℕ). at (stored g n ++ g n) (i + r)) (sym long)
    ∙ get_or-append-add (stored g n) (g n) r nan
    ∙ ap (λ (i : ℕ). at (g i) r) (sym e))
    (λ m. get_or-append (stored g n) (g n) nan (c * B + r) (omega (arith, long, line_end B m)) ∙ stored_at g B n few c r m k)
    (eq-or-lt_of_le (le_of_suc-le-suc l))

-- line c of them, whatever lies behind
pub line_stored : (g : ℕ → List Float) (B n : ℕ) → Each g B n → (rest : List Float) (c : ℕ) → c < n → line_of B (stored g n ++ rest) c ≡ g c
line_stored g B n each rest c l =
    let long = length-stored g B n each in
    let inside = line_end B l in
    let is = line_of B (stored g n ++ rest) c in
    let count : length is ≡ B = length-take-le B (drop (c * B) (stored g n ++ rest)) (omega (arith, length-drop (c * B) (stored g n ++ rest), length-append (stored g n) rest, long, inside)) in
    ext_get_or nan is (g c) (count ∙ sym (each c l))
    (λ r k. let h : r < B = omega (arith, k, count) in
    get_or_part nan (c * B) B (stored g n ++ rest) r h
    ∙ get_or-append (stored g n) rest nan (c * B + r) (omega (arith, long, inside))
    ∙ stored_at g B n each c r l h)

-- line c of what lies behind a lines is line a + c
pub line_further : (B a c : ℕ) (x : List Float) → line_of B (drop (a * B) x) c ≡ line_of B x (a + c)
line_further B a c x = ap (take B) (drop-drop (c * B) (a * B) x ∙ ap (λ (k : ℕ). drop k x) (sym (add-mul a c B)))

-- ---- a crossing
pub length-crossing : (g : ℕ → List Float) (n k : ℕ) → length (crossing g n k) ≡ n
unfolding crossing
length-crossing g n k = length-tab (λ r. at (g r) k) n

pub crossing_at : (g : ℕ → List Float) (n k r : ℕ) → r < n → at (crossing g n k) r ≡ at (g r) k
unfolding crossing
crossing_at g n k r h = get_or-tab (λ r. at (g r) k) n r nan h

-- lines that agree at a place have one crossing there
pub crossing_same : (g h : ℕ → List Float) (n k i : ℕ) → ((r : ℕ) → r < n → at (g r) k ≡ at (h r) i) → crossing g n k ≡ crossing h n i
unfolding crossing
crossing_same g h n k i e = tab_same (λ r. at (g r) k) (λ r. at (h r) i) n e

-- a crossing of more lines is that of the first and that of the rest
pub crossing_add : (g : ℕ → List Float) (a b k : ℕ) → crossing g (a + b) k ≡ crossing g a k ++ crossing (λ r. g (a + r)) b k
unfolding crossing tab
crossing_add g a zero k = let z : a + 0 ≡ a = omega arith in ap (λ (n : ℕ). crossing g n k) z ∙ sym (append-nil (crossing g a k))
crossing_add g a (suc b) k =
    let e : a + suc b ≡ suc (a + b) = omega arith in
    ap (λ (n : ℕ). crossing g n k) e
    ∙ ap (λ (l : List Float). l ++ (at (g (a + b)) k ∷ [])) (crossing_add g a b k)
    ∙ append_assoc (crossing g a k) (crossing (λ r. g (a + r)) b k) (at (g (a + b)) k ∷ [])

-- ---- a list that is filled line after line: as it begins, one line, and as it ends
pub filling_none : (g : ℕ → List Float) (B : ℕ) (x : List Float) → x ≡ stored g 0 ++ drop (0 * B) x
filling_none g B x = let z : 0 * B ≡ 0 = omega arith in sym (ap (λ (l : List Float). l ++ drop (0 * B) x) (stored_none g) ∙ ap (λ (n : ℕ). drop n x) z)

pub filling_next : (g : ℕ → List Float) (B c e : ℕ) (x : List Float) {l ys : List Float} → Each g B (c + 1) → (c + 1) * B ≤ length x → e ≡ c * B + B
    → l ≡ stored g c ++ drop (c * B) x → ys ≡ g c → put_mid (c * B) (e - c * B) l ys ≡ stored g (c + 1) ++ drop ((c + 1) * B) x
filling_next g B c e x {l} {ys} each room q h k =
    let long : length (stored g c) ≡ c * B = length-stored g B c (λ i m. each i (omega arith)) in
    let d : e - c * B ≡ B = omega arith in
    ap (λ (n : ℕ). put_mid (c * B) n l ys) d
    ∙ ap (λ (y : List Float). take (c * B) y ++ (ys ++ drop B (drop (c * B) y))) h
    ∙ ap (λ (y : List Float). y ++ (ys ++ drop B (drop (c * B) (stored g c ++ drop (c * B) x)))) (take_at (stored g c) (drop (c * B) x) (c * B) long)
    ∙ ap (λ (y : List Float). stored g c ++ (ys ++ drop B y)) (drop_at (stored g c) (drop (c * B) x) (c * B) long)
    ∙ ap (λ (y : List Float). stored g c ++ (ys ++ y)) (drop-drop B (c * B) x)
    ∙ ap (λ (y : List Float). stored g c ++ (y ++ drop (c * B + B) x)) k
    ∙ sym (append_assoc (stored g c) (g c) (drop (c * B + B) x))
    ∙ ap (λ (y : List Float). y ++ drop (c * B + B) x) (sym (stored_more g c))
    ∙ ap (λ (n : ℕ). stored g (c + 1) ++ drop n x) (sym (one_more c B))

pub filling_all : (g : ℕ → List Float) (B c n : ℕ) (x : List Float) {l : List Float} → l ≡ stored g c ++ drop (c * B) x → c ≡ n → length x ≡ n * B → l ≡ stored g n
filling_all g B c n x q e h =
    q ∙ ap (λ (k : ℕ). stored g k ++ drop (k * B) x) e ∙ ap (λ (k : ℕ). stored g n ++ drop k x) (sym h) ∙ ap (λ (l : List Float). stored g n ++ l) (drop-length x) ∙ append-nil _
