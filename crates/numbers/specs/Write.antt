-- Laws of lists that a loop writes, one place a turn: how it begins, one turn, how it ends, and what is then read.
use Rattle.std.specs.Prelude.{◌≡◌, drop}
use Rattle.std.proofs.Math.Path.{refl, sym, ap}
use Rattle.std.proofs.Common.{◌∙◌, arith, drop-cons, ext_get_or, get_or-take, get_or-drop, eq-or-lt_of_le, le_of_suc-le-suc, zero-add, suc-add}
use mathlib.Core.List.{List, [], ◌∷◌, ◌++◌, append-nil}
use Prim.Native.Nat.{ℕ, zero, suc, ◌+◌, ◌-◌, ◌≤◌, ◌<◌}
use Rattle.std.proofs.Math.Numerals.{add-one}
use Rattle.std.proofs.Math.ListN.{length, get_or, take, set, length-append, length-drop, take-append-drop, get_or-append}
use Rattle.std.proofs.Math.Seq.{set_at, get_or_at, take_at, drop_at, drop-length, append_snoc, length-take-le}
use Rattle.std.proofs.Math.Logic.{⊎_elim}
use Rattle.numbers.specs.Words.{tab, written, placed, replaced}

module _ {A : Type 0} where
  pub length-tab : (g : ℕ → A) (n : ℕ) → length (tab g n) ≡ n
  unfolding tab
  length-tab g zero = refl
  length-tab g (suc n) = length-append (tab g n) (g n ∷ []) ∙ omega (arith, length-tab g n)

  pub get_or-tab : (g : ℕ → A) (n k : ℕ) (d : A) → k < n → get_or (tab g n) k d ≡ g k
  unfolding tab
  get_or-tab g zero k d h = absurd (omega arith)
  get_or-tab g (suc n) k d h =
      ⊎_elim
      (λ e. ap (λ (j : ℕ). get_or (tab g n ++ (g n ∷ [])) j d) e ∙ get_or_at (tab g n) (g n) [] d n (length-tab g n) ∙ ap g (sym e))
      (λ l. get_or-append (tab g n) (g n ∷ []) d k (omega (arith, length-tab g n)) ∙ get_or-tab g n k d l)
      (eq-or-lt_of_le (le_of_suc-le-suc h))

  pub written_none : (g : ℕ → A) (x : List A) → written g 0 x ≡ x
  unfolding tab written
  written_none g x = refl

  -- one more place
  pub written_more : (g : ℕ → A) (i : ℕ) (x : List A) → i < length x → set (written g i x) i (g i) ≡ written g (i + 1) x
  unfolding tab written
  written_more g i x h =
      rw add-one (
      ap (λ (l : List A). set (tab g i ++ l) i (g i)) (drop-cons x i (g i) h)
      ∙ set_at (tab g i) (get_or x i (g i)) (drop (suc i) x) (g i) i (length-tab g i)
      ∙ sym (append_snoc (tab g i) (g i) (drop (suc i) x))
      )

  pub length-written : (g : ℕ → A) (n : ℕ) (x : List A) → n ≤ length x → length (written g n x) ≡ length x
  unfolding written
  length-written g n x h = simp (length-append, length-tab, length-drop) (omega arith)

  -- every place
  pub written_all : (g : ℕ → A) (x : List A) → written g (length x) x ≡ tab g (length x)
  unfolding written
  written_all g x = ap (λ (l : List A). tab g (length x) ++ l) (drop-length x) ∙ append-nil _

  -- A loop that writes x from the front: as it begins, one turn, and as it ends, at n places or at all of them.
  pub written_start : (g : ℕ → A) (x : List A) → x ≡ written g 0 x
  written_start g x = sym (written_none g x)

  pub written_step : (g : ℕ → A) (i : ℕ) (x : List A) {l : List A} {v : A} → i < length x → l ≡ written g i x → v ≡ g i
      → set l i v ≡ written g (i + 1) x
  written_step g i x h e q = cc (written_more g i x h)

  pub written_end : (g : ℕ → A) (i n : ℕ) (x : List A) {l : List A} → l ≡ written g i x → i ≤ n → n ≤ i → l ≡ written g n x
  written_end g i n x e h k = let q : i ≡ n = omega arith in rw (← q) e

  pub written_full : (g : ℕ → A) (i : ℕ) (x : List A) {l : List A} → l ≡ written g i x → i ≤ length x → length x ≤ i → l ≡ tab g (length x)
  written_full g i x e h k = written_end g i (length x) x e h k ∙ written_all g x

  -- the front and the rest of what was written; a list is the table of its own elements
  pub take-written : (g : ℕ → A) (n : ℕ) (x : List A) → take n (written g n x) ≡ tab g n
  unfolding written
  take-written g n x = take_at (tab g n) (drop n x) n (length-tab g n)

  pub drop-written : (g : ℕ → A) (n : ℕ) (x : List A) → drop n (written g n x) ≡ drop n x
  unfolding written
  drop-written g n x = drop_at (tab g n) (drop n x) n (length-tab g n)

  pub tab_get_or : (l : List A) (d : A) → tab (λ k. get_or l k d) (length l) ≡ l
  tab_get_or l d =
      ext_get_or d (tab (λ k. get_or l k d) (length l)) l (length-tab _ (length l))
      (λ i h. get_or-tab (λ k. get_or l k d) (length l) i d (rw length-tab at h))

  -- ---- n places from s on, within one list
  set-append_add : (xs ys : List A) (i : ℕ) (a : A) → set (xs ++ ys) (length xs + i) a ≡ xs ++ set ys i a
  set-append_add [] ys i a = ap (λ (k : ℕ). set ys k a) (zero-add i)
  set-append_add (x ∷ xs) ys i a =
      ap (λ (k : ℕ). set (x ∷ (xs ++ ys)) k a) (suc-add (length xs) i) ∙ ap (λ (l : List A). x ∷ l) (set-append_add xs ys i a)

  pub placed_start : (g : ℕ → A) (s : ℕ) (x : List A) → x ≡ placed g s 0 x
  unfolding placed
  placed_start g s x = sym (ap (λ (l : List A). take s x ++ l) (written_none g (drop s x)) ∙ take-append-drop s x)

  pub length-placed : (g : ℕ → A) (s n : ℕ) (x : List A) → s + n ≤ length x → length (placed g s n x) ≡ length x
  unfolding placed
  length-placed g s n x h =
      let w : length (written g n (drop s x)) ≡ length (drop s x) = length-written g n (drop s x) (simp length-drop (omega arith)) in
      length-append (take s x) (written g n (drop s x))
      ∙ omega (arith, w, length-drop s x, length-take-le s x (omega arith))

  pub placed_step : (g : ℕ → A) (s i : ℕ) (x : List A) {l : List A} {v : A} → s + i < length x → l ≡ placed g s i x → v ≡ g i
      → set l (s + i) v ≡ placed g s (i + 1) x
  unfolding placed
  placed_step g s i x {l} {v} h e q =
      let t : length (take s x) ≡ s = length-take-le s x (omega arith) in
      let m = written_step g i (drop s x) {v = v} (simp length-drop (omega arith)) refl q in
      ap (λ (y : List A). set y (s + i) v) e
      ∙ ap (λ (k : ℕ). set (take s x ++ written g i (drop s x)) (k + i) v) (sym t)
      ∙ set-append_add (take s x) (written g i (drop s x)) i v
      ∙ ap (λ (y : List A). take s x ++ y) m

  pub placed_end : (g : ℕ → A) (s i n : ℕ) (x : List A) {l : List A} → l ≡ placed g s i x → i ≤ n → n ≤ i → l ≡ placed g s n x
  placed_end g s i n x e h k = let q : i ≡ n = omega arith in rw (← q) e

  -- a loop that goes by the places themselves: as it begins, one turn, and as it ends
  pub replaced_start : (g : ℕ → A) (s : ℕ) (x : List A) → x ≡ replaced g s (s - s) x
  replaced_start g s x = let q : 0 ≡ s - s = omega arith in placed_start (λ k. g (s + k)) s x ∙ ap (λ (n : ℕ). replaced g s n x) q

  pub replaced_step : (g : ℕ → A) (s p : ℕ) (x : List A) {l : List A} {v : A} → s ≤ p → p < length x → l ≡ replaced g s (p - s) x → v ≡ g p
      → set l p v ≡ replaced g s (p + 1 - s) x
  replaced_step g s p x {l} {v} h k e q =
      let t : s + (p - s) ≡ p = omega arith in
      let u : p - s + 1 ≡ p + 1 - s = omega arith in
      ap (λ (j : ℕ). set l j v) (sym t) ∙ placed_step (λ j. g (s + j)) s (p - s) x (omega arith) e (q ∙ ap g (sym t)) ∙ ap (λ (j : ℕ). replaced g s j x) u

  -- what lies before and behind stays, and what lies within is g's
  pub replaced_end : (g : ℕ → A) (s p n : ℕ) (x : List A) {l : List A} → l ≡ replaced g s (p - s) x → p ≤ n → n ≤ p → l ≡ replaced g s (n - s) x
  replaced_end g s p n x e h k = let q : p ≡ n = omega arith in rw (← q) e

  pub take-placed : (g : ℕ → A) (s n : ℕ) (x : List A) → s ≤ length x → take s (placed g s n x) ≡ take s x
  unfolding placed
  take-placed g s n x h = take_at (take s x) (written g n (drop s x)) s (length-take-le s x h)

  pub get_or-placed_before : (g : ℕ → A) (s n : ℕ) (x : List A) (j : ℕ) (d : A) → s ≤ length x → j < s → get_or (placed g s n x) j d ≡ get_or x j d
  get_or-placed_before g s n x j d h k =
      sym (get_or-take s (placed g s n x) j d k) ∙ ap (λ (l : List A). get_or l j d) (take-placed g s n x h) ∙ get_or-take s x j d k

  pub drop-placed : (g : ℕ → A) (s n : ℕ) (x : List A) → s ≤ length x → drop s (placed g s n x) ≡ written g n (drop s x)
  unfolding placed
  drop-placed g s n x h = drop_at (take s x) (written g n (drop s x)) s (length-take-le s x h)

  pub part_placed : (g : ℕ → A) (s n : ℕ) (x : List A) → s ≤ length x → take n (drop s (placed g s n x)) ≡ tab g n
  part_placed g s n x h = ap (take n) (drop-placed g s n x h) ∙ take-written g n (drop s x)

  pub get_or-placed_behind : (g : ℕ → A) (s n : ℕ) (x : List A) (j : ℕ) (d : A) → s ≤ length x → s + n ≤ j → get_or (placed g s n x) j d ≡ get_or x j d
  get_or-placed_behind g s n x j d h k =
      let r = j - (s + n) in
      let q : s + (n + r) ≡ j = omega arith in
      let f : (l : List A) → get_or l j d ≡ get_or (drop n (drop s l)) r d = λ l. ap (λ (i : ℕ). get_or l i d) (sym q) ∙ sym (get_or-drop s l (n + r) d) ∙ sym (get_or-drop n (drop s l) r d) in
      f (placed g s n x)
      ∙ ap (λ (l : List A). get_or (drop n l) r d) (drop-placed g s n x h)
      ∙ ap (λ (l : List A). get_or l r d) (drop-written g n (drop s x))
      ∙ sym (f x)
