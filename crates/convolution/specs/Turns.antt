-- Laws of the loops of convolution: one turn over a tap, one turn over a block of places, and that over a padded line the sums are the convolution.
use Rattle.std.specs.Prelude.{◌≡◌, Float, ◌+◌, ◌-◌, ◌<◌, ◌≤◌, suc, zero, ℕ, get_or, ℤ}
use Rattle.std.proofs.Math.Path.{refl, ap}
use Rattle.std.proofs.Common.{sym, ◌∙◌, add-zero, arith, ext_get_or, get_or-take, length-take-le, take_all}
use Rattle.std.specs.Float.{Format, nan}
use Rattle.std.specs.Float.Ieee.{add, mul}
use Rattle.border.specs.declared.Border.{Border}
use Rattle.convolution.specs.Sums.{convolved, convolution}
use Rattle.numbers.specs.Words.{at, placed, replaced, tab, written, plus_zero}
use Rattle.numbers.specs.Write.{get_or-placed_before, get_or-tab, length-placed, length-tab, take-written, tab_get_or, written_all}
use Rattle.std.proofs.Math.ListN.{length, take, drop}
use mathlib.Core.List.{List, ◌++◌}
use Rattle.border.specs.Rule.{padded}
use Rattle.convolution.specs.Pads.{left_pad}
use Rattle.numbers.specs.Places.{get_or-placed_in, tab_same, placed_front}
use Rattle.std.proofs.Math.Decide.{dec_lt}
use Rattle.convolution.specs.Works.{Summed, kernel_sum, more, place_of, product, sum_from}

-- a loop over the taps: the first product, and one more tap
sum_start : (f : Format) (kernel line : List Float) (x : ℕ) {r : Float} → r ≡ mul f (at line x) (at kernel 0) → r ≡ kernel_sum f kernel line x (1 - 1)
unfolding kernel_sum convolved
sum_start f kernel line x e = e ∙ ap (λ (k : ℕ). mul f (at line k) (at kernel 0)) (sym (add-zero x))

sum_step : (f : Format) (kernel line : List Float) (x i : ℕ) {k r : Float} → 0 < i → k ≡ kernel_sum f kernel line x (i - 1)
    → r ≡ add f k (mul f (at line (x + i)) (at kernel i)) → r ≡ kernel_sum f kernel line x (i + 1 - 1)
unfolding kernel_sum convolved
sum_step f kernel line x zero h e q = absurd (omega arith)
sum_step f kernel line x (suc j) h e q =
    let p : suc j - 1 ≡ j = omega arith in
    let n : suc j + 1 - 1 ≡ suc j = omega arith in
    q ∙ ap (λ (z : Float). add f z (mul f (at line (x + suc j)) (at kernel (suc j)))) (e ∙ ap (kernel_sum f kernel line x) p)
    ∙ sym (ap (kernel_sum f kernel line x) n)

-- the same at n places together, and all of the taps
pub sums_start : (f : Format) (kernel line : List Float) (x n : ℕ) {r : List Float} → r ≡ tab (product f line x (at kernel 0)) n
    → (length r ≡ n) × (r ≡ tab (sum_from f kernel line x (1 - 1)) (length r))
sums_start f kernel line x n e =
    let g = product f line x (at kernel 0) in
    let l = ap length e ∙ length-tab g n in
    (l, e ∙ ap (tab g) (sym l) ∙ tab_same g (sum_from f kernel line x (1 - 1)) _ (λ q l. sum_start f kernel line (x + q) refl))

pub sums_step : (f : Format) (kernel line : List Float) (x i n : ℕ) {k r : List Float} → 0 < i → length k ≡ n → k ≡ tab (sum_from f kernel line x (i - 1)) n
    → r ≡ tab (more f k line (x + i) (at kernel i)) (length k) → (length r ≡ n) × (r ≡ tab (sum_from f kernel line x (i + 1 - 1)) n)
sums_step f kernel line x i n {k} h lk e q =
    let g = more f k line (x + i) (at kernel i) in
    let was = sum_from f kernel line x (i - 1) in (
      ap length q ∙ length-tab g (length k) ∙ lk,
      q ∙ ap (tab g) lk
          ∙ tab_same g (sum_from f kernel line x (i + 1 - 1)) n
          (λ p l.
          let there : x + i + p ≡ x + p + i = omega arith in
          sum_step f kernel line (x + p) i h (ap (λ (z : List Float). at z p) e ∙ get_or-tab was n p nan l)
          (ap (λ (j : ℕ). add f (at k p) (mul f (at line j) (at kernel i))) there)),
    )

pub sums_end : (f : Format) (kernel line : List Float) (x i n m : ℕ) {k : List Float} → n ≡ m → k ≡ tab (sum_from f kernel line x (i - 1)) n → i ≤ length kernel → length kernel ≤ i
    → k ≡ tab (λ q. place_of f kernel line (x + q)) m
sums_end f kernel line x i n m c e h l =
    let q : i ≡ length kernel = omega arith in
    e ∙ ap (λ (j : ℕ). tab (sum_from f kernel line x (j - 1)) n) q ∙ ap (tab (λ q. place_of f kernel line (x + q))) c

module _ {A : Type 0} (nothing : A) (g : ℕ → A) where
  -- n places from p on as g has them, by way of another list that holds these
  pub put : (p n : ℕ) (l : List A) {r ys : List A} → ys ≡ tab (λ q. g (p + q)) n → r ≡ placed (λ k. get_or ys k nothing) p (length ys) l → r ≡ replaced g p n l
  unfolding placed written
  put p n l {r} {ys} e q =
      q
      ∙ ap (λ (z : List A). take p l ++ (z ++ drop (length ys) (drop p l))) (tab_get_or ys nothing ∙ e)
      ∙ ap (λ (k : ℕ). take p l ++ (tab (λ q. g (p + q)) n ++ drop k (drop p l))) (ap length e ∙ length-tab (λ q. g (p + q)) n)

  -- a list whose first x places are as g has them: none, n more from x on or from before it, and all
  pub first_none : (l : List A) → take 0 l ≡ tab g 0
  unfolding tab
  first_none l = refl

  pub first_more : (x p n : ℕ) (l : List A) {r : List A} → p ≤ x → x ≤ p + n → p + n ≤ length l → take x l ≡ tab g x → r ≡ replaced g p n l
      → take (p + n) r ≡ tab g (p + n)
  first_more x p n l {r} a b c e q =
      ext_get_or nothing (take (p + n) r) (tab g (p + n)) (lr ∙ sym (length-tab g (p + n)))
      (λ j k. let h : j < p + n = omega (arith, lr) in
      get_or-take (p + n) r j nothing h ∙ ap (λ (y : List A). get_or y j nothing) q ∙ go j h (dec_lt j p) ∙ sym (get_or-tab g (p + n) j nothing h))
    where
      g' : ℕ → A
      g' k = g (p + k)

      lr : length (take (p + n) r) ≡ p + n
      lr = length-take-le (p + n) r (omega (arith, ap length q ∙ length-placed g' p n l c))

      go : (j : ℕ) → j < p + n → Dec (j < p) → get_or (replaced g p n l) j nothing ≡ g j
      go j h (yes u) =
          get_or-placed_before g' p n l j nothing (omega arith) u ∙ sym (get_or-take x l j nothing (omega arith)) ∙ ap (λ (y : List A). get_or y j nothing) e
          ∙ get_or-tab g x j nothing (omega arith)
      go j h (no u) =
          let there : p + (j - p) ≡ j = omega arith in
          ap (λ (i : ℕ). get_or (replaced g p n l) i nothing) (sym there) ∙ get_or-placed_in g' p n l (j - p) nothing c (omega arith) ∙ ap g there

  pub first_all : (x n : ℕ) (l : List A) → x ≡ n → length l ≡ n → take x l ≡ tab g x → l ≡ tab g n
  first_all x n l a b e = sym (take_all x l (omega arith)) ∙ e ∙ ap (tab g) a

-- no place of an output is done yet
pub summed_none : (f : Format) (kernel line out : List Float) → Summed f kernel line 0 out
summed_none f kernel line out = first_none nan (place_of f kernel line) out

-- lines that agree under the kernel have one sum
convolved_same : (f : Format) (tap x y : ℕ → Float) (n : ℕ) → ((i : ℕ) → i ≤ n → x i ≡ y i) → convolved f tap x n ≡ convolved f tap y n
unfolding convolved
convolved_same f tap x y zero h = ap (λ (v : Float). mul f v (tap 0)) (h 0 (omega arith))
convolved_same f tap x y (suc n) h =
    ap (λ (v : Float). add f v (mul f (x (suc n)) (tap (suc n)))) (convolved_same f tap x y n (λ i l. h i (omega arith)))
    ∙ ap (λ (v : Float). add f (convolved f tap y n) (mul f v (tap (suc n)))) (h (suc n) (omega arith))

-- the sums over the padded line at the front of the scratch are the convolution of the samples
pub of_samples_lem : (f : Format) (b : Border) (s kernel line scratch : List Float) (c : ℤ) (N : ℕ) → 0 < length kernel
    → line ≡ take N (written (padded plus_zero b s (left_pad (length kernel) c)) N scratch) → length s + length kernel ≤ N + 1
    → tab (place_of f kernel line) (length s) ≡ convolution f b s kernel c
unfolding convolution kernel_sum
of_samples_lem f b s kernel line scratch c N some e h =
    let g : ℕ → Float = padded plus_zero b s (left_pad (length kernel) c) in
    tab_same (place_of f kernel line) (λ x. convolved f (at kernel) (λ i. g (x + i)) (length kernel - 1)) (length s)
    (λ x l. convolved_same f (at kernel) (λ i. at line (x + i)) (λ i. g (x + i)) (length kernel - 1)
    (λ i k. ap (λ (y : List Float). at y (x + i)) (e ∙ take-written g N scratch) ∙ get_or-tab g N (x + i) nan (omega arith)))

-- a line that is copied over a list as long is the line
pub copied : (line out : List Float) {r : List Float} → length out ≡ length line → r ≡ placed (at line) 0 (length line) out → r ≡ line
copied line out e h =
    h ∙ placed_front (at line) (length line) out ∙ ap (λ (k : ℕ). written (at line) k out) (sym e) ∙ written_all (at line) out
    ∙ ap (tab (at line)) e ∙ tab_get_or line nan
