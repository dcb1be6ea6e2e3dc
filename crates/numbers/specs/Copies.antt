-- Laws of a line that is copied in runs: eight stores in a row are one run, and the rest behind them makes it whole.
use Rattle.std.specs.Prelude.{◌≡◌, refl, List, ◌++◌, ℕ, ◌+◌, ◌-◌, ◌≤◌, length, take, drop, set, Float}
use Rattle.std.proofs.Common.{sym, ap, ◌∙◌, arith, length-drop, length-take-le}
use Rattle.std.specs.Float.{nan}
use Rattle.numbers.specs.Words.{at, tab, written, placed}
use Rattle.numbers.specs.Write.{placed_start, placed_step, tab_get_or}
use Rattle.numbers.specs.Places.{get_or_part}
use Rattle.numbers.specs.Runs.{placed_same, placed_more}

module _ {A : Type 0} (g : ℕ → A) (s : ℕ) (x : List A) where
  pub placed_eight : {v : A} → v ≡ g 0 → s + 8 ≤ length x
      → set (set (set (set (set (set (set (set x s v) (s + 1) (g 1)) (s + 2) (g 2)) (s + 3) (g 3)) (s + 4) (g 4)) (s + 5) (g 5)) (s + 6) (g 6)) (s + 7) (g 7) ≡ placed g s 8 x
  placed_eight {v} e h =
      let here : s ≡ s + 0 = omega arith in
      let one = ap (λ (k : ℕ). set x k v) here ∙ placed_step g s 0 x (omega arith) (placed_start g s x) e in
      let two = placed_step g s 1 x (omega arith) one refl in
      let three = placed_step g s 2 x (omega arith) two refl in
      let four = placed_step g s 3 x (omega arith) three refl in
      let five = placed_step g s 4 x (omega arith) four refl in
      let six = placed_step g s 5 x (omega arith) five refl in
      let seven = placed_step g s 6 x (omega arith) six refl in
      placed_step g s 7 x (omega arith) seven refl

-- n numbers of a line, then what lies behind them: the line
pub copied_on : (line x : List Float) (to n : ℕ) {x₁ x₂ : List Float} → let rest = take (length line - n) (drop n line) in n ≤ length line → to + length line ≤ length x
    → x₁ ≡ placed (at line) to n x → x₂ ≡ placed (at rest) (to + n) (length rest) x₁ → x₂ ≡ placed (at line) to (length line) x
copied_on line x to n {x₁} h k e₁ e₂ =
    let m = length line - n in
    let rest = take m (drop n line) in
    let l : length rest ≡ m = length-take-le m (drop n line) (simp length-drop (omega arith)) in
    let all : n + m ≡ length line = omega arith in
    e₂
    ∙ ap (λ (j : ℕ). placed (at rest) (to + n) j x₁) l
    ∙ placed_same (at rest) (to + n) x₁ (λ j. at line (n + j)) m (λ j b. get_or_part nan n m line j b)
    ∙ ap (placed (λ j. at line (n + j)) (to + n) m) e₁
    ∙ placed_more (at line) to x n m (omega arith)
    ∙ ap (λ (j : ℕ). placed (at line) to j x) all

-- a line of n put whole in the place of as many numbers, from `to` on
pub put_line : (line x : List Float) (to n : ℕ) → length line ≡ n → take to x ++ (line ++ drop (to + n - to) (drop to x)) ≡ placed (at line) to n x
unfolding placed written
put_line line x to n l =
    let e : to + n - to ≡ n = omega arith in
    ap (λ (m : ℕ). take to x ++ (line ++ drop m (drop to x))) e
    ∙ ap (λ (t : List Float). take to x ++ (t ++ drop n (drop to x))) (sym (tab_get_or line nan) ∙ ap (tab (at line)) l)
