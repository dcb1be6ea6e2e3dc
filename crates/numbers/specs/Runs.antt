-- Laws of a list that is written in runs of places: one run behind another is one run, and what was written may be told of the list as it then is.
use Rattle.std.specs.Prelude.{◌≡◌, refl, ℕ, zero, suc, ◌+◌, ◌≤◌, ◌<◌, length, set}
use Rattle.std.proofs.Common.{sym, ◌∙◌, zero-add, arith}
use Rattle.std.proofs.Math.Path.{ap}
use mathlib.Core.List.{List, ◌++◌}
use Rattle.std.proofs.Math.ListN.{take, drop}
use Rattle.numbers.specs.Words.{tab, written, placed}
use Rattle.numbers.specs.Write.{placed_start, placed_step, length-placed, drop-written}
use Rattle.numbers.specs.Places.{tab_same, placed_front}

module _ {A : Type 0} (g : ℕ → A) (s : ℕ) (x : List A) where
  -- m places behind n
  pub placed_more : (n m : ℕ) → s + n + m ≤ length x → placed (λ k. g (n + k)) (s + n) m (placed g s n x) ≡ placed g s (n + m) x
  placed_more n zero h =
      let q : n ≡ n + 0 = omega arith in
      sym (placed_start (λ k. g (n + k)) (s + n) (placed g s n x)) ∙ ap (λ (k : ℕ). placed g s k x) q
  placed_more n (suc m) h =
      let y = placed g s n x in
      let l : length y ≡ length x = length-placed g s n x (omega arith) in
      let there : s + n + m ≡ s + (n + m) = omega arith in
      let next : suc m ≡ m + 1 = omega arith in
      let last : n + m + 1 ≡ n + suc m = omega arith in
      ap (λ (k : ℕ). placed (λ k. g (n + k)) (s + n) k y) next
      ∙ sym (placed_step (λ k. g (n + k)) (s + n) m y (omega (arith, l)) refl refl)
      ∙ ap (λ (k : ℕ). set (placed (λ k. g (n + k)) (s + n) m y) k (g (n + m))) there
      ∙ placed_step g s (n + m) x (omega arith) (placed_more n m (omega arith)) refl
      ∙ ap (λ (k : ℕ). placed g s k x) last

  -- two rules that agree
  pub placed_same : (h : ℕ → A) (n : ℕ) → ((k : ℕ) → k < n → g k ≡ h k) → placed g s n x ≡ placed h s n x
  unfolding placed written
  placed_same h n e = ap (λ (l : List A). take s x ++ (l ++ drop n (drop s x))) (tab_same g h n e)

module _ {A : Type 0} (b : ℕ → A) where
  -- n places more, put in place at once
  pub written_run : (i n : ℕ) (x : List A) (g : ℕ → A) {l r : List A} → i + n ≤ length x → l ≡ written b i x
      → ((q : ℕ) → q < n → g q ≡ b (i + q)) → r ≡ placed g i n l → r ≡ written b (i + n) x
  written_run i n x g {l} h e eg er =
      er
      ∙ placed_same g i l (λ q. b (i + q)) n eg
      ∙ ap (placed (λ q. b (i + q)) i n) (e ∙ sym (placed_front b i x))
      ∙ ap (λ (k : ℕ). placed (λ q. b (i + q)) k n (placed b 0 i x)) (sym (zero-add i))
      ∙ placed_more b 0 x i n (omega arith)
      ∙ placed_front b (i + n) x

  -- the first r places, written again, change nothing
  pub written_again : (r : ℕ) (x : List A) {l : List A} → l ≡ written b r x → l ≡ written b r l
  unfolding written
  written_again r x {l} e = e ∙ ap (λ (y : List A). tab b r ++ y) (sym (ap (drop r) e ∙ drop-written b r x))
