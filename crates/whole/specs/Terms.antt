-- Laws of sums, by the number of their terms: terms can be compared, parted, taken in another order, and left out where they are nothing.
use Rattle.std.specs.Prelude.{◌≡◌, ◌≢◌, ℤ, ◌*ℤ◌}
use Rattle.std.proofs.Math.Path.{refl, sym, ap}
use Rattle.std.proofs.Common.{◌∙◌, add-zero, add-suc, lt-suc_self, zero-mul, add-mul as add-mul-ℕ}
use Prim.Native.Nat.{ℕ, zero, suc, ◌+◌, ◌-◌, ◌*◌, ◌<◌}
use Rattle.std.proofs.Math.Nat.{le_step}
use native.Mathlib.Omega.{arith}
use Rattle.std.proofs.Math.IntN.{zero-*ℤ, *ℤ-zero}
use Rattle.whole.specs.Sums.{Adding, naturals, integers, sum}
use Rattle.whole.specs.Integers.{add-mul, mul-add}

-- a map that keeps sums goes through them
through : {A B : Type 0} (P : Adding A) (Q : Adding B) (h : A → B) → h P.none ≡ Q.none → ((a b : A) → h (P.plus a b) ≡ Q.plus (h a) (h b))
    → (n : ℕ) (g : ℕ → A) → sum Q n (λ i. h (g i)) ≡ h (sum P n g)
unfolding sum
through P Q h z e zero g = sym z
through P Q h z e (suc n) g = ap (λ v. Q.plus v (h (g n))) (through P Q h z e n g) ∙ sym (e (sum P n g) (g n))

-- a factor does
pub factor : (k : ℤ) (n : ℕ) (g : ℕ → ℤ) → sum integers n (λ i. k *ℤ g i) ≡ k *ℤ sum integers n g
factor k = through integers integers (λ (v : ℤ). k *ℤ v) (*ℤ-zero k) (mul-add k)

pub factor_behind : (k : ℤ) (n : ℕ) (g : ℕ → ℤ) → sum integers n (λ i. g i *ℤ k) ≡ sum integers n g *ℤ k
factor_behind k = through integers integers (λ (v : ℤ). v *ℤ k) (zero-*ℤ k) (λ a b. add-mul a b k)

pub factor_ℕ : (k n : ℕ) (g : ℕ → ℕ) → sum naturals n (λ i. g i * k) ≡ sum naturals n g * k
factor_ℕ k = through naturals naturals (λ (v : ℕ). v * k) (zero-mul k) (λ a b. add-mul-ℕ a b k)

module _ {A : Type 0} (P : Adding A) where
  idr : (a : A) → P.plus a P.none ≡ a
  idr a = P.comm a P.none ∙ P.idl a

  pub middle : (a b c d : A) → P.plus (P.plus a b) (P.plus c d) ≡ P.plus (P.plus a c) (P.plus b d)
  middle a b c d =
      P.assoc a b (P.plus c d)
      ∙ ap (P.plus a) (sym (P.assoc b c d) ∙ ap (λ (v : A). P.plus v d) (P.comm b c) ∙ P.assoc c b d)
      ∙ sym (P.assoc a c (P.plus b d))

  -- terms that are alike
  pub alike : (n : ℕ) (g h : ℕ → A) → ((i : ℕ) → i < n → g i ≡ h i) → sum P n g ≡ sum P n h
  unfolding sum
  alike zero g h e = refl
  alike (suc n) g h e = ap (λ (v : A). P.plus v (g n)) (alike n g h (λ i k. e i (le_step k))) ∙ ap (P.plus (sum P n h)) (e n (lt-suc_self n))

  -- terms that are nothing
  pub nothing : (n : ℕ) (g : ℕ → A) → ((i : ℕ) → i < n → g i ≡ P.none) → sum P n g ≡ P.none
  unfolding sum
  nothing zero g e = refl
  nothing (suc n) g e = ap (λ (v : A). P.plus v (g n)) (nothing n g (λ i k. e i (le_step k))) ∙ P.idl (g n) ∙ e n (lt-suc_self n)

  -- two sums at once
  pub together : (n : ℕ) (g h : ℕ → A) → sum P n (λ i. P.plus (g i) (h i)) ≡ P.plus (sum P n g) (sum P n h)
  unfolding sum
  together zero g h = sym (P.idl P.none)
  together (suc n) g h = ap (λ (v : A). P.plus v (P.plus (g n) (h n))) (together n g h) ∙ middle (sum P n g) (sum P n h) (g n) (h n)

  -- a sum of sums
  pub exchange : (n m : ℕ) (g : ℕ → ℕ → A) → sum P n (λ i. sum P m (λ j. g i j)) ≡ sum P m (λ j. sum P n (λ i. g i j))
  unfolding sum
  exchange zero m g = sym (nothing m (λ j. P.none) (λ j h. refl))
  exchange (suc n) m g = ap (λ (v : A). P.plus v (sum P m (λ j. g n j))) (exchange n m g) ∙ sym (together m (λ j. sum P n (λ i. g i j)) (λ j. g n j))

  -- the first a terms and the b behind them
  parted : (a b : ℕ) (g : ℕ → A) → sum P (a + b) g ≡ P.plus (sum P a g) (sum P b (λ i. g (a + i)))
  unfolding sum
  parted a zero g = ap (λ (n : ℕ). sum P n g) (add-zero a) ∙ sym (idr (sum P a g))
  parted a (suc b) g =
      ap (λ (n : ℕ). sum P n g) (add-suc a b) ∙ ap (λ (v : A). P.plus v (g (a + b))) (parted a b g)
      ∙ P.assoc (sum P a g) (sum P b (λ i. g (a + i))) (g (a + b))

  -- terms behind the first a that are nothing
  pub cut : (a b : ℕ) (g : ℕ → A) → ((i : ℕ) → i < b → g (a + i) ≡ P.none) → sum P (a + b) g ≡ sum P a g
  cut a b g e = parted a b g ∙ ap (P.plus (sum P a g)) (nothing b (λ i. g (a + i)) e) ∙ idr (sum P a g)

  -- terms that are nothing outside b places from a on
  pub window : (a b c : ℕ) (g : ℕ → A) → ((i : ℕ) → i < a → g i ≡ P.none) → ((i : ℕ) → i < c → g (a + b + i) ≡ P.none)
      → sum P (a + b + c) g ≡ sum P b (λ i. g (a + i))
  window a b c g e k =
      cut (a + b) c g k ∙ parted a b g ∙ ap (λ (v : A). P.plus v (sum P b (λ i. g (a + i)))) (nothing a g e) ∙ P.idl (sum P b (λ i. g (a + i)))

  -- all but one
  pub only : (n p : ℕ) (g : ℕ → A) → p < n → ((i : ℕ) → i ≢ p → g i ≡ P.none) → sum P n g ≡ g p
  unfolding sum
  only n p g h e =
      ap (λ (m : ℕ). sum P m g) whole
      ∙ window p 1 (n - suc p) g (λ i k. e i (less i k)) (λ i k. e (p + 1 + i) (more i))
      ∙ P.idl (g (p + 0)) ∙ ap g (add-zero p)
    where
      whole : n ≡ p + 1 + (n - suc p)
      whole = omega arith

      less : (i : ℕ) → i < p → i ≢ p
      less i k = omega arith

      more : (i : ℕ) → p + 1 + i ≢ p
      more i = omega arith

  first : (n : ℕ) (g : ℕ → A) → sum P (suc n) g ≡ P.plus (g 0) (sum P n (λ i. g (suc i)))
  unfolding sum
  first zero g = P.comm P.none (g 0)
  first (suc n) g = ap (λ (v : A). P.plus v (g (suc n))) (first n g) ∙ P.assoc (g 0) (sum P n (λ i. g (suc i))) (g (suc n))

  -- from the last to the first
  pub reverse : (n : ℕ) (g : ℕ → A) → sum P n g ≡ sum P n (λ i. g (n - suc i))
  unfolding sum
  reverse zero g = refl
  reverse (suc n) g =
      P.comm (sum P n g) (g n)
      ∙ ap (P.plus (g n)) (reverse n g ∙ alike n (λ i. g (n - suc i)) (λ i. g (suc n - suc (suc i))) (λ i h. ap g (down n i)))
      ∙ sym (first n (λ i. g (suc n - suc i)) ∙ ap (λ (k : ℕ). P.plus (g k) (sum P n (λ i. g (suc n - suc (suc i))))) (top n))
    where
      down : (n i : ℕ) → n - suc i ≡ suc n - suc (suc i)
      down n i = omega arith

      top : (n : ℕ) → suc n - suc 0 ≡ n
      top n = omega arith

  -- the terms at even places and those at odd ones
  pub by_parity : (n : ℕ) (g : ℕ → A) → sum P (2 * n) g ≡ P.plus (sum P n (λ t. g (2 * t))) (sum P n (λ t. g (2 * t + 1)))
  unfolding sum
  by_parity zero g = sym (P.idl P.none)
  by_parity (suc n) g =
      ap (λ (k : ℕ). sum P k g) (two n)
      ∙ ap (λ (k : ℕ). P.plus (P.plus (sum P (2 * n) g) (g (2 * n))) (g k)) (one n)
      ∙ P.assoc (sum P (2 * n) g) (g (2 * n)) (g (2 * n + 1))
      ∙ ap (λ (v : A). P.plus v (P.plus (g (2 * n)) (g (2 * n + 1)))) (by_parity n g)
      ∙ middle (sum P n (λ t. g (2 * t))) (sum P n (λ t. g (2 * t + 1))) (g (2 * n)) (g (2 * n + 1))
    where
      two : (n : ℕ) → 2 * suc n ≡ suc (suc (2 * n))
      two n = omega arith

      one : (n : ℕ) → suc (2 * n) ≡ 2 * n + 1
      one n = omega arith
