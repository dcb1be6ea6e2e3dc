-- Laws of the float sums over whole taps and whole lines: they are the sums of the whole numbers, since no sum on the way is larger than the sizes of its terms together, and those stay within 2^prec.
use Rattle.std.specs.Prelude.{◌≡◌, refl, Bool, true, cond, ℤ, pos, ◌+ℤ◌, ◌*ℤ◌, Float}
use Rattle.std.proofs.Common.{sym, subst, le_trans, add-le-add, mul-le-mul_left, arith}
use Rattle.std.proofs.Math.Bool.{false}
use Prim.Native.Nat.{ℕ, zero, suc, ◌+◌, ◌-◌, ◌*◌, ◌^◌, ◌≤◌, ◌<◌}
use Rattle.std.proofs.Math.Nat.{le_refl}
use Rattle.std.proofs.Math.IntN.{nat_abs, +ℤ_assoc, +ℤ_idr}
use Rattle.std.specs.Float.{Format}
use Rattle.std.specs.Float.Ieee.{prec, add, mul}
use Rattle.whole.specs.Sums.{integers, naturals, sum}
use Rattle.whole.specs.Integers.{size_add, size_mul}
use Rattle.whole.specs.Floats.{Whole, Within}
use Rattle.whole.specs.Exact.{add_whole, mul_whole, zero_whole}
use Rattle.summing.specs.Sums.{dot}
use Rattle.gathering.specs.Pairs.{onto}
use Rattle.synthesis.specs.Sums.{meets, joined}
use Rattle.synthesis.specs.Meets.{reached}
use Rattle.exact.specs.Classes.{joins_ℤ}

-- one product onto a sum
step : (f : Format) (acc h x : Float) (z a b : ℤ) (w B : ℕ) → Within acc z w → Whole h a → Within x b B → w + nat_abs a * B ≤ 2 ^ prec f
    → Within (add f acc (mul f h x)) (z +ℤ a *ℤ b) (w + nat_abs a * B)
step f acc h x z a b w B p q r k =
    let v : nat_abs (a *ℤ b) ≤ nat_abs a * B = subst (λ (n : ℕ). n ≤ nat_abs a * B) (sym (size_mul a b)) (mul-le-mul_left (nat_abs a) r.1) in
    let s : nat_abs (z +ℤ a *ℤ b) ≤ w + nat_abs a * B = le_trans (size_add z (a *ℤ b)) (add-le-add p.1 v) in
    (add_whole f acc (mul f h x) z (a *ℤ b) p.0 (mul_whole f h x a b q r.0 (omega arith)) (le_trans s k), s)

-- a sum over taps and a line
module _ (f : Format) (tap x : ℕ → Float) (tapℤ xℤ : ℕ → ℤ) (A N : ℕ)
    (wt : (k : ℕ) → k < N → Whole (tap k) (tapℤ k)) (wx : (k : ℕ) → k < N → Within (x k) (xℤ k) A) where
  pub dot_within : (n : ℕ) → n ≤ N → sum naturals n (λ k. nat_abs (tapℤ k) * A) ≤ 2 ^ prec f
      → Within (dot f tap x n) (sum integers n (λ k. tapℤ k *ℤ xℤ k)) (sum naturals n (λ k. nat_abs (tapℤ k) * A))
  unfolding dot sum
  dot_within zero l h = (zero_whole false, le_refl 0)
  dot_within (suc n) l h =
      step f (dot f tap x n) (tap n) (x n) (sum integers n (λ k. tapℤ k *ℤ xℤ k)) (tapℤ n) (xℤ n) (sum naturals n (λ k. nat_abs (tapℤ k) * A)) A
      (dot_within n (omega arith) (omega arith)) (wt n l) (wx n l) h

-- what pair i can bring to padded place P in size, of bands no larger than B
abbrev pub weight : ℕ → (ℕ → ℤ) → (ℕ → ℤ) → ℕ → ℕ → ℕ → ℕ
weight F low high B P i = cond (meets F P i) (nat_abs (high (P - 2 * i)) * B + nat_abs (low (P - 2 * i)) * B) 0

-- a sum over the pairs, onto a zero
module _ (f : Format) (F : ℕ) (low high a d : ℕ → Float) (lowℤ highℤ aℤ dℤ : ℕ → ℤ) (B P : ℕ) (held : Float) (m : ℕ)
    (wl : (j : ℕ) → j < F → Whole (low j) (lowℤ j)) (wh : (j : ℕ) → j < F → Whole (high j) (highℤ j))
    (wa : (i : ℕ) → i < m → Within (a i) (aℤ i) B) (wd : (i : ℕ) → i < m → Within (d i) (dℤ i) B) (clear : Whole held (pos 0)) where
  pair_within : (t : Bool) (j i : ℕ) (acc : Float) (z : ℤ) (w : ℕ) → (t ≡ true → j < F) → i < m → Within acc z w
      → w + cond t (nat_abs (highℤ j) * B + nat_abs (lowℤ j) * B) 0 ≤ 2 ^ prec f
      → Within (cond t (onto f low high j (a i) (d i) acc) acc) (z +ℤ cond t (highℤ j *ℤ dℤ i +ℤ lowℤ j *ℤ aℤ i) (pos 0))
      (w + cond t (nat_abs (highℤ j) * B + nat_abs (lowℤ j) * B) 0)
  pair_within false j i acc z w in_use l p h = rw (+ℤ_idr z) (p.0, omega (arith, p.1))
  pair_within true j i acc z w in_use l p h =
      let u = nat_abs (highℤ j) * B in
      let q = step f acc (high j) (d i) z (highℤ j) (dℤ i) w B p (wh j (in_use refl)) (wd i l) (omega arith) in
      let r = step f (add f acc (mul f (high j) (d i))) (low j) (a i) (z +ℤ highℤ j *ℤ dℤ i) (lowℤ j) (aℤ i) (w + u) B q (wl j (in_use refl)) (wa i l) (omega arith) in
      rw (← (+ℤ_assoc z (highℤ j *ℤ dℤ i) (lowℤ j *ℤ aℤ i))) (r.0, omega (arith, r.1))

  pub join_within : (n : ℕ) → n ≤ m → sum naturals n (weight F lowℤ highℤ B P) ≤ 2 ^ prec f
      → Within (joined f F low high a d P held n) (sum integers n (joins_ℤ F lowℤ highℤ aℤ dℤ P)) (sum naturals n (weight F lowℤ highℤ B P))
  unfolding joined sum
  join_within zero l h = (clear, le_refl 0)
  join_within (suc n) l h =
      pair_within (meets F P n) (P - 2 * n) n (joined f F low high a d P held n) (sum integers n (joins_ℤ F lowℤ highℤ aℤ dℤ P)) (sum naturals n (weight F lowℤ highℤ B P))
      (reached F P n) l (join_within n (omega arith) (omega arith)) h
