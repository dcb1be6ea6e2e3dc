-- Laws of synthesis place by place: the pairs that reach place 2 k + e are k, k + 1 and so on, half as many as there are taps, by every second tap from the last of its parity down.
use Rattle.std.specs.Prelude.{◌≡◌, Float}
use Rattle.std.proofs.Math.Path.{refl, ap}
use Rattle.std.proofs.Common.{sym, ◌∙◌, add-suc, add-zero, le_refl}
use Prim.Native.Nat.{ℕ, zero, suc, ◌+◌, ◌-◌, ◌*◌, ◌≤◌, ◌<◌}
use native.Mathlib.Omega.{arith}
use Rattle.std.specs.Float.{Format}
use Rattle.numbers.specs.Tests.{cond_true, cond_false}
use Rattle.gathering.specs.Pairs.{onto}
use Rattle.gathering.specs.Works.{gathered}
use Rattle.synthesis.specs.Sums.{meets, joined}
use Rattle.synthesis.specs.Meets.{meets_yes, meets_before, meets_past}

module _ (f : Format) (low high a d : ℕ → Float) where
  module _ (h k e : ℕ) (held : Float) (some : 1 ≤ h) (parity : e < 2) where
    abbrev P : ℕ
    P = 2 * k + e + (2 * h - 2)

    abbrev after : ℕ → Float
    after n = joined f (2 * h) low high a d P held n

    abbrev come : ℕ → Float
    come s = gathered f low high a d (2 * h - 2 + e) k held s

    early : (n : ℕ) → n ≤ k → after n ≡ held
    unfolding joined
    early zero l = refl
    early (suc n) l = cond_false (meets (2 * h) P n) (onto f low high (P - 2 * n) (a n) (d n) (after n)) (after n) (meets_past (2 * h) P n (omega arith)) ∙ early n (omega arith)

    met : (s : ℕ) → s ≤ h → after (k + s) ≡ come s
    unfolding joined gathered
    met zero l = ap after (add-zero k) ∙ early k (le_refl k)
    met (suc s) l =
        let i = k + s in
        let t : P - 2 * i ≡ 2 * h - 2 + e - 2 * s = omega arith in
        ap after (add-suc k s)
        ∙ cond_true (meets (2 * h) P i) (onto f low high (P - 2 * i) (a i) (d i) (after i)) (after i) (meets_yes (2 * h) P i (omega arith) (omega arith))
        ∙ ap (λ (j : ℕ). onto f low high j (a i) (d i) (after i)) t
        ∙ ap (onto f low high (2 * h - 2 + e - 2 * s) (a i) (d i)) (met s (omega arith))

    late : (r : ℕ) → after (k + h + r) ≡ come h
    unfolding joined
    late zero = ap after (add-zero (k + h)) ∙ met h (le_refl h)
    late (suc r) =
        let i = k + h + r in
        ap after (add-suc (k + h) r)
        ∙ cond_false (meets (2 * h) P i) (onto f low high (P - 2 * i) (a i) (d i) (after i)) (after i) (meets_before (2 * h) P i (omega arith))
        ∙ late r

    -- all pairs of a band that holds them
    pub gathered_all : (m : ℕ) → k + h ≤ m → after m ≡ come h
    gathered_all m l = let q : k + h + (m - (k + h)) ≡ m = omega arith in ap after (sym q) ∙ late (m - (k + h))
