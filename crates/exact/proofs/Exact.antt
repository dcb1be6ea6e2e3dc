-- Laws of a mirror bank: restoring is exact (`exact`), in every format and under every border, since its taps are four lists, the same pair twice, that meet the second statement's premises.
use Rattle.std.specs.Prelude.{◌≡◌, refl, Bool, true, false, cond, List, ℕ, suc, ◌+◌, ◌-◌, ◌*◌, ◌/◌, ◌%◌, ◌^◌, ◌≤◌, ◌<◌, eqb, length, ℤ, pos, neg_ℤ, nat_abs, ◌*ℤ◌, Float}
use Rattle.std.proofs.Common.{sym, ap, ◌∙◌, subst, arith}
use Rattle.std.specs.Float.{Format}
use Rattle.std.specs.Float.Ieee.{prec}
use Rattle.numbers.specs.Words.{tab}
use Rattle.numbers.specs.Write.{length-tab, get_or-tab}
use Rattle.whole.specs.Sums.{integers, naturals, sum, sizes_of}
use Rattle.whole.specs.Terms.{alike, reverse}
use Rattle.whole.specs.Integers.{size_neg}
use Rattle.whole.specs.Floats.{at_ℤ}
use Rattle.bank.specs.Banks.{alternate, mirror_of}
use Rattle.exact.specs.Restoring.{squares, sizes, mirror, Premises, RestoringIsExact, largest_sizes, WholeTaps, PairPremises}
use Rattle.exact.specs.Classes.{Restores}
use Rattle.exact.specs.Mirror.{mirror_restores}
use Rattle.exact.specs.Distances.{restores_here, restores_apart}
use Rattle.exact.proofs.Four.{taps_past, pairs_exact}

-- the high taps as whole numbers
abbrev highs : List ℤ → List ℤ
highs z = tab (mirror z) (length z)

highs_at : (z : List ℤ) (j : ℕ) → j < length z → at_ℤ (highs z) j ≡ mirror z j
highs_at z j h = get_or-tab (mirror z) (length z) j (pos 0) h

size_alternate : (j : ℕ) (z : ℤ) → nat_abs (alternate neg_ℤ j z) ≡ nat_abs z
size_alternate j z = go (eqb (j % 2) 0)
  where
    go : (t : Bool) → nat_abs (cond t z (neg_ℤ z)) ≡ nat_abs z
    go true = refl
    go false = size_neg z

-- they weigh what the low taps weigh
highs_weigh : (z : List ℤ) → sizes (highs z) ≡ sizes z
highs_weigh z =
    ap (λ (n : ℕ). sizes_of n (at_ℤ (highs z))) (length-tab (mirror z) (length z))
    ∙ alike naturals (length z) (λ j. nat_abs (at_ℤ (highs z) j)) (λ j. nat_abs (at_ℤ z (length z - suc j)))
    (λ j l. ap nat_abs (highs_at z j l) ∙ size_alternate j (at_ℤ z (length z - 1 - j)) ∙ ap (λ (i : ℕ). nat_abs (at_ℤ z i)) (there (length z) j))
    ∙ sym (reverse naturals (length z) (λ j. nat_abs (at_ℤ z j)))
  where
    there : (n j : ℕ) → n - 1 - j ≡ n - suc j
    there n j = omega arith

-- what the first statement asks for meets the second's premises, by the same pair both ways
module _ (f : Format) (g : ℕ) (low high s : List Float) (z v : List ℤ) (A : ℕ) (x : Premises f (2 * g) low high s z v A) where
  lows_are : WholeTaps (2 * g) low z
  lows_are = record { holds = x.lows; told = x.told }

  highs_are : WholeTaps (2 * g) high (highs z)
  highs_are = record {
    holds = record {
      whole = λ j h.
          let l : j < length z = omega (arith, length-tab (mirror z) (length z)) in
          rw (highs_at z j l) (x.highs j (omega (arith, x.told)));
    };
    told = length-tab (mirror z) (length z) ∙ x.told;
  }

  restores : Restores g (squares z) (at_ℤ z) (at_ℤ (highs z)) (at_ℤ z) (at_ℤ (highs z))
  restores =
      mirror_restores g (at_ℤ z) (taps_past z lows_are.told) (squares z)
      (ap (λ (n : ℕ). sum integers n (λ j. at_ℤ z j *ℤ at_ℤ z j)) (sym x.told))
      (λ k h. subst (λ (n : ℕ). sum integers n (λ j. at_ℤ z j *ℤ at_ℤ z (j + 2 * k)) ≡ pos 0) x.told (x.apart k (omega arith)))
      (at_ℤ (highs z))
      (λ j h. highs_at z j (omega (arith, x.told)) ∙ ap (λ (n : ℕ). mirror_of neg_ℤ (at_ℤ z) n j) x.told)
      (taps_past (highs z) highs_are.told) (omega (arith, x.taps.two))

  -- the heaviest list is as heavy as the low taps
  heaviest : largest_sizes z (highs z) z (highs z) ≡ sizes z
  heaviest = omega (arith, highs_weigh z)

  twice : PairPremises f (2 * g) low high low high s z (highs z) z (highs z) v (squares z) A
  twice = record {
    taps = x.taps;
    there_low = lows_are;
    there_high = highs_are;
    back_low = lows_are;
    back_high = highs_are;
    here = restores_here g (squares z) z (highs z) z (highs z) lows_are.told highs_are.told restores;
    apart = restores_apart g (squares z) z (highs z) z (highs z) lows_are.told highs_are.told restores;
    samples = x.samples;
    count = x.count;
    enough = x.enough;
    limit = x.limit;
    one = x.one;
    small = x.small;
    bound = subst (λ (T : ℕ). 2 * A * T * T ≤ 2 ^ prec f) (sym heaviest) x.bound;
  }

pub exact : (f : Format) → RestoringIsExact f
exact f b F low high s out z v A x =
    let g = F / 2 in
    let e : 2 * g ≡ F = omega (arith, x.taps.even) in
    pairs_exact f b F low high low high s out z (highs z) z (highs z) v (squares z) A
    (subst (λ (n : ℕ). PairPremises f n low high low high s z (highs z) z (highs z) v (squares z) A) e
    (twice f g low high s z v A (subst (λ (n : ℕ). Premises f n low high s z v A) (sym e) x)))
