-- Laws of a number's first digit: the code's tests of it are the definition's.
use Rattle.std.specs.Prelude.{◌≡◌, Bool, true, false, ℕ, ◌-◌, ◌≤◌, ◌<◌}
use Rattle.std.proofs.Common.{subst, arith, lt-ltb, le-ltb}
use Rattle.phases.specs.declared.Phase.TheVariants.{Number, Broken}
use Rattle.phases.specs.Phases.{least, firstly}

module _ (negative : Bool) (c : ℕ) {l : ℕ} (e : l ≡ least negative) where
  pub first_low : c < l → Broken ≡ firstly negative c
  first_low h = simp (lt-ltb c (least negative) (subst (λ (k : ℕ). c < k) e h))

  pub first_high : l ≤ c → 57 < c → Broken ≡ firstly negative c
  first_high h t = simp (le-ltb c (least negative) (subst (λ (k : ℕ). k ≤ c) e h), lt-ltb 57 c t)

  pub first_digit : l ≤ c → c ≤ 57 → Number negative (c - 48) ≡ firstly negative c
  first_digit h t = simp (le-ltb c (least negative) (subst (λ (k : ℕ). k ≤ c) e h), le-ltb 57 c t)

  pub is_digit : l ≤ c → 48 ≤ c
  is_digit h = low negative (subst (λ (k : ℕ). k ≤ c) e h)
    where
      low : (negative : Bool) → least negative ≤ c → 48 ≤ c
      low true h = omega (arith, h)
      low false h = h
