-- Laws of both mirrors: they hold at every place, within the line too, and give a sample of it; they have their period, either way; near the line they are Reflect and Reflect101.
use Rattle.std.specs.Prelude.{◌≡◌, refl, Bool, true, false, cond, ℕ, ◌+◌, ◌-◌, ◌*◌, ◌%◌, ◌≤◌, ◌<◌, ltb, eqb}
use Rattle.std.proofs.Common.{sym, ap, ◌∙◌, mod-eq_of_lt, le_refl, arith, lt-ltb, le-ltb, ltb-true, eqb-true}
use Rattle.std.proofs.Math.Nat.{mod-eq-sub-mod}
use Rattle.std.proofs.lemmas.Bool.{eqb-false}
use Rattle.border.specs.declared.Border.{Border}
use Rattle.border.specs.declared.Border.TheVariants.{Reflect, Reflect101, Mirror, Mirror101}
use Rattle.border.specs.declared.rule.Place.{Place}
use Rattle.border.specs.declared.rule.Place.TheVariants.{Before, At}
use Rattle.border.specs.Rule.{Sample, modulo, across, turned, folded, folded101, outside, source, place_in}
use Rattle.border.specs.Reach.{Near, Past}
use Rattle.border.specs.Rules.{modulo_period, turned_low}

-- ---- there and back
turned_there : (n top q : ℕ) → q < n → turned n top q ≡ q
turned_there n top q h = simp (lt-ltb q n h)

turned_back : (n top q : ℕ) → n ≤ q → turned n top q ≡ top - q
turned_back n top q h = simp (le-ltb q n h)

folded_line : (i n : ℕ) → i < n → folded (At i) n ≡ i
folded_line i n h = ap (turned n (2 * n - 1)) (mod-eq_of_lt (omega (arith, h))) ∙ turned_there n (2 * n - 1) i h

folded101_line : (i n : ℕ) → i < n → cond (eqb n 1) 0 (folded101 (At i) n) ≡ i
folded101_line i n h = go (eqb n 1) (eqb-true n 1) (eqb-false n 1)
  where
    go : (t : Bool) → (t ≡ true → n ≡ 1) → (t ≡ false → n ≡ 1 → ⊥) → cond t 0 (folded101 (At i) n) ≡ i
    go true y z = omega (arith, y refl, h)
    go false y z =
        let q : n ≡ 1 → ⊥ = z refl in
        ap (turned n (2 * (n - 1))) (mod-eq_of_lt (omega (arith, h))) ∙ turned_there n (2 * (n - 1)) i h

-- a rule that gives each place of the line itself, and stands outside it, stands everywhere
everywhere : (b : Border) (n : ℕ) (k : Place → ℕ) → ((p : Place) → outside b p n ≡ Sample (k p)) → ((i : ℕ) → i < n → k (At i) ≡ i) → (p : Place) → source b p n ≡ Sample (k p)
unfolding source
everywhere b n k out line (Before j) = out (Before j)
everywhere b n k out line (At i) = go (ltb i n) (ltb-true i n)
  where
    go : (t : Bool) → (t ≡ true → i < n) → cond t (Sample i) (outside b (At i) n) ≡ Sample (k (At i))
    go true y = ap Sample (sym (line i (y refl)))
    go false y = out (At i)

pub mirror_everywhere : (p : Place) (n : ℕ) → source Mirror p n ≡ Sample (folded p n)
mirror_everywhere p n = everywhere Mirror n (λ p. folded p n) (λ p. refl) (λ i h. folded_line i n h) p

pub mirror101_everywhere : (p : Place) (n : ℕ) → source Mirror101 p n ≡ Sample (cond (eqb n 1) 0 (folded101 p n))
mirror101_everywhere p n = everywhere Mirror101 n (λ p. cond (eqb n 1) 0 (folded101 p n)) (λ p. refl) (λ i h. folded101_line i n h) p

-- it is a sample of the line, however far the place
pub mirror_in : (p : Place) (n : ℕ) → 0 < n → folded p n < n
mirror_in p n h = turned_low n n (2 * n - 1) (modulo p (2 * n)) (le_refl n) (omega (arith, h))

pub mirror101_in : (p : Place) (n : ℕ) → 1 < n → folded101 p n < n
mirror101_in p n h = turned_low n n (2 * (n - 1)) (modulo p (2 * (n - 1))) (le_refl n) (omega (arith, h))

-- ---- periods: a place, and the one that is a period further on; either may lie in front of the line, in it or behind it
pub mirror_period : (n left q : ℕ) → 0 < n → source Mirror (place_in left (q + 2 * n)) n ≡ source Mirror (place_in left q) n
mirror_period n left q h =
    mirror_everywhere (place_in left (q + 2 * n)) n
    ∙ ap (λ (r : ℕ). Sample (turned n (2 * n - 1) r)) (modulo_period (2 * n) left q (omega (arith, h)))
    ∙ sym (mirror_everywhere (place_in left q) n)

pub mirror101_period : (n left q : ℕ) → 0 < n → source Mirror101 (place_in left (q + 2 * (n - 1))) n ≡ source Mirror101 (place_in left q) n
mirror101_period n left q h =
    mirror101_everywhere (place_in left (q + 2 * (n - 1))) n
    ∙ go (eqb n 1) (eqb-false n 1)
    ∙ sym (mirror101_everywhere (place_in left q) n)
  where
    go : (t : Bool) → (t ≡ false → n ≡ 1 → ⊥) → Sample (cond t 0 (folded101 (place_in left (q + 2 * (n - 1))) n)) ≡ Sample (cond t 0 (folded101 (place_in left q) n))
    go true z = refl
    go false z =
        let e : n ≡ 1 → ⊥ = z refl in
        ap (λ (r : ℕ). Sample (turned n (2 * (n - 1)) r)) (modulo_period (2 * (n - 1)) left q (omega (arith, h)))

-- ---- near the line
-- at most one length past either end
abbrev pub Once : Place → ℕ → Type 0
Once (Before k) n = k < n
Once (At i) n = i < 2 * n

-- within one length Mirror is Reflect
pub mirror_reflect : (p : Place) (n : ℕ) → Past p n → Once p n → outside Mirror p n ≡ outside Reflect p n
mirror_reflect (Before k) n o h =
    let far : k % (2 * n) ≡ k = mod-eq_of_lt (omega arith) in
    let near : k % n ≡ k = mod-eq_of_lt h in
    let e : 2 * n - 1 - (2 * n - 1 - k % (2 * n)) ≡ n - 1 - (n - 1 - k % n) = omega (arith, far, near) in
    ap Sample (turned_back n (2 * n - 1) (2 * n - 1 - k % (2 * n)) (omega (arith, far)) ∙ e)
mirror_reflect (At i) n o h =
    let far : i % (2 * n) ≡ i = mod-eq_of_lt h in
    let near : i % n ≡ i - n = mod-eq-sub-mod o ∙ mod-eq_of_lt (omega arith) in
    let e : 2 * n - 1 - i % (2 * n) ≡ n - 1 - i % n = omega (arith, far, near) in
    ap Sample (turned_back n (2 * n - 1) (i % (2 * n)) (omega (arith, far)) ∙ e)

-- as far as Reflect101 goes Mirror101 is Reflect101
pub mirror101_reflect101 : (p : Place) (n : ℕ) → 0 < n → Past p n → (1 < n → Near p n) → outside Mirror101 p n ≡ outside Reflect101 p n
mirror101_reflect101 p n some o near = go (eqb n 1) (eqb-false n 1)
  where
    fold : (p : Place) → Past p n → 1 < n → Near p n → folded101 p n ≡ across p n
    fold (Before k) o h v =
        let period = 2 * (n - 1) in
        let e : k % period ≡ k = mod-eq_of_lt (omega arith) in
        let f : period - (period - 1 - k % period) ≡ k + 1 = omega (arith, e) in
        turned_back n period (period - 1 - k % period) (omega (arith, e)) ∙ f
    fold (At i) o h v =
        let period = 2 * (n - 1) in
        let e : i % period ≡ i = mod-eq_of_lt (omega arith) in
        let f : period - i % period ≡ period - i = omega (arith, e) in
        turned_back n period (i % period) (omega (arith, e)) ∙ f

    go : (t : Bool) → (t ≡ false → n ≡ 1 → ⊥) → Sample (cond t 0 (folded101 p n)) ≡ Sample (cond t 0 (across p n))
    go true z = refl
    go false z = let e : n ≡ 1 → ⊥ = z refl in ap Sample (fold p o (omega (arith, some)) (near (omega (arith, some))))
