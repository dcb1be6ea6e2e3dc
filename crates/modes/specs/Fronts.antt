-- Laws of the loops over a name and over the borders: up to here the two are alike, or none was found, so the rest decides.
use Rattle.std.specs.Prelude.{◌≡◌, refl, Bool, true, false, cond, ◌&&◌, ℕ, zero, suc, ◌+◌, ◌≤◌, ◌<◌, eqb, length, get_or, Option, Some, None}
use Rattle.std.proofs.Common.{sym, ◌∙◌, arith, eq-eqb, ne_eqb, eqb-true, drop_of_length-le}
use Rattle.std.proofs.lemmas.Bool.{eqb-false}
use Rattle.std.specs.Bool.{then_some}
use Rattle.std.specs.Cmp.Lexicographic.{pointwise}
use Rattle.std.proofs.Math.Path.{ap}
use mathlib.Core.List.{List, [], ◌∷◌}
use Rattle.std.proofs.Math.ListN.{drop, take}
use Rattle.border.specs.declared.Border.{Border}
use Rattle.modes.specs.Names.{begins, front, mode_text, found, found_in}

-- the rest of a list begins with what stands at its place
pub drop_at : {A : Type 0} (text : List A) (at : ℕ) (d : A) → at < length text → drop at text ≡ get_or text at d ∷ drop (suc at) text
drop_at [] at d h = absurd (omega (arith, h))
drop_at (c ∷ text) zero d h = refl
drop_at (c ∷ text) (suc at) d h = drop_at text at d (omega (arith, h))

eqb_turned : (a b : ℕ) → eqb a b ≡ eqb b a
eqb_turned a b = go (eqb b a) refl
  where
    go : (t : Bool) → eqb b a ≡ t → eqb a b ≡ t
    go true e = eq-eqb a b (sym (eqb-true b a e))
    go false e = ne_eqb a b (λ h. eqb-false b a e (sym h))

-- the library's test of a front
pub begins_with : (name text : List ℕ) → pointwise eqb name (take (length name) text) ≡ begins name text
unfolding begins
begins_with [] text = refl
begins_with (x ∷ name) [] = refl
begins_with (x ∷ name) (y ∷ text) = let e = eqb_turned x y in let f = begins_with name text in cc

module _ (text name : List ℕ) (i : ℕ) (s : begins (drop i name) (drop i text) ≡ begins name text) where
  pub begins_all : length name ≤ i → true ≡ begins name text
  unfolding begins
  begins_all h = ap (λ (l : List ℕ). begins l (drop i text)) (sym (drop_of_length-le name h)) ∙ s

  pub begins_short : i < length name → length text ≤ i → false ≡ begins name text
  unfolding begins
  begins_short h l = ap (begins (get_or name i 0 ∷ drop (suc i) name)) (sym (drop_of_length-le text l)) ∙ ap (λ (k : List ℕ). begins k (drop i text)) (sym (drop_at name i 0 h)) ∙ s

  -- both have a byte here
  here : i < length name → i < length text → eqb (get_or text i 0) (get_or name i 0) && begins (drop (suc i) name) (drop (suc i) text) ≡ begins name text
  unfolding begins
  here h l = ap (begins (get_or name i 0 ∷ drop (suc i) name)) (sym (drop_at text i 0 l)) ∙ ap (λ (k : List ℕ). begins k (drop i text)) (sym (drop_at name i 0 h)) ∙ s

  pub begins_other : i < length name → i < length text → (get_or text i 0 ≡ get_or name i 0 → ⊥) → false ≡ begins name text
  begins_other h l n = ap (λ (b : Bool). b && begins (drop (suc i) name) (drop (suc i) text)) (sym (ne_eqb _ _ n)) ∙ here h l

  pub begins_more : i < length name → i < length text → get_or text i 0 ≡ get_or name i 0 → begins (drop (i + 1) name) (drop (i + 1) text) ≡ begins name text
  begins_more h l e =
      let one : i + 1 ≡ suc i = omega arith in
      ap (λ (k : ℕ). begins (drop k name) (drop k text)) one ∙ ap (λ (b : Bool). b && begins (drop (suc i) name) (drop (suc i) text)) (sym (eq-eqb _ _ e)) ∙ here h l

-- a border's line is where the text begins with it
module _ (text : List ℕ) (b : Border) (others : List Border) {r : Option ℕ} (e : r ≡ front (mode_text b) text) where
  pub found_here : {next : ℕ} → r ≡ Some next → found b next ≡ found_in text (b ∷ others)
  found_here {next} h = go (begins (mode_text b) text) (sym h ∙ e)
    where
      go : (t : Bool) → Some next ≡ then_some t (length (mode_text b)) → found b next ≡ cond t (found b (length (mode_text b))) (found_in text others)
      go true q = cc
      go false q = cc

  pub found_later : r ≡ None → found_in text (b ∷ others) ≡ found_in text others
  found_later h = go (begins (mode_text b) text) (sym h ∙ e)
    where
      go : (t : Bool) → None ≡ then_some t (length (mode_text b)) → cond t (found b (length (mode_text b))) (found_in text others) ≡ found_in text others
      go true q = cc
      go false q = refl
