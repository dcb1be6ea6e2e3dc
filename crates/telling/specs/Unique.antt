-- Laws of what is told: any two outcomes are equal, since each is an equation of the number and of the words; and where a promise admits one outcome, so does the promise told.
use Rattle.std.specs.Prelude.{◌≡◌, refl, Bool, true, false, List, ℕ}
use Rattle.std.proofs.Common.{sym, ap, ◌∙◌}
use Rattle.border.specs.declared.Border.{Border}
use Rattle.telling.specs.Told.{Told, ToldOf, carried_from}
use Rattle.telling.specs.Borders.{border_of, no_border, ToldUnder}

pub unique_told : {number : ℕ} {values words : List ℕ} {r r' : ℕ} {w w' : List ℕ}
    → Told number values words r w → Told number values words r' w' → (r ≡ r') × (w ≡ w')
unique_told p q = (p.given ∙ sym q.given, p.carried ∙ sym q.carried)

-- P and Q are one promise with two outcomes in it, and R says that these are the same
module _ {A : Type 0} {number : A → ℕ} {values : A → List ℕ} {words : List ℕ} {r r' : ℕ} {w w' : List ℕ} {R : Type 0} where
  pub unique_told_of : {P Q : A → Type 0} → ((a b : A) → r ≡ number a → P a → Q b → (a ≡ b) × R)
      → ToldOf number values P words r w → ToldOf number values Q words r' w' → (r ≡ r') × (w ≡ w') × R
  unique_told_of one p q =
      let u = one p.answer q.answer p.told.given p.promised q.promised in (
        p.told.given ∙ ap number u.0 ∙ sym q.told.given,
        p.told.carried ∙ ap (λ (a : A). carried_from 0 (values a) words) u.0 ∙ sym q.told.carried,
        u.1,
      )

  pub unique_told_under : {border : ℕ} {P Q : Border → A → Type 0} {S T : Type 0}
      → ((b : Border) (a a' : A) → r ≡ number a → P b a → Q b a' → (a ≡ a') × R) → (S → T → R)
      → ToldUnder border number values P S words r w → ToldUnder border number values Q T words r' w' → (r ≡ r') × (w ≡ w') × R
  unique_told_under {border} one none p q = go (no_border border) refl
    where
      go : (k : Bool) → no_border border ≡ k → (r ≡ r') × (w ≡ w') × R
      go false e = unique_told_of (one (border_of border)) (p.known e) (q.known e)
      go true e =
          let u = unique_told (p.unknown e).0 (q.unknown e).0 in
          (u.0, u.1, none (p.unknown e).1 (q.unknown e).1)

-- of a promise that speaks of the answer alone: the size questions, a level's part, a comparison
pub unique_answer_told : {A : Type 0} {number : A → ℕ} {values : A → List ℕ} {P : A → Type 0} {words : List ℕ} {r r' : ℕ} {w w' : List ℕ}
    → ((a b : A) → P a → P b → a ≡ b) → ToldOf number values P words r w → ToldOf number values P words r' w' → (r ≡ r') × (w ≡ w')
unique_answer_told {words = words} one p q = let u = unique_told_of {R = (words ≡ words)} (λ a b e x y. (one a b x y, refl)) p q in (u.0, u.1)
