-- Laws of telling: what is told of an answer holds by any name of it, and a promise under a border's number is kept in one of two ways.
use Rattle.std.specs.Prelude.{◌≡◌, true, false, List, [], ◌∷◌, ℕ}
use Rattle.std.proofs.Common.{sym, ap, ◌∙◌, subst, true≢false}
use Rattle.border.specs.declared.Border.{Border}
use Rattle.telling.specs.Told.{Told, ToldOf, carried_from}
use Rattle.telling.specs.Borders.{border_of, no_border, ToldUnder}

-- what is told holds by any names of the number and of the values
pub retold : {number number' : ℕ} {values values' words words' : List ℕ} {r : ℕ} → number ≡ number' → values ≡ values'
    → Told number values words r words' → Told number' values' words r words'
retold {words = words} e q t = record { given = t.given ∙ e; carried = t.carried ∙ ap (λ (v : List ℕ). carried_from 0 v words) q }

-- and of the answer
pub told_as : {A : Type 0} (number : A → ℕ) (values : A → List ℕ) {a b : A} {words words' : List ℕ} {r : ℕ}
    → a ≡ b → Told (number b) (values b) words r words' → Told (number a) (values a) words r words'
told_as number values e t = retold (ap number (sym e)) (ap values (sym e)) t

-- ---- a promise, told
pub told_of : {A : Type 0} {number : A → ℕ} {values : A → List ℕ} {promise : A → Type 0} {words words' : List ℕ} {r : ℕ} (a : A)
    → promise a → Told (number a) (values a) words r words' → ToldOf number values promise words r words'
told_of a p t = record { answer = a; promised = p; told = t }

-- under a border's number, which names a border or does not
module _ {border : ℕ} {A : Type 0} {number : A → ℕ} {values : A → List ℕ} {promise : Border → A → Type 0} {unchanged : Type 0} {words words' : List ℕ} {r : ℕ} where
  pub under : {b : Border} (a : A) → no_border border ≡ false → b ≡ border_of border → promise b a → Told (number a) (values a) words r words'
      → ToldUnder border number values promise unchanged words r words'
  under a e named p t = record {
    known = λ q. told_of a (subst (λ (k : Border). promise k a) named p) t;
    unknown = λ q. absurd (true≢false (sym q ∙ e));
  }

  pub hidden : no_border border ≡ true → Told 26 (border ∷ []) words r words' → unchanged → ToldUnder border number values promise unchanged words r words'
  hidden e t same = record { known = λ q. absurd (true≢false (sym e ∙ q)); unknown = λ q. (t, same) }
