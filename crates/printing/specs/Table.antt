-- The law of what an answer is by its number and values, as the table of RULES, Numbers has them: the promise fixes both.
use Rattle.std.specs.Prelude.{◌≡◌, refl, Bool, true, false, cond, List, [], ◌∷◌, ℕ, ltb, length, Result, Ok, Err}
use Rattle.std.proofs.Common.{ap, ◌∙◌}
use Rattle.printing.specs.declared.PrintError.{PrintError}
use Rattle.printing.specs.declared.PrintError.TheVariants.{InputSize, Limit}
use Rattle.printing.specs.Printings.{number_of, values_of, Printed}

-- an answer's number, then its values
abbrev told : Result ℕ PrintError → List ℕ
told r = number_of r ∷ values_of r

-- 11 carries nothing, 10 need and have, and 0 the text's length
pub printed_told : {over : Bool} {text out : List ℕ} {r : Result ℕ PrintError} {out' : List ℕ} → Printed over text out r out'
    → told r ≡ cond over (11 ∷ []) (cond (ltb (length out) (length text)) (10 ∷ length text ∷ length out ∷ []) (0 ∷ length text ∷ []))
printed_told {over} {text} {out} p = ap told p.answer ∙ go over (ltb (length out) (length text)) (length text) (length out)
  where
    go : (over short : Bool) (need have : ℕ) → told (cond over (Err Limit) (cond short (Err (InputSize need have)) (Ok need))) ≡ cond over (11 ∷ []) (cond short (10 ∷ need ∷ have ∷ []) (0 ∷ need ∷ []))
    go true short need have = refl
    go false true need have = refl
    go false false need have = refl
