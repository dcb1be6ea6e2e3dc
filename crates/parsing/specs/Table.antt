-- Laws of what an answer is by its number and values, as the table of RULES, Numbers has them: the promise fixes both.
use Rattle.std.specs.Prelude.{◌≡◌, refl, Bool, true, false, cond, List, [], ◌∷◌, ℕ, ltb, length, Result, Ok, Err, Float}
use Rattle.std.proofs.Common.{ap, ◌∙◌}
use Rattle.texts.specs.Texts.{Request, Stands}
use Rattle.parsing.specs.declared.Request as parsed
use Rattle.parsing.specs.declared.ParseError.{ParseError}
use Rattle.parsing.specs.declared.ParseError.TheVariants.{InputSize}
use Rattle.parsing.specs.Parses.{number_of, values_of, numbers_of, request, TextParsed}

-- an answer's number, then its values
abbrev told : Result parsed.Request ParseError → List ℕ
told r = number_of r ∷ values_of r

module _ {text : List ℕ} {numbers : List Float} {r : Result parsed.Request ParseError} {numbers' : List Float} (p : TextParsed text numbers r numbers') where
  -- 10 carries need and have, and 0 how many numbers each list has
  pub parsed_told : (q : Request) → Stands q text
      → told r ≡ cond (ltb (length numbers) (length (numbers_of q))) (10 ∷ length (numbers_of q) ∷ length numbers ∷ []) (0 ∷ length q.low ∷ length q.high ∷ length q.samples ∷ [])
  parsed_told q s = ap told (p.answer q s) ∙ go (ltb (length numbers) (length (numbers_of q))) (length (numbers_of q)) (length numbers)
    where
      go : (short : Bool) (need have : ℕ) → told (cond short (Err (InputSize need have)) (Ok (request q.border (length q.low) (length q.high) (length q.samples))))
          ≡ cond short (10 ∷ need ∷ have ∷ []) (0 ∷ length q.low ∷ length q.high ∷ length q.samples ∷ [])
      go true need have = refl
      go false need have = refl

  -- 14 carries nothing
  pub unreadable_told : ((q : Request) → Stands q text → ⊥) → told r ≡ 14 ∷ []
  unreadable_told f = ap told (p.unreadable f)
