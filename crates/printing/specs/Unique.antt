-- The law of what both entries promise: any two outcomes that the promise admits are equal, since it is an equation of the answer and of the buffer.
use Rattle.std.specs.Prelude.{◌≡◌, Bool, List, ℕ, Result}
use Rattle.std.proofs.Common.{sym, ◌∙◌}
use Rattle.printing.specs.declared.PrintError.{PrintError}
use Rattle.printing.specs.Printings.{Printed}

pub unique_printed : {over : Bool} {text out : List ℕ} {r r' : Result ℕ PrintError} {o o' : List ℕ} → Printed over text out r o → Printed over text out r' o' → (r ≡ r') × (o ≡ o')
unique_printed p q = let e = p.answer ∙ sym q.answer in (e, (cc))
