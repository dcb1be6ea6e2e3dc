-- Laws of what the entries promise: any two outcomes that a promise admits are equal, since each is an equation of the answer and of every lent buffer.
use Rattle.std.specs.Prelude.{◌≡◌, List, ℕ, Result, ⊤, Float}
use Rattle.std.proofs.Common.{sym, ◌∙◌}
use Rattle.std.specs.Float.{Format}
use Rattle.synthesis.specs.declared.SynthesisError.{SynthesisError}
use Rattle.synthesis.specs.Syntheses.{Synthesised}

pub unique_synthesise : {w : Format} {low high : List Float} {f : ℕ} {approx detail out : List Float} {r r' : Result ⊤ SynthesisError} {o o' : List Float}
    → Synthesised w low high f approx detail out r o → Synthesised w low high f approx detail out r' o' → (r ≡ r') × (o ≡ o')
unique_synthesise p q = let e = p.answer ∙ sym q.answer in (e, (cc))
