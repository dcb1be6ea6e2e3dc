-- The law of both engines: they answer the same and leave the same, NaN as NaN, done or refused, since both promise one record, and it admits one outcome.
use Rattle.std.specs.Prelude.{◌≡◌, List, ℕ, Result, ⊤, Float}
use Rattle.std.specs.Float.{Format}
use Rattle.synthesis.specs.declared.SynthesisError.{SynthesisError}
use Rattle.synthesis.specs.Syntheses.{Synthesised}
use Rattle.synthesis.specs.Unique.{unique_synthesise}

-- r and o are the first engine's, r' and o' the second's
pub same_line : {w : Format} {low high : List Float} {f : ℕ} {approx detail out : List Float} {r r' : Result ⊤ SynthesisError} {o o' : List Float}
    → Synthesised w low high f approx detail out r o → Synthesised w low high f approx detail out r' o' → (r ≡ r') × (o ≡ o')
same_line p q = unique_synthesise p q
