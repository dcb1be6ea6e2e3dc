-- Laws of what the entry promises: any two outcomes that the promise admits are equal, since it is an equation of the answer and of both lent buffers.
use Rattle.std.specs.Prelude.{◌≡◌, List, ℕ, Result, ⊤, Float}
use Rattle.std.proofs.Common.{sym, ◌∙◌}
use Rattle.std.specs.Float.{Format}
use Rattle.border.specs.declared.Border.{Border}
use Rattle.analysis.specs.declared.AnalysisError.{AnalysisError}
use Rattle.direct_analysis.specs.Analyses.{Analysed}

pub unique_direct : {w : Format} {low high : List Float} {f : ℕ} {border : Border} {line approx detail : List Float} {r r' : Result ⊤ AnalysisError} {a d a' d' : List Float}
    → Analysed w low high f border line approx detail r a d → Analysed w low high f border line approx detail r' a' d' → (r ≡ r') × (a ≡ a') × (d ≡ d')
unique_direct p q = let e = p.answer ∙ sym q.answer in (e, (cc), (cc))
