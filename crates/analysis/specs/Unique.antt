-- Laws of what the entries promise: any two outcomes that a promise admits are equal, since each is an equation of the answer and of every lent buffer.
use Rattle.std.specs.Prelude.{◌≡◌, List, ℕ, Result, ⊤, Float}
use Rattle.std.proofs.Common.{sym, ◌∙◌}
use Rattle.std.specs.Float.{Format}
use Rattle.border.specs.declared.Border.{Border}
use Rattle.analysis.specs.declared.AnalysisError.{AnalysisError}
use Rattle.analysis.specs.Analyses.{Analysed}

pub unique_analyse : {w : Format} {low high : List Float} {f : ℕ} {border : Border} {line approx detail scratch : List Float} {r r' : Result ⊤ AnalysisError} {a d s a' d' s' : List Float}
    → Analysed w low high f border line approx detail scratch r a d s → Analysed w low high f border line approx detail scratch r' a' d' s'
    → (r ≡ r') × (a ≡ a') × (d ≡ d') × (s ≡ s')
unique_analyse p q = let e = p.answer ∙ sym q.answer in (e, (cc), (cc), (cc))
