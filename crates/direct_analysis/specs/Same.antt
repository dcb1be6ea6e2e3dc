-- The law of both engines, under any border: wherever both are done every number is the same, NaN as NaN, since both promise one band; and unless the first engine refuses by 5 they answer the same and leave the same.
use Rattle.std.specs.Prelude.{◌≡◌, List, ℕ, Result, ⊤, Float}
use Rattle.std.proofs.Common.{sym, ap, ◌∙◌}
use Rattle.std.specs.Float.{Format}
use Rattle.numbers.specs.Tests.{renewed}
use Rattle.border.specs.declared.Border.{Border}
use Rattle.analysis.specs.declared.AnalysisError.{AnalysisError}
use Rattle.analysis.specs.Analyses as First
use Rattle.analysis.specs.Analyses.{number_of}
use Rattle.analysis.specs.Lines.{band}
use Rattle.direct_analysis.specs.Analyses.{Analysed}
use Rattle.direct_analysis.specs.Tested.{as_first}

module _ {w : Format} {low high : List Float} {f : ℕ} {b : Border} {line : List Float} where
  -- the buffers that are lent need not hold the same, nor be as long
  pub same_bands : {approx detail scratch approx2 detail2 : List Float} {r r' : Result ⊤ AnalysisError} {a d s a' d' : List Float}
      → First.Analysed w low high f b line approx detail scratch r a d s → Analysed w low high f b line approx2 detail2 r' a' d' → number_of r ≡ 0 → number_of r' ≡ 0 → (a ≡ a') × (d ≡ d')
  same_bands {approx} {detail} {approx2 = approx2} {detail2} p q e e' = (
    renewed (band w low f b line) approx e p.approxes ∙ sym (renewed (band w low f b line) approx2 e' q.approxes),
    renewed (band w high f b line) detail e p.details ∙ sym (renewed (band w high f b line) detail2 e' q.details),
  )

  pub same_outcome : {approx detail scratch : List Float} {r r' : Result ⊤ AnalysisError} {a d s a' d' : List Float}
      → First.Analysed w low high f b line approx detail scratch r a d s → Analysed w low high f b line approx detail r' a' d' → (number_of r ≡ 5 → ⊥) → (r ≡ r') × (a ≡ a') × (d ≡ d')
  same_outcome p q other = let e = p.answer ∙ as_first f _ _ _ _ (λ k. other (ap number_of p.answer ∙ k)) ∙ sym q.answer in (e, (cc), (cc))
