-- Laws of what the entry promises: any two outcomes that the promise admits are equal, since each is an equation of the answer and of every lent buffer.
use Rattle.std.specs.Prelude.{◌≡◌, List, ℕ, Result, ⊤, Float}
use Rattle.std.proofs.Common.{sym, ◌∙◌}
use Rattle.border.specs.declared.Border.{Border}
use Rattle.packed.specs.declared.LevelsError.{LevelsError}
use Rattle.levels.specs.Analyses.{Analysed}

pub unique_analyse_levels : {low high : List Float} {f : ℕ} {border : Border} {line : List Float} {levels : ℕ} {packed scratch : List Float} {r r' : Result ⊤ LevelsError} {p s p' s' : List Float}
    → Analysed low high f border line levels packed scratch r p s → Analysed low high f border line levels packed scratch r' p' s' → (r ≡ r') × (p ≡ p') × (s ≡ s')
unique_analyse_levels p q = let e = p.answer ∙ sym q.answer in (e, (cc), (cc))
