-- The law of what the entry promises: any two outcomes that the promise admits are equal, since it is an equation of the answer, and no buffer is lent to be written.
use Rattle.std.specs.Prelude.{◌≡◌, List, ℕ, Result, Float}
use Rattle.std.proofs.Common.{sym, ◌∙◌}
use Rattle.comparing.specs.declared.Compared.{Compared}
use Rattle.comparing.specs.declared.ComparingError.{ComparingError}
use Rattle.comparing.specs.Comparings.{BandsCompared}

pub unique_compare_bands : {first second : List Float} {width height : ℕ} {r r' : Result Compared ComparingError}
    → BandsCompared first second width height r → BandsCompared first second width height r' → r ≡ r'
unique_compare_bands p q = p.answer ∙ sym q.answer
