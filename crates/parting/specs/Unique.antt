-- The law of what the entry promises: any two outcomes that the promise admits are equal, since it is an equation of the answer, and no buffer is lent to be written.
use Rattle.std.specs.Prelude.{◌≡◌, List, Float}
use Rattle.std.proofs.Common.{sym, ◌∙◌}
use Rattle.parting.specs.declared.Parting.{Parting}
use Rattle.parting.specs.Partings.{Parted}

pub unique_parting : {a d a' d' : List Float} {r r' : Parting} → Parted a d a' d' r → Parted a d a' d' r' → r ≡ r'
unique_parting p q = p.answer ∙ sym q.answer
