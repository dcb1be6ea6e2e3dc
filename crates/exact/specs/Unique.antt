-- Laws of what the entry promises: any two outcomes that the promise admits are equal, since each is an equation of the answer and of every lent buffer.
use Rattle.std.specs.Prelude.{◌≡◌, List, ℕ, Result, ⊤, Float}
use Rattle.std.proofs.Common.{sym, ◌∙◌}
use Rattle.std.specs.Float.{Format}
use Rattle.border.specs.declared.Border.{Border}
use Rattle.exact.specs.declared.BackError.{BackError}
use Rattle.exact.specs.Backs.{Returned}

pub unique_there_and_back : {w : Format} {al ah sl sh : List Float} {f : ℕ} {b : Border} {line approx detail scratch out : List Float} {r r' : Result ⊤ BackError} {a d s o a' d' s' o' : List Float}
    → Returned w al ah sl sh f b line approx detail scratch out r a d s o → Returned w al ah sl sh f b line approx detail scratch out r' a' d' s' o'
    → (r ≡ r') × (a ≡ a') × (d ≡ d') × (s ≡ s') × (o ≡ o')
unique_there_and_back p q = let e = p.answer ∙ sym q.answer in (e, (cc), (cc), (cc), (cc))
