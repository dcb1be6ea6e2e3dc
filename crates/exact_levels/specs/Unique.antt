-- Laws of what the entry promises: any two outcomes that the promise admits are equal, since each is an equation of the answer and of every lent buffer.
use Rattle.std.specs.Prelude.{◌≡◌, List, ℕ, Result, ⊤, Float}
use Rattle.std.proofs.Common.{sym, ◌∙◌}
use Rattle.border.specs.declared.Border.{Border}
use Rattle.exact_levels.specs.declared.LevelsBackError.{LevelsBackError}
use Rattle.exact_levels.specs.Backs.{ThereAndBack}

pub unique_there_and_back_levels : {al ah sl sh : List Float} {f : ℕ} {border : Border} {s : Float} {line : List Float} {levels : ℕ} {packed scratch first second : List Float}
    {r r' : Result ⊤ LevelsBackError} {p c a b p' c' a' b' : List Float}
    → ThereAndBack al ah sl sh f border s line levels packed scratch first second r p c a b → ThereAndBack al ah sl sh f border s line levels packed scratch first second r' p' c' a' b'
    → (r ≡ r') × (p ≡ p') × (c ≡ c') × (a ≡ a') × (b ≡ b')
unique_there_and_back_levels p q = let e = p.answer ∙ sym q.answer in (e, (cc), (cc), (cc), (cc))
