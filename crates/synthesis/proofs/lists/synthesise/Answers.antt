-- `synthesis::lists::synthesise` meets its contract. Where the answer is done every test passed, which gives the work what it asks for; on any other answer nothing was written.
use Rattle.synthesis.specs.Tested.{joinable}
use mathlib.Core.Path.{sym}
use Rattle.synthesis.proofs.lists.synthesise.Goals as goal

pub join-requires : goal.join-requires
join-requires g c = let j = joinable _ _ _ _ (sym c.in_ok-synthesis_answer.ensures) in
    let l = c.requires (record { even = j.even; two = j.two; most = j.most }) in
    record { all = j; lows = l.lows; highs = l.highs }
