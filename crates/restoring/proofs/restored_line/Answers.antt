-- `restoring::restored_line` meets its contract: where restoring is refused the part is empty, and else it is the front of the buffer that holds the line.
use lib.ListN.{length}
use lib.Seq.{length-take-le}
use mathlib.Core.Path.{◌∙◌, refl, sym}
use native.Mathlib.Omega.{arith}
use Rattle.packed.specs.Tested.{first_line}
use Rattle.packed.specs.Lengths.{levels_of}
use Rattle.restoring.specs.Tested.{restoring, first_handed, second_handed}
use Rattle.restoring.specs.Works.{Restoring}
use Rattle.restoring.proofs.restored_line.Goals as goal
use Rattle.restoring.proofs.restored_line.Goals.{In-Ok}

-- every test passed
all : (c : In-Ok) → let a = c.args in
    Restoring a.n a.bank.taps (levels_of a.levels) (length a.packed.now) (length a.first.now) (length a.second.now)
all c =
    let a = c.args in
    restoring a.n a.bank.taps a.levels (levels_of a.levels) _ _ _ refl (sym c.restore_levels-answer.ensures.answer ∙ c.in-Ok.is)

pub restoring_need-length-requires : goal.restoring_need-length-requires
restoring_need-length-requires c = let a = c.args in
    first_line {levels = a.levels} (record { sound = (all (goal.at.restoring_need-length-requires c).In-Ok).packs.sound; long = (all (goal.at.restoring_need-length-requires c).In-Ok).packs.long })

pub slice_bounds-result-end-then-max-eq0 : goal.slice_bounds-result-end-then-max-eq0
slice_bounds-result-end-then-max-eq0 c = let w = all (goal.at.slice_bounds-result-end-then-max-eq0 c).In-Ok in
    sym (length-take-le _ _ (omega (arith, c.restoring_need-length.ensures, w.room, w.space, c.restore_levels-answer.auto.first, c.restore_levels-answer.auto.second)))

pub slice_bounds-result-end-else-max-eq0 : goal.slice_bounds-result-end-else-max-eq0
slice_bounds-result-end-else-max-eq0 c = let w = all (goal.at.slice_bounds-result-end-else-max-eq0 c).In-Ok in
    sym (length-take-le _ _ (omega (arith, c.restoring_need-length.ensures, w.room, w.space, c.restore_levels-answer.auto.first, c.restore_levels-answer.auto.second)))

pub returns-then-max-eq0 : goal.returns-then-max-eq0
returns-then-max-eq0 c = let a = c.args in
    second_handed a.bank.lowback a.bank.highback a.bank.taps a.packed.now a.n a.levels a.first a.second _ _ _ c.restore_levels-answer.result c.max.result _
    c.restore_levels-answer.ensures c.in-Ok.is c.max.ensures c.restoring_need-length.ensures (omega (arith, c.if-max-eq0.true)) refl refl

pub returns-else-max-eq0 : goal.returns-else-max-eq0
returns-else-max-eq0 c = let a = c.args in
    first_handed a.bank.lowback a.bank.highback a.bank.taps a.packed.now a.n a.levels a.first a.second _ _ _ c.restore_levels-answer.result c.max.result _
    c.restore_levels-answer.ensures c.in-Ok.is c.max.ensures c.restoring_need-length.ensures (λ e. absurd (omega (arith, e, c.if-max-eq0.false))) refl refl
