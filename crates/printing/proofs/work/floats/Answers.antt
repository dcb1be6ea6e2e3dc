-- `printing::work::floats` meets its contract: each turn lays one float's line behind those before it.
use mathlib.Core.Path.{refl, sym, ap}
use native.Mathlib.Omega.{arith}
use Prim.Native.Nat.{◌+◌}
use lib.ListN.{length, take}
use lib.Seq.{take_all, length-take-le}
use Rattle.texts.specs.Laying.{laid}
use Rattle.texts.specs.Prints.{floats_text}
use Rattle.laying.specs.Behind.{behind, lays_as}
use Rattle.printing.specs.Sizes.{length-floats, floats_more}
use Rattle.printing.proofs.work.floats.Goals as goal

pub loop-x-init : goal.loop-x-init
unfolding laid
loop-x-init c = record { size = refl; laying = refl }

pub overflow_add-n : goal.overflow_add-n
overflow_add-n c = let l = c.args.l.now in
    let i = c.loop-x.x-index in
    let t = take (i + 1) l in
    omega (arith, (behind c.loop-x.invariant c.min-k.ensures c.bits-n.ensures).size, ap length (floats_more l i (omega arith)), length-floats t, length-take-le (i + 1) l (omega arith), c.requires)

-- one line more
pub loop-x-preserved : goal.loop-x-preserved
loop-x-preserved c = lays_as (floats_more c.args.l.now c.loop-x.x-index (omega arith)) (behind c.loop-x.invariant c.min-k.ensures c.bits-n.ensures)

pub returns : goal.returns
returns c = let a = c.args in lays_as (ap floats_text (sym (take_all c.loop-x.x-index a.l.now (omega arith)))) c.loop-x.invariant
