-- `tables::work::cross` meets its contract: tile beside tile is crossed, and all of them are the crossing.
use native.Mathlib.Omega.{arith}
use Rattle.tables.specs.Crosses.{crossed_beside, crossed_all}
use Rattle.tables.proofs.work.cross.Goals as goal

pub returns : goal.returns
returns c = let a = c.args in
    let t = c.tile-2.new.s in
    crossed_all a.lines a.n a.s.now t c.requires
    (crossed_beside a.lines a.n c.loop-c.c a.n a.s.now c.loop-c.s t c.loop-c.invariant.0 (omega arith) c.loop-c.invariant.1 c.tile-2.ensures)
