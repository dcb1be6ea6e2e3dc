-- `tables::work::strip` meets its contract: each turn carries the crossing of its lines one place further.
use native.Mathlib.Omega.{arith}
use Rattle.tables.specs.Stored.{one_more}
use Rattle.tables.specs.Crosses.{gathering, crossed_turn}
use Rattle.tables.proofs.work.strip.Goals as goal

pub gather-requires : goal.gather-requires
gather-requires c = let a = c.args in
    gathering a.lines a.n a.r a.count a.left a.right c.loop-c.c c.loop-c.to a.s.now c.loop-c.s c.requires (omega arith) (omega (arith, c.requires.inside)) c.loop-c.invariant.0 c.loop-c.invariant.1

pub loop-c-preserved : goal.loop-c-preserved
loop-c-preserved c = let a = c.args in (
  omega (arith, c.loop-c.invariant.0, one_more c.loop-c.c a.lines),
  crossed_turn a.lines a.n a.r a.count a.left a.right c.loop-c.c c.loop-c.to a.s.now c.loop-c.s c.requires (omega arith) (omega (arith, c.requires.inside)) c.loop-c.invariant.0 c.loop-c.invariant.1 c.gather.ensures,
)
