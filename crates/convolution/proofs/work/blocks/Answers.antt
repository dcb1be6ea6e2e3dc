-- `convolution::work::blocks` meets its contract: each turn puts N places, the last of them where the output ends if fewer are left.
use Rattle.std.proofs.Common.{arith}
use Rattle.std.proofs.lemmas.List.{length-replicate}
use Rattle.std.specs.Float.{nan}
use Rattle.convolution.specs.Turns.{first_more}
use Rattle.convolution.proofs.work.blocks.Goals as goal

pub loop-x-preserved : goal.loop-x-preserved
loop-x-preserved g c = let n = g.met.R.Real.floats_length c.loop-x.out in
    (omega arith, first_more nan _ c.loop-x.x c.min-at.result g.row.N (g.R.Real.floats c.loop-x.out) (omega arith) (omega arith) (omega arith) c.loop-x.invariant.1 (rw (← length-replicate g.row.N c.zero-sums.result) c.block.ensures))
