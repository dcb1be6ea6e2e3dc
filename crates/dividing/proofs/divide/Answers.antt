-- `dividing::divide` meets its contract: each turn divides the next place, and what lies behind it is as it was.
use Rattle.std.proofs.Common.{arith}
use lib.Ieee.{binary64}
use Rattle.numbers.specs.Write.{written_start, written_full}
use Rattle.dividing.specs.Divisors.{divided_step}
use Rattle.dividing.proofs.divide.Goals as goal

pub loop-x-init : goal.loop-x-init
loop-x-init c = written_start _ _

pub loop-x-preserved : goal.loop-x-preserved
loop-x-preserved c = divided_step binary64 c.args.s c.loop-x.x-index c.args.line.now (omega arith) c.loop-x.invariant

pub returns : goal.returns
returns c = written_full _ c.loop-x.x-index c.args.line.now c.loop-x.invariant (omega arith) (omega arith)
