-- `printing::work::band` meets its contract: the floats' lines are laid behind the head.
use native.Mathlib.Omega.{arith}
use lib.ListN.{length}
use Rattle.laying.specs.Behind.{behind}
use Rattle.printing.specs.Sizes.{length-count, length-floats}
use Rattle.printing.proofs.work.band.Goals as goal

pub overflow_add-result : goal.overflow_add-result
overflow_add-result c = omega (arith, c.head-n.ensures.size, c.floats.ensures.size, length-count c.args.word.now (length c.args.l.now), length-floats c.args.l.now, c.requires)

pub returns : goal.returns
returns c = behind c.head-n.ensures c.min-k.ensures c.floats.ensures
