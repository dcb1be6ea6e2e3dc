-- `printing::work::head` meets its contract: the number's line is laid behind the word.
use native.Mathlib.Omega.{arith}
use Rattle.laying.specs.Behind.{behind}
use Rattle.printing.specs.Sizes.{length-line}
use Rattle.printing.proofs.work.head.Goals as goal

pub overflow_add-result : goal.overflow_add-result
overflow_add-result c = omega (arith, c.bytes-m.ensures.size, c.decimal.ensures.size, length-line c.args.n)

pub returns : goal.returns
returns c = behind c.bytes-m.ensures c.min-k.ensures c.decimal.ensures
