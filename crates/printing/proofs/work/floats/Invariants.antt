-- What each turn of `work::floats` keeps.
use lib.ListN.{take}
use Rattle.texts.specs.Prints.{floats_text}
use Rattle.laying.specs.Lays.{Lays}
use Rattle.printing.proofs.work.floats.Given as goal

abbrev pub invariant-loop-x : goal.invariant-loop-x
invariant-loop-x l = Lays (floats_text (take l.x-index l.l)) l.initial.out l.n l.out
