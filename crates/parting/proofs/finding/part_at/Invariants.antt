-- What each turn of `finding::part_at` keeps: the lists are the same at the places passed.
use Rattle.parting.specs.Partings.{SameBelow}
use Rattle.parting.proofs.finding.part_at.Given as goal

abbrev pub invariant-loop-i : goal.invariant-loop-i
invariant-loop-i l = SameBelow l.x l.y l.i
