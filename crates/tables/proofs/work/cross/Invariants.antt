-- What each turn of `work::cross` keeps, and what falls with each.
use Prim.Native.Nat.{◌-◌, ◌≤◌}
use Rattle.tables.specs.Works.{CrossedTo}
use Rattle.tables.proofs.work.cross.Given as goal

abbrev pub invariant-loop-c : goal.invariant-loop-c
invariant-loop-c l = (l.c ≤ l.n) × CrossedTo l.lines l.n 0 l.lines 0 l.c l.initial.s l.s

abbrev pub decreases-loop-c : goal.decreases-loop-c
decreases-loop-c l = l.n - l.c
