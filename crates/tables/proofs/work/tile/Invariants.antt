-- What each turn of `work::tile` keeps, and what falls with each.
use Prim.Native.Nat.{◌-◌, ◌≤◌}
use Rattle.tables.specs.Works.{CrossedTo}
use Rattle.tables.proofs.work.tile.Given as goal

abbrev pub invariant-loop-r : goal.invariant-loop-r
invariant-loop-r l = (l.r ≤ l.lines) × CrossedTo l.lines l.n 0 l.r l.left l.right l.initial.s l.s

abbrev pub decreases-loop-r : goal.decreases-loop-r
decreases-loop-r l = l.lines - l.r
