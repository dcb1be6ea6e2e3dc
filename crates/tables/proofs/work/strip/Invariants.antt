-- What each turn of `work::strip` keeps.
use Prim.Native.Nat.{◌+◌, ◌*◌}
use mathlib.Core.Path.{◌≡◌}
use Rattle.tables.specs.Works.{CrossedTo}
use Rattle.tables.proofs.work.strip.Given as goal

abbrev pub invariant-loop-c : goal.invariant-loop-c
invariant-loop-c l = (l.to ≡ l.lines * l.n + (l.c * l.lines + l.r)) × CrossedTo l.lines l.n l.r (l.r + l.count) l.left l.c l.initial.s l.s
