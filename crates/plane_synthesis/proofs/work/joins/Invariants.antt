-- What each turn of `work::joins` keeps: so many lines are joined.
use Prim.Native.Nat.{◌*◌}
use mathlib.Core.Path.{◌≡◌}
use mathlib.Core.List.{◌++◌}
use lib.ListN.{drop}
use lib.Ieee.{binary64}
use Rattle.tables.specs.Tables.{stored}
use Rattle.plane_synthesis.specs.Works.{step_join}
use Rattle.plane_synthesis.proofs.work.joins.Given as goal

abbrev pub invariant-loop-c : goal.invariant-loop-c
invariant-loop-c l = l.out ≡ stored (step_join binary64 l.f l.low l.high l.step l.n l.lo l.hi) l.c ++ drop (l.c * l.n) l.initial.out
