-- What each turn of `work::gather` keeps, and what falls with each.
use Prim.Native.Nat.{◌+◌, ◌*◌, ◌/◌, ◌%◌, ◌≤◌}
use mathlib.Core.Path.{◌≡◌}
use lib.Ieee.{binary64}
use Rattle.numbers.specs.Words.{at}
use Rattle.direct_synthesis.specs.Places.{Come}
use Rattle.direct_synthesis.proofs.work.gather.Given as goal

abbrev pub invariant-loop-j : goal.invariant-loop-j
invariant-loop-j l = (l.p / 2 ≤ l.i) × (2 * l.i + l.j ≡ 2 * (l.p / 2) + l.f) × Come binary64 l.f l.low l.high l.approx l.detail (l.p / 2) (l.p % 2) (at l.out l.p) l.i l.sum

abbrev pub decreases-loop-j : goal.decreases-loop-j
decreases-loop-j l = l.j
