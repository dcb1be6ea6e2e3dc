-- What each turn of `work::four` keeps, and what falls with each.
use Prim.Native.Nat.{◌+◌, ◌*◌, ◌≤◌}
use mathlib.Core.Path.{◌≡◌}
use lib.Ieee.{binary64}
use Rattle.numbers.specs.Words.{at}
use Rattle.direct_synthesis.specs.Places.{Come}
use Rattle.direct_synthesis.proofs.work.four.Given as goal

abbrev pub invariant-loop-j : goal.invariant-loop-j
invariant-loop-j l = (l.k ≤ l.i) × (2 * l.i + l.j ≡ 2 * l.k + l.f)
    × Come binary64 l.f l.low l.high l.approx l.detail l.k 0 (at l.out (2 * l.k)) l.i l.first
    × Come binary64 l.f l.low l.high l.approx l.detail l.k 1 (at l.out (2 * l.k + 1)) l.i l.second
    × Come binary64 l.f l.low l.high l.approx l.detail (l.k + 1) 0 (at l.out (2 * l.k + 2)) (l.i + 1) l.third
    × Come binary64 l.f l.low l.high l.approx l.detail (l.k + 1) 1 (at l.out (2 * l.k + 3)) (l.i + 1) l.fourth

abbrev pub decreases-loop-j : goal.decreases-loop-j
decreases-loop-j l = l.j
