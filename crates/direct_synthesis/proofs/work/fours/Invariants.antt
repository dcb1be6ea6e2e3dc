-- What each turn of `work::fours` keeps, and what falls with each.
use Prim.Native.Nat.{◌-◌, ◌*◌, ◌≤◌}
use mathlib.Core.Path.{◌≡◌}
use lib.ListN.{length}
use lib.Ieee.{binary64}
use Rattle.numbers.specs.Words.{written}
use Rattle.synthesis.specs.Works.{place_of}
use Rattle.direct_synthesis.proofs.work.fours.Given as goal

abbrev pub invariant-loop-k : goal.invariant-loop-k
invariant-loop-k l = (2 * l.k ≤ length l.initial.out) × (l.out ≡ written (place_of binary64 l.f l.low l.high l.approx l.detail l.initial.out) (2 * l.k) l.initial.out)

abbrev pub decreases-loop-k : goal.decreases-loop-k
decreases-loop-k l = l.n - l.k
