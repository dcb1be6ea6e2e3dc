-- What each turn of `work::within` keeps, and what falls with each.
use Prim.Native.Nat.{◌-◌, ◌*◌, ◌≤◌}
use mathlib.Core.Path.{◌≡◌}
use lib.ListN.{length}
use lib.Ieee.{binary64}
use Rattle.numbers.specs.Words.{replaced}
use Rattle.direct_analysis.specs.Works.{line_at}
use Rattle.direct_analysis.proofs.work.within.Given as goal

abbrev pub invariant-loop-i : goal.invariant-loop-i
invariant-loop-i l = (l.from ≤ l.i) × (2 * l.i ≤ length l.line)
    × (l.approx ≡ replaced (line_at binary64 l.low l.f l.line) l.from (l.i - l.from) l.initial.approx) × (l.detail ≡ replaced (line_at binary64 l.high l.f l.line) l.from (l.i - l.from) l.initial.detail)

abbrev pub decreases-loop-i : goal.decreases-loop-i
decreases-loop-i l = length l.line - l.i
