-- What each turn of `sums::two_within` keeps: of both places both sums of j taps.
use Prim.Native.Nat.{◌+◌}
use mathlib.Core.Path.{◌≡◌}
use lib.Ieee.{binary64}
use Rattle.direct_analysis.specs.Works.{line_sum}
use Rattle.direct_analysis.proofs.sums.two_within.Given as goal

abbrev pub invariant-loop-j : goal.invariant-loop-j
invariant-loop-j l = (l.first.approx ≡ line_sum binary64 l.low l.line l.from l.j) × (l.first.detail ≡ line_sum binary64 l.high l.line l.from l.j) × (l.second.approx ≡ line_sum binary64 l.low l.line (l.from + 2) l.j) × (l.second.detail ≡ line_sum binary64 l.high l.line (l.from + 2) l.j)
