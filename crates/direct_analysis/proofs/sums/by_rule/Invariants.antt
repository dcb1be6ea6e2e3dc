-- What each turn of `sums::by_rule` keeps: both sums of j taps.
use mathlib.Core.Path.{◌≡◌}
use lib.Ieee.{binary64}
use Rattle.direct_analysis.specs.Works.{ruled_sum}
use Rattle.direct_analysis.proofs.sums.by_rule.Given as goal

abbrev pub invariant-loop-j : goal.invariant-loop-j
invariant-loop-j l = (l.sums.approx ≡ ruled_sum binary64 l.low l.f l.border l.line l.from l.j) × (l.sums.detail ≡ ruled_sum binary64 l.high l.f l.border l.line l.from l.j)
