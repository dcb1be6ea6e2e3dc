-- What each turn of `work::ruled` keeps: the places from `from` to i are written.
use Prim.Native.Nat.{◌-◌}
use mathlib.Core.Path.{◌≡◌}
use lib.Ieee.{binary64}
use Rattle.numbers.specs.Words.{replaced}
use Rattle.direct_analysis.specs.Works.{ruled_at}
use Rattle.direct_analysis.proofs.work.ruled.Given as goal

abbrev pub invariant-loop-i : goal.invariant-loop-i
invariant-loop-i l = (l.approx ≡ replaced (ruled_at binary64 l.low l.f l.border l.line) l.from (l.i - l.from) l.initial.approx) × (l.detail ≡ replaced (ruled_at binary64 l.high l.f l.border l.line) l.from (l.i - l.from) l.initial.detail)
