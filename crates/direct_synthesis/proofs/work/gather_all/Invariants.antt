-- What each turn of `work::gather_all` keeps: the places from `done` to p are gathered.
use Prim.Native.Nat.{◌-◌}
use mathlib.Core.Path.{◌≡◌}
use lib.Ieee.{binary64}
use Rattle.numbers.specs.Words.{replaced}
use Rattle.synthesis.specs.Works.{place_of}
use Rattle.direct_synthesis.proofs.work.gather_all.Given as goal

abbrev pub invariant-loop-p : goal.invariant-loop-p
invariant-loop-p l = l.out ≡ replaced (place_of binary64 l.f l.low l.high l.approx l.detail l.initial.out) l.done (l.p - l.done) l.initial.out
