-- What each turn of `seconds::take_seconds` keeps.
use Prim.Native.Nat.{◌+◌, ◌*◌}
use mathlib.Core.Path.{◌≡◌}
use Rattle.numbers.specs.Words.{at, written}
use Rattle.gathering.proofs.seconds.take_seconds.Given as goal

abbrev pub invariant-loop-q : goal.invariant-loop-q
invariant-loop-q g l = let r = g.R.Real in r.floats l.sums ≡ written (λ q₁. at (r.floats l.line) (l.from + 2 * q₁)) l.q (r.floats l.initial.sums)
