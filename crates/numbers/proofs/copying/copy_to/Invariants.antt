-- What each turn of `copying::copy_to` keeps: behind the eights, so many numbers of the line are in place.
use mathlib.Core.Path.{◌≡◌}
use Prim.Native.Nat.{◌+◌, ◌-◌}
use Rattle.numbers.specs.Words.{at, placed}
use Rattle.numbers.proofs.copying.copy_to.Given as goal

abbrev pub invariant-loop-i : goal.invariant-loop-i
invariant-loop-i g l = let r = g.R.Real in r.floats l.s ≡ placed (λ k. at (r.floats l.line) (l.n + k)) (l.to + l.n) (l.i - l.n) (r.floats l.initial.s)
