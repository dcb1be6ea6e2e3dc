-- What each turn of `copying::copy_eights` keeps: so many eights are in place.
use mathlib.Core.Path.{◌≡◌}
use Prim.Native.Nat.{◌*◌}
use Rattle.numbers.specs.Words.{at, placed}
use Rattle.numbers.proofs.copying.copy_eights.Given as goal

abbrev pub invariant-loop-t : goal.invariant-loop-t
invariant-loop-t g l = let r = g.R.Real in r.floats l.s ≡ placed (at (r.floats l.line)) l.to (8 * l.t) (r.floats l.initial.s)
