-- What each turn of `work::thirty_twos` keeps.
use Prim.Native.Nat.{◌*◌}
use mathlib.Core.Path.{◌≡◌}
use Rattle.synthesis.specs.Works.{joined_from}
use Rattle.synthesis.proofs.work.thirty_twos.Given as goal

abbrev pub invariant-loop-t : goal.invariant-loop-t
invariant-loop-t g l = let r = g.R.Real in
    r.floats l.out ≡ joined_from r.format l.f (r.floats l.low) (r.floats l.high) (r.floats l.approx) (r.floats l.detail) 0 (16 * l.t) (r.floats l.initial.out)
