-- What each turn of `work::two_at` keeps.
use Prim.Native.Nat.{◌+◌}
use Rattle.synthesis.specs.Runs.{Two}
use Rattle.synthesis.proofs.work.two_at.Given as goal

abbrev pub invariant-loop-s : goal.invariant-loop-s
invariant-loop-s g l = let r = g.R.Real in Two r.format l.f (r.floats l.low) (r.floats l.high) (r.floats l.approx) (r.floats l.detail) l.k (r.floats l.out) (l.k + l.s) (r.float l.even) (r.float l.odd)
