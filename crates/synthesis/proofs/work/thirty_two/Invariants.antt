-- What each turn of `work::thirty_two` keeps.
use Rattle.synthesis.specs.Runs.{Turn}
use Rattle.synthesis.proofs.work.thirty_two.Given as goal

abbrev pub invariant-loop-e : goal.invariant-loop-e
invariant-loop-e g l = let r = g.R.Real in Turn r.format l.f (r.floats l.low) (r.floats l.high) (r.floats l.approx) (r.floats l.detail) l.k (r.floats l.initial.out) (r.floats l.out) l.e
