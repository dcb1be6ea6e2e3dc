-- What each turn of `work::join` keeps.
use mathlib.Core.Path.{◌≡◌}
use Rattle.synthesis.specs.Works.{joined_from}
use Rattle.synthesis.proofs.work.join.Given as goal

abbrev pub invariant-loop-k : goal.invariant-loop-k
invariant-loop-k g l = let r = g.R.Real in
    r.floats l.out ≡ joined_from r.format l.f (r.floats l.low) (r.floats l.high) (r.floats l.approx) (r.floats l.detail) l.done l.k (r.floats l.initial.out)
