-- What each turn of `work::eights_beside` keeps.
use Prim.Native.Nat.{◌*◌}
use Rattle.analysis.specs.Works.{band_of, Halves}
use Rattle.analysis.proofs.work.eights_beside.Given as goal

abbrev pub invariant-loop-k : goal.invariant-loop-k
invariant-loop-k g l = let r = g.R.Real in
    Halves (band_of r.format (r.floats l.high) l.f (r.floats l.padded)) (band_of r.format (r.floats l.low) l.f (r.floats l.padded)) 0 l.m (8 * l.k) (r.floats l.initial.both) (r.floats l.both)
