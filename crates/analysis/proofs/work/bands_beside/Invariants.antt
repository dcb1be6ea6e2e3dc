-- What each turn of `work::bands_beside` keeps.
use Rattle.analysis.specs.Works.{band_of, Halves}
use Rattle.analysis.proofs.work.bands_beside.Given as goal

abbrev pub invariant-loop-i : goal.invariant-loop-i
invariant-loop-i g l = let r = g.R.Real in
    Halves (band_of r.format (r.floats l.high) l.f (r.floats l.padded)) (band_of r.format (r.floats l.low) l.f (r.floats l.padded)) 0 l.m l.i (r.floats l.initial.both) (r.floats l.both)
