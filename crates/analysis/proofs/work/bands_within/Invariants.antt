-- What each turn of `work::bands_within` keeps.
use Rattle.analysis.specs.Works.{band_of, Halves, line_at}
use Rattle.analysis.proofs.work.bands_within.Given as goal

abbrev pub invariant-loop-i : goal.invariant-loop-i
invariant-loop-i g l = let r = g.R.Real in let line = line_at l.f l.from l.m (r.floats l.initial.s) in
    Halves (band_of r.format (r.floats l.low) l.f line) (band_of r.format (r.floats l.high) l.f line) l.to l.m l.i (r.floats l.initial.s) (r.floats l.s)
