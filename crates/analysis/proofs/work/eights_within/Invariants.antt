-- What each turn of `work::eights_within` keeps.
use Prim.Native.Nat.{◌*◌}
use Rattle.analysis.specs.Works.{band_of, Halves, line_at}
use Rattle.analysis.proofs.work.eights_within.Given as goal

abbrev pub invariant-loop-k : goal.invariant-loop-k
invariant-loop-k g l = let r = g.R.Real in let line = line_at l.f l.from l.m (r.floats l.initial.s) in
    Halves (band_of r.format (r.floats l.low) l.f line) (band_of r.format (r.floats l.high) l.f line) l.to l.m (8 * l.k) (r.floats l.initial.s) (r.floats l.s)
