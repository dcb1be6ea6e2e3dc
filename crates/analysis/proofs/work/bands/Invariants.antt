-- What each turn of `work::bands` keeps.
use Rattle.numbers.specs.Words.{written}
use mathlib.Core.Path.{◌≡◌}
use Rattle.analysis.specs.Works.{band_of}
use Rattle.analysis.proofs.work.bands.Given as goal

abbrev pub invariant-loop-i : goal.invariant-loop-i
invariant-loop-i g l = let r = g.R.Real in
    (r.floats l.approx ≡ written (band_of r.format (r.floats l.low) l.f (r.floats l.padded)) l.i (r.floats l.initial.approx))
    × (r.floats l.detail ≡ written (band_of r.format (r.floats l.high) l.f (r.floats l.padded)) l.i (r.floats l.initial.detail))
