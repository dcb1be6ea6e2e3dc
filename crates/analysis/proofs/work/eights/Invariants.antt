-- What each turn of `work::eights` keeps.
use Prim.Native.Nat.{◌*◌}
use mathlib.Core.Path.{◌≡◌}
use Rattle.numbers.specs.Words.{written}
use Rattle.analysis.specs.Works.{band_of}
use Rattle.analysis.proofs.work.eights.Given as goal

abbrev pub invariant-loop-k : goal.invariant-loop-k
invariant-loop-k g l = let r = g.R.Real in
    (r.floats l.approx ≡ written (band_of r.format (r.floats l.low) l.f (r.floats l.padded)) (8 * l.k) (r.floats l.initial.approx))
    × (r.floats l.detail ≡ written (band_of r.format (r.floats l.high) l.f (r.floats l.padded)) (8 * l.k) (r.floats l.initial.detail))
