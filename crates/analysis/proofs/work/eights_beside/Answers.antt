-- `analysis::work::eights_beside` meets its contract: each turn puts eight places of either half.
use Prim.Native.Nat.{◌*◌}
use mathlib.Core.Path.{◌∙◌}
use native.Mathlib.Omega.{arith}
use Rattle.summing.proofs.Fits.{bands_fit}
use Rattle.analysis.specs.Turns.{sums_at_lem}
use Rattle.analysis.specs.Works.{band_of}
use Rattle.analysis.specs.Halves.{halves_start, beside_turn}
use Rattle.analysis.proofs.work.eights_beside.Goals as goal

pub loop-k-init : goal.loop-k-init
loop-k-init g c = halves_start _ _ 0 _ _

pub eight-sums-requires : goal.eight-sums-requires
eight-sums-requires g c = let m = g.met.R.Real in
    (bands_fit _ _ m.aligned m.small, record { lows = c.requires.lows; highs = c.requires.highs; within = omega (arith, c.requires.within, c.loop-k-test.true) })

pub loop-k-preserved : goal.loop-k-preserved
loop-k-preserved g c = let a = c.args in
    let r = g.R.Real in
    let long = g.met.R.Real.floats_length in
    let low = r.floats a.low.now in
    let high = r.floats a.high.now in
    let line = r.floats a.padded.now in
    let sums = c.eight-sums.result in
    beside_turn (band_of r.format high a.f line) (band_of r.format low a.f line) a.m c.loop-k.k (r.floats a.both.now) (r.floats c.loop-k.both) (r.floats sums.detail) (r.floats sums.approx)
    (omega (arith, c.loop-k-test.true)) (long a.both.now ∙ c.requires.filled) c.loop-k.invariant
    (sums_at_lem r.format high line a.f (8 * c.loop-k.k) 8 c.eight-sums.ensures.1) (sums_at_lem r.format low line a.f (8 * c.loop-k.k) 8 c.eight-sums.ensures.0)
    c.put.ensures c.put-in-loop-k.ensures
