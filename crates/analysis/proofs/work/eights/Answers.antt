-- `analysis::work::eights` meets its contract: each turn puts eight places of both bands.
use native.Mathlib.Omega.{arith}
use Rattle.numbers.specs.Write.{written_start}
use Rattle.summing.proofs.Fits.{bands_fit}
use Rattle.analysis.specs.Turns.{turn_run}
use Rattle.analysis.proofs.work.eights.Goals as goal

pub loop-k-init : goal.loop-k-init
loop-k-init g c = (written_start _ _, written_start _ _)

pub eight-sums-requires : goal.eight-sums-requires
eight-sums-requires g c = let m = g.met.R.Real in
    (bands_fit _ _ m.aligned m.small, record { lows = c.requires.lows; highs = c.requires.highs; within = omega (arith, c.requires.within, c.loop-k-test.true) })

pub loop-k-preserved : goal.loop-k-preserved
loop-k-preserved g c = let a = c.args in
    let r = g.R.Real in
    let long = g.met.R.Real.floats_length in (
      turn_run r.format (r.floats a.low.now) (r.floats a.padded.now) a.f c.loop-k.k (r.floats a.approx.now)
          (omega (arith, c.loop-k-test.true, long a.approx.now)) c.loop-k.invariant.0 c.eight-sums.ensures.0 c.put.ensures,
      turn_run r.format (r.floats a.high.now) (r.floats a.padded.now) a.f c.loop-k.k (r.floats a.detail.now)
          (omega (arith, c.loop-k-test.true, long a.detail.now, c.requires.both)) c.loop-k.invariant.1 c.eight-sums.ensures.1 c.put-in-loop-k.ensures,
    )
