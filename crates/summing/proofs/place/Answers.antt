-- `summing::place` meets its contract: after j taps the pair holds both sums of j taps.
use Prim.Native.Nat.{◌+◌}
use mathlib.Core.Path.{◌∙◌}
use native.Mathlib.Omega.{arith}
use Rattle.summing.specs.Turns.{sum_none, sum_step}
use Rattle.summing.proofs.place.Goals as goal

pub loop-j-init : goal.loop-j-init
loop-j-init g c = let a = c.args in let r = g.R.Real in
    (c.zero.ensures ∙ sum_none r.format (r.floats a.low.now) (r.floats a.padded.now) a.from, c.zero-2.ensures ∙ sum_none r.format (r.floats a.high.now) (r.floats a.padded.now) a.from)

pub loop-j-preserved : goal.loop-j-preserved
loop-j-preserved g c = let a = c.args in let r = g.R.Real in
    let j = c.loop-j.j in
    let low = g.met.R.Real.floats_at a.low.now j c.index-low-j.result (omega arith) in
    let high = g.met.R.Real.floats_at a.high.now j c.index-high-j.result (omega arith) in
    let x = g.met.R.Real.floats_at a.padded.now (a.from + j) c.index-padded-from.result (omega arith) in (
      sum_step r.format (r.floats a.low.now) (r.floats a.padded.now) a.from j c.loop-j.invariant.0 (cc),
      sum_step r.format (r.floats a.high.now) (r.floats a.padded.now) a.from j c.loop-j.invariant.1 (cc),
    )
