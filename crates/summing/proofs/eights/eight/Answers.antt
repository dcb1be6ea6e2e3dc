-- `summing::eights::eight` meets its contract: after j taps both lists hold the sums of j taps of eight places.
use borrow.Author.Rules.{rules}
use mathlib.Core.Path.{◌∙◌, ap}
use native.Mathlib.Omega.{arith}
use lib.ListN.{length}
use Rattle.std.specs.Prelude.{replicate}
use Rattle.numbers.specs.Write.{length-tab}
use Rattle.summing.specs.Turns.{sums_none, sums_step_by}
use Rattle.summing.proofs.eights.eight.Goals as goal

pub loop-j-init : goal.loop-j-init
loop-j-init g c = let a = c.args in let r = g.R.Real in let m = g.met.R.Real in (
  search rules,
  search rules,
  m.floats_replicate 8 c.zero-approx.result ∙ ap (replicate 8) c.zero-approx.ensures ∙ sums_none r.format (r.floats a.low.now) (r.floats a.padded.now) a.from,
  m.floats_replicate 8 c.zero-detail.result ∙ ap (replicate 8) c.zero-detail.ensures ∙ sums_none r.format (r.floats a.high.now) (r.floats a.padded.now) a.from,
)

pub loop-j-preserved : goal.loop-j-preserved
loop-j-preserved g c = let a = c.args in let r = g.R.Real in let m = g.met.R.Real in
    let j = c.loop-j.j in
    let low = m.floats_at a.low.now j c.index-low-j.result (omega arith) in
    let high = m.floats_at a.high.now j c.index-high-j.result (omega arith) in
    let lows = sums_step_by r.format (r.floats a.low.now) (r.floats a.padded.now) a.from j 8 (cc) c.loop-j.invariant.2 c.tap_eight.ensures.0 in
    let highs = sums_step_by r.format (r.floats a.high.now) (r.floats a.padded.now) a.from j 8 (cc) c.loop-j.invariant.3 c.tap_eight.ensures.1 in
    (omega (arith, m.floats_length c.tap_eight.new.approx, ap length lows ∙ length-tab _ 8), omega (arith, m.floats_length c.tap_eight.new.detail, ap length highs ∙ length-tab _ 8), lows, highs)
