-- `convolution::work::start` meets its contract: each turn writes one product.
use Rattle.std.proofs.Common.{◌+◌, ◌∙◌, ap, arith}
use Rattle.numbers.specs.Words.{tab}
use Rattle.numbers.specs.Write.{written_full, written_start, written_step}
use Rattle.convolution.specs.Works.{product}
use Rattle.convolution.proofs.work.start.Goals as goal

pub loop-q-init : goal.loop-q-init
loop-q-init g c = written_start _ _

pub loop-q-preserved : goal.loop-q-preserved
loop-q-preserved g c = let a = c.args in let r = g.R.Real in let m = g.met.R.Real in
    let q = c.loop-q.q in
    let sample = m.floats_at a.padded.now (a.x + q) c.index-padded-x.result (omega arith) in
    let value = m.multiplies _ _ _ c.mul.ensures in
    simp m.floats_set (written_step (product r.format (r.floats a.padded.now) a.x (r.float a.tap)) q (r.floats a.sums.now) (omega (arith, m.floats_length a.sums.now)) c.loop-q.invariant (cc))

pub returns : goal.returns
returns g c = let a = c.args in let r = g.R.Real in let n = g.met.R.Real.floats_length a.sums.now in
    let f = product r.format (r.floats a.padded.now) a.x (r.float a.tap) in
    written_full f c.loop-q.q (r.floats a.sums.now) c.loop-q.invariant (omega (arith, n)) (omega (arith, n)) ∙ ap (tab f) n
