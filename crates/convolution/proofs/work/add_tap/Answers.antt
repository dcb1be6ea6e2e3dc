-- `convolution::work::add_tap` meets its contract: each turn adds one product to one sum.
use Rattle.std.proofs.Common.{◌+◌, ◌∙◌, ap, arith}
use Rattle.std.specs.Float.{nan}
use Rattle.numbers.specs.Words.{tab}
use Rattle.numbers.specs.Places.{get_or-written_behind}
use Rattle.numbers.specs.Write.{written_full, written_start, written_step}
use Rattle.convolution.specs.Works.{more}
use Rattle.convolution.proofs.work.add_tap.Goals as goal

pub loop-q-init : goal.loop-q-init
loop-q-init g c = written_start _ _

pub loop-q-preserved : goal.loop-q-preserved
loop-q-preserved g c = let a = c.args in let r = g.R.Real in let m = g.met.R.Real in
    let q = c.loop-q.q in
    let sums = r.floats a.sums.now in
    let f = more r.format sums (r.floats a.padded.now) a.x (r.float a.tap) in
    let sample = m.floats_at a.padded.now (a.x + q) c.index-padded-x.result (omega arith) in
    let sum = m.floats_at c.loop-q.sums q c.index-sums-q.result (omega arith) in
    let was = get_or-written_behind f q sums q nan (omega arith) in
    simp m.floats_set (written_step f q sums (omega (arith, m.floats_length a.sums.now)) c.loop-q.invariant (cc))

pub returns : goal.returns
returns g c = let a = c.args in let r = g.R.Real in let n = g.met.R.Real.floats_length a.sums.now in
    let f = more r.format (r.floats a.sums.now) (r.floats a.padded.now) a.x (r.float a.tap) in
    written_full f c.loop-q.q (r.floats a.sums.now) c.loop-q.invariant (omega (arith, n)) (omega (arith, n)) ∙ ap (tab f) n
