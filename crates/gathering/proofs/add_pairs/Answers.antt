-- `gathering::add_pairs` meets its contract: each turn adds both products of one pair to one sum.
use Prim.Native.Nat.{◌+◌}
use mathlib.Core.Path.{◌∙◌, ◌≡◌, ap}
use native.Mathlib.Omega.{arith}
use lib.ListN.{length}
use lib.Ieee.{nan}
use Rattle.numbers.specs.Words.{tab}
use Rattle.numbers.specs.Places.{get_or-written_behind}
use Rattle.numbers.specs.Write.{written_full, written_start, written_step}
use Rattle.gathering.specs.Works.{onto_at}
use Rattle.gathering.proofs.add_pairs.Goals as goal

pub loop-q-init : goal.loop-q-init
loop-q-init g c = written_start _ _

pub loop-q-preserved : goal.loop-q-preserved
loop-q-preserved g c = let a = c.args in let r = g.R.Real in let m = g.met.R.Real in
    let q = c.loop-q.q in
    let x = r.floats a.sums.now in
    let f = onto_at r.format (r.floats a.low.now) (r.floats a.high.now) (r.floats a.approx.now) (r.floats a.detail.now) a.j a.i x in
    let low = m.floats_at a.low.now a.j c.index-low-j.result (omega arith) in
    let high = m.floats_at a.high.now a.j c.index-high-j.result (omega arith) in
    let approx = m.floats_at a.approx.now (a.i + q) c.index-approx-i.result (omega arith) in
    let detail = m.floats_at a.detail.now (a.i + q) c.index-detail-i.result (omega arith) in
    let sum = m.floats_at c.loop-q.sums q c.index-sums-q.result (omega arith) in
    let was = get_or-written_behind f q x q nan (omega arith) in
    simp m.floats_set (written_step f q x (omega (arith, m.floats_length a.sums.now)) c.loop-q.invariant (cc))

pub returns : goal.returns
returns g c = let a = c.args in let r = g.R.Real in
    let x = r.floats a.sums.now in
    let f = onto_at r.format (r.floats a.low.now) (r.floats a.high.now) (r.floats a.approx.now) (r.floats a.detail.now) a.j a.i x in
    let long : length x ≡ 16 = g.met.R.Real.floats_length a.sums.now ∙ c.requires.1 in
    written_full f c.loop-q.q x c.loop-q.invariant (omega arith) (omega arith) ∙ ap (tab f) long
