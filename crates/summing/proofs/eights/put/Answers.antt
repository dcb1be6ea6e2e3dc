-- `summing::eights::put` meets its contract: each turn puts one sum.
use native.Mathlib.Omega.{arith}
use Rattle.numbers.specs.Words.{at}
use Rattle.numbers.specs.Write.{placed_start, placed_step}
use Rattle.summing.proofs.eights.put.Goals as goal

pub loop-q-init : goal.loop-q-init
loop-q-init g c = placed_start _ _ _

pub loop-q-preserved : goal.loop-q-preserved
loop-q-preserved g c = let a = c.args in let r = g.R.Real in let m = g.met.R.Real in
    let q = c.loop-q.q in
    let sum = m.floats_at a.sums q c.index-sums-q.result (omega arith) in
    simp m.floats_set (placed_step (at (r.floats a.sums)) a.to q (r.floats a.out.now) (omega (arith, m.floats_length a.out.now)) c.loop-q.invariant (cc))
