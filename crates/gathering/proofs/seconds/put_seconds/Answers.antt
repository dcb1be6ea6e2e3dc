-- `gathering::seconds::put_seconds` meets its contract: each turn writes the next second place.
use native.Mathlib.Omega.{arith}
use Rattle.gathering.specs.Turns.{seconds_step}
use Rattle.gathering.proofs.seconds.put_seconds.Goals as goal

pub loop-q-preserved : goal.loop-q-preserved
loop-q-preserved g c = let a = c.args in let r = g.R.Real in let m = g.met.R.Real in
    let q = c.loop-q.q in
    let sum = m.floats_at a.sums.now q c.index-sums-q.result (omega arith) in
    simp m.floats_set (seconds_step a.from (r.floats a.sums.now) (r.floats a.line.now) q (omega (arith, m.floats_length a.line.now)) (cc) c.loop-q.invariant)
