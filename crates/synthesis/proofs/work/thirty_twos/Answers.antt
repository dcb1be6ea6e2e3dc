-- `synthesis::work::thirty_twos` meets its contract: after a turn thirty_two places more have all their pairs, and the rest are as they were.
use Prim.Native.Nat.{◌+◌, ◌*◌}
use native.Mathlib.Omega.{arith}
use Rattle.synthesis.specs.Runs.{run_start, join_run}
use Rattle.synthesis.proofs.work.thirty_twos.Goals as goal

pub loop-t-init : goal.loop-t-init
loop-t-init g c = let a = c.args in let r = g.R.Real in
    run_start r.format a.f (r.floats a.low.now) (r.floats a.high.now) (r.floats a.approx.now) (r.floats a.detail.now) 0 (r.floats a.out.now)

pub loop-t-preserved : goal.loop-t-preserved
loop-t-preserved g c = let a = c.args in
    let r = g.R.Real in
    let t = c.loop-t.t in
    join_run r.format a.f (r.floats a.low.now) (r.floats a.high.now) (r.floats a.approx.now) (r.floats a.detail.now) 0 (16 * t) (16 * (t + 1)) 32 (r.floats a.out.now)
    (omega arith) (omega arith) (omega (arith, c.loop-t-test.true, g.met.R.Real.floats_length a.out.now)) c.loop-t.invariant c.thirty_two.ensures
