-- `synthesis::work::join` meets its contract: it goes on from the thirty-twos, and each turn gives two places more all their pairs.
use Prim.Native.Nat.{◌+◌}
use native.Mathlib.Omega.{arith}
use Rattle.synthesis.specs.Runs.{run_start, join_run, join_end}
use Rattle.synthesis.proofs.work.join.Goals as goal

pub loop-k-init : goal.loop-k-init
loop-k-init g c = let a = c.args in let r = g.R.Real in
    run_start r.format a.f (r.floats a.low.now) (r.floats a.high.now) (r.floats a.approx.now) (r.floats a.detail.now) c.thirty_twos-done.result _

pub loop-k-preserved : goal.loop-k-preserved
loop-k-preserved g c = let a = c.args in
    let r = g.R.Real in
    let out = c.thirty_twos-done.new.out in
    let k = c.loop-k.k in
    join_run r.format a.f (r.floats a.low.now) (r.floats a.high.now) (r.floats a.approx.now) (r.floats a.detail.now) c.thirty_twos-done.result k (k + 1) 2 (r.floats out)
    (omega (arith, c.loop-k.auto)) (omega arith) (omega (arith, c.loop-k-test.true, g.met.R.Real.floats_length out)) c.loop-k.invariant c.two_at.ensures

pub returns : goal.returns
returns g c = let a = c.args in
    let r = g.R.Real in
    let long = g.met.R.Real.floats_length a.out.now in
    let same = c.thirty_twos-done.auto.out in
    join_end r.format a.f (r.floats a.low.now) (r.floats a.high.now) (r.floats a.approx.now) (r.floats a.detail.now) c.thirty_twos-done.result c.loop-k.k (r.floats a.out.now)
    (omega (arith, c.loop-k.auto)) (omega (arith, c.loop-k.auto, c.thirty_twos-done.ensures.0, same, long)) (omega (arith, c.loop-k-test.false, same, long, c.requires.all.ruled, c.requires.all.even)) c.thirty_twos-done.ensures.1 c.loop-k.invariant
