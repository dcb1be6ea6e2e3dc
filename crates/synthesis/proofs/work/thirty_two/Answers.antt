-- `synthesis::work::thirty_two` meets its contract: one turn for the even places, one for the odd.
use native.Mathlib.Omega.{arith}
use Rattle.synthesis.specs.Runs.{joinable_by, turn_step, turn_end}
use Rattle.synthesis.proofs.work.thirty_two.Goals as goal

pub loop-e-preserved : goal.loop-e-preserved
loop-e-preserved g c = let a = c.args in
    let r = g.R.Real in
    let long = g.met.R.Real.floats_length in
    turn_step r.format a.f (r.floats a.low.now) (r.floats a.high.now) (r.floats a.approx.now) (r.floats a.detail.now) a.k (r.floats a.out.now) (r.floats c.loop-e.out) c.loop-e.e
    (joinable_by c.requires.0.all (long a.approx.now) (long a.detail.now) (long a.out.now)) (omega (arith, c.requires.1, long a.out.now))
    (omega (arith, c.loop-e-test.true)) c.loop-e.invariant c.sixteen.ensures

pub returns : goal.returns
returns g c = let a = c.args in let r = g.R.Real in
    turn_end r.format a.f (r.floats a.low.now) (r.floats a.high.now) (r.floats a.approx.now) (r.floats a.detail.now) a.k (r.floats a.out.now) (r.floats c.loop-e.out) c.loop-e.e
    (omega (arith, c.requires.1, g.met.R.Real.floats_length a.out.now)) (omega (arith, c.loop-e-test.false)) (omega (arith, c.loop-e.auto)) c.loop-e.invariant
