-- `gathering::gather` meets its contract: after s pairs each of the sixteen sums has gathered s.
use mathlib.Core.Path.{◌∙◌, ap}
use native.Mathlib.Omega.{arith}
use lib.ListN.{length}
use Rattle.numbers.specs.Write.{length-tab}
use Rattle.gathering.specs.Turns.{gather_start, gather_step}
use Rattle.gathering.proofs.gather.Goals as goal

pub loop-s-init : goal.loop-s-init
loop-s-init g c = let a = c.args in let r = g.R.Real in (
  c.requires.1,
  gather_start r.format (r.floats a.low.now) (r.floats a.high.now) (r.floats a.approx.now) (r.floats a.detail.now) a.last a.k 16 (r.floats a.sums.now) (g.met.R.Real.floats_length a.sums.now ∙ c.requires.1),
)

pub loop-s-preserved : goal.loop-s-preserved
loop-s-preserved g c = let a = c.args in let r = g.R.Real in
    let next = gather_step r.format (r.floats a.low.now) (r.floats a.high.now) (r.floats a.approx.now) (r.floats a.detail.now) a.last a.k 16 (r.floats a.sums.now) c.loop-s.s c.loop-s.invariant.1 c.add_pairs.ensures in
    (omega (arith, g.met.R.Real.floats_length c.add_pairs.new.sums, ap length next ∙ length-tab _ 16), next)
