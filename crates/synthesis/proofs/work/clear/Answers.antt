-- `synthesis::work::clear` meets its contract: each turn clears one place more, from the front.
use mathlib.Core.Path.{◌∙◌, ap}
use Rattle.numbers.specs.Words.{cleared}
use Rattle.numbers.specs.Write.{written_start, written_step, written_full}
use native.Mathlib.Omega.{arith}
use Rattle.synthesis.proofs.work.clear.Goals as goal

pub loop-x-init : goal.loop-x-init
loop-x-init g c = written_start _ _

pub loop-x-preserved : goal.loop-x-preserved
loop-x-preserved g c = let m = g.met.R.Real in
    simp m.floats_set (written_step _ _ (g.R.Real.floats c.args.line.now) (omega (arith, c.loop-x-test.true, m.floats_length c.args.line.now)) c.loop-x.invariant c.zero.ensures)

pub returns : goal.returns
returns g c = let long = g.met.R.Real.floats_length c.args.line.now in
    written_full _ _ (g.R.Real.floats c.args.line.now) c.loop-x.invariant (omega (arith, long, c.loop-x.auto)) (omega (arith, long, c.loop-x-test.false)) ∙ ap cleared long
