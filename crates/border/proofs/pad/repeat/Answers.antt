-- `border::pad::repeat` meets its contract: each turn writes one place more.
use mathlib.Core.Path.{refl}
use native.Mathlib.Omega.{arith}
use Rattle.numbers.specs.Write.{placed_start, placed_step}
use Rattle.border.proofs.pad.repeat.Goals as goal

pub loop-i-init : goal.loop-i-init
loop-i-init g c = placed_start _ _ _

pub loop-i-preserved : goal.loop-i-preserved
loop-i-preserved g c = let a = c.args in let r = g.met.R.Real in
    simp (r.floats_set) (placed_step (λ k. g.R.Real.float a.x) a.from c.loop-i.i (g.R.Real.floats a.s.now) (omega (arith, c.requires, c.loop-i-test.true, r.floats_length a.s.now)) c.loop-i.invariant refl)
