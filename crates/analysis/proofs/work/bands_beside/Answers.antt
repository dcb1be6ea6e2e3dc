-- `analysis::work::bands_beside` meets its contract: it goes on from the eights, and each turn writes one place of either half, which is the pair of sums there.
use native.Mathlib.Omega.{arith}
use mathlib.Core.Path.{refl, ◌∙◌}
use Rattle.analysis.specs.Works.{band_of}
use Rattle.analysis.specs.Halves.{halves_again, beside_step, beside_all}
use Rattle.analysis.proofs.work.bands_beside.Goals as goal

pub loop-i-init : goal.loop-i-init
loop-i-init g c = let a = c.args in let r = g.R.Real in
    halves_again (band_of r.format (r.floats a.high.now) a.f (r.floats a.padded.now)) (band_of r.format (r.floats a.low.now) a.f (r.floats a.padded.now)) 0 a.m c.eights_beside-done.result c.eights_beside-done.ensures.1
    (λ j l. refl) (λ j l. refl)

pub loop-i-preserved : goal.loop-i-preserved
loop-i-preserved g c = let a = c.args in let r = g.R.Real in let m = g.met.R.Real in
    simp (m.floats_set)
    (beside_step (band_of r.format (r.floats a.high.now) a.f (r.floats a.padded.now)) (band_of r.format (r.floats a.low.now) a.f (r.floats a.padded.now)) a.m c.loop-i.i _ (r.floats c.loop-i.both) _ _
    c.loop-i-test.true (m.floats_length c.eights_beside-done.new.both ∙ c.eights_beside-done.auto.both ∙ c.requires.filled) c.loop-i.invariant c.place-p.ensures.1 c.place-p.ensures.0)

pub returns : goal.returns
returns g c = let a = c.args in let r = g.R.Real in let m = g.met.R.Real in
    beside_all (band_of r.format (r.floats a.high.now) a.f (r.floats a.padded.now)) (band_of r.format (r.floats a.low.now) a.f (r.floats a.padded.now)) a.m c.loop-i.i _ (r.floats c.loop-i.both)
    (m.floats_length c.eights_beside-done.new.both ∙ c.eights_beside-done.auto.both ∙ c.requires.filled) (omega (arith, c.loop-i.auto, c.eights_beside-done.ensures.0)) c.loop-i-test.false c.loop-i.invariant
