-- `bank::taps::mirror` meets its contract: lists that make no bank have no taps; else the taps are written over the whole list.
use Rattle.bank.specs.Pairs.{mirror_refused, mirror_over}
use Rattle.bank.proofs.taps.mirror.Goals as goal

pub returns-then-taps_of-eq0 : goal.returns-then-taps_of-eq0
returns-then-taps_of-eq0 g c = mirror_refused _ _ (simp (g.met.R.Real.floats_length) c.taps_of.ensures) c.if-taps_of-eq0.true

pub returns : goal.returns
returns g c = let r = g.met.R.Real in
    mirror_over _ _ (simp (r.floats_length) c.taps_of.ensures) c.if-taps_of-eq0.false (simp (r.floats_length) c.mirror_to.ensures)
