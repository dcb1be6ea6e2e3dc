-- `restoring::work::restore` meets its contract: with nothing done to a joined line both recursions are one.
use mathlib.Core.Path.{◌∙◌, sym}
use lib.Ieee.{binary64}
use Rattle.restoring.specs.Steps.{same_first, same_second}
use Rattle.restoring.proofs.work.restore.Goals as goal

pub returns : goal.returns
returns c = let a = c.args in (
  c.restore_by.ensures.0 ∙ sym (same_first binary64 a.f a.low.now a.high.now a.packed.now a.n a.levels a.first.now a.levels),
  c.restore_by.ensures.1 ∙ sym (same_second binary64 a.f a.low.now a.high.now a.packed.now a.n a.levels a.second.now a.levels),
)
