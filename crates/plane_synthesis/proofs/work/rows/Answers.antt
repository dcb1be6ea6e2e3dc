-- `plane_synthesis::work::rows` meets its contract: a row's bands stand side by side, so that the details are the same list, read so many numbers further.
use mathlib.Core.Path.{refl, ◌∙◌}
use lib.Ieee.{binary64}
use Rattle.plane_synthesis.specs.Steps.{rows_held, rest_all}
use Rattle.plane_synthesis.proofs.work.rows.Goals as goal

pub returns : goal.returns
returns c = let a = c.args in
    c.joins.ensures ∙ rows_held binary64 a.width a.height a.f _ _ c.dwt_length-m.result a.low.now a.high.now a.bands.now _ refl (rest_all c.dwt_length-m.result a.bands.now) c.requires.1 c.dwt_length-m.ensures
