-- `synthesis::work::join_cleared` meets its contract: the output is cleared, and the bands are joined onto that.
use mathlib.Core.Path.{◌∙◌, ap}
use Rattle.synthesis.specs.Lines.{synthesised}
use Rattle.synthesis.proofs.work.join_cleared.Goals as goal

pub returns : goal.returns
returns g c = let a = c.args in let r = g.R.Real in
    c.join.ensures ∙ ap (synthesised r.format a.f (r.floats a.low.now) (r.floats a.high.now) (r.floats a.approx.now) (r.floats a.detail.now)) c.clear.ensures
