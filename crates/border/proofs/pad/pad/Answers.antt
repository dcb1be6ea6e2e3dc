-- `border::pad::pad` meets its contract: the samples in place and both ends are the padded line.
use mathlib.Core.Path.{◌∙◌}
use native.Mathlib.Omega.{arith}
use lib.ListN.{length}
use Rattle.border.specs.Pads.{pad_all_by}
use Rattle.border.proofs.pad.pad.Goals as goal

pub returns : goal.returns
returns g c = let a = c.args in let r = g.met.R.Real in
    c.pad_ends.ensures
    ∙ pad_all_by a.border (g.R.Real.floats a.line.now) (g.R.Real.floats a.scratch.now) a.left a.right (length a.line.now) (r.floats_length a.line.now)
    c.requires.0 (omega (arith, c.requires.1, r.floats_length a.scratch.now)) _ c.copy_to.ensures
