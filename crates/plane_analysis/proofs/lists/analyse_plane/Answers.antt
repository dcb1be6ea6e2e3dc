-- `plane_analysis::lists::analyse_plane` meets its contract. Where the answer is done every test passed, which gives the work what it asks for; on any other answer nothing was written.
use native.Mathlib.Omega.{arith}
use mathlib.Core.Path.{◌∙◌, sym}
use Rattle.plane_analysis.specs.Tested.{analysing}
use Rattle.plane_analysis.proofs.lists.analyse_plane.Goals as goal

pub split_plane-requires : goal.split_plane-requires
split_plane-requires c = let p = analysing _ _ _ _ _ _ _ _ _ (sym c.plane_analysis_answer.ensures ∙ c.in_ok-plane_analysis_answer.was) in
    (c.requires p.held.sides.taps, record { held = p.held; wide = p.wide; high = p.high; bands = omega (arith, p.bands) })
