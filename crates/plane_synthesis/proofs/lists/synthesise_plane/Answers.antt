-- `plane_synthesis::lists::synthesise_plane` meets its contract. Where the answer is done every test passed, which gives the work what it asks for; on any other answer nothing was written.
use native.Mathlib.Omega.{arith}
use mathlib.Core.Path.{◌∙◌, sym}
use Rattle.plane_synthesis.specs.Tested.{synthesising}
use Rattle.plane_synthesis.proofs.lists.synthesise_plane.Goals as goal

pub join_plane-requires : goal.join_plane-requires
join_plane-requires c = let p = synthesising _ _ _ _ _ _ _ _ _ (sym c.plane_synthesis_answer.ensures ∙ c.in_ok-plane_synthesis_answer.was) in
    (c.requires p.held.sides.taps, record { held = p.held; bands = omega (arith, p.bands); even = p.even })
