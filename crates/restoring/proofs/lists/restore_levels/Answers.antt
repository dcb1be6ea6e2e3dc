-- `restoring::lists::restore_levels` meets its contract. Where the answer is done every test passed, which gives the work what it asks for; on any other answer nothing was written.
use Rattle.restoring.specs.Tested.{restoring}
use mathlib.Core.Path.{◌∙◌, sym}
use Rattle.restoring.proofs.lists.restore_levels.Goals as goal

pub restore-requires : goal.restore-requires
restore-requires c = let r = restoring _ _ _ _ _ _ _ c.max.ensures (sym c.restoring_answer.ensures ∙ c.in_ok-restoring_answer.was) in
    (c.requires r.packs.sound.taps, r)
