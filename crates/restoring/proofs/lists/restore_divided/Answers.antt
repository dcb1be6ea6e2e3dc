-- `restoring::lists::restore_divided` meets its contract. Where the answer is done every test passed, which gives the work what it asks for; on any other answer nothing was written.
use Rattle.restoring.specs.Tested.{restoring}
use Rattle.restoring.specs.TestedDivided.{divided_done}
use mathlib.Core.Path.{◌∙◌, sym}
use Rattle.restoring.proofs.lists.restore_divided.Goals as goal

pub restore_by-requires : goal.restore_by-requires
restore_by-requires c = let r = restoring _ _ _ _ _ _ _ c.max.ensures (divided_done _ _ _ _ _ _ _ (sym c.divided_answer.ensures ∙ c.in_ok-divided_answer.was)).1 in
    (c.requires r.packs.sound.taps, r)
