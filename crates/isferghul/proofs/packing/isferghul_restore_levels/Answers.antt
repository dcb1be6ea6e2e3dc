-- `isferghul_restore_levels` meets its contract: it tells what the entry promises of these lists, and where it is done which buffer holds the line and how long it is.
use Rattle.std.proofs.Common.{◌∙◌, refl, sym}
use Rattle.packed.specs.Tested.{done_alone}
use Rattle.restoring.specs.Tested.{restoring}
use Rattle.restoring.specs.Handed.{fronted}
use Rattle.isferghul.proofs.packing.isferghul_restore_levels.Goals as goal

pub restoring_need-requires : goal.restoring_need-requires
restoring_need-requires c = let a = c.args in
    (fronted a.levels (restoring a.n _ a.levels _ _ _ _ refl (sym c.restore_levels-answer.ensures.answer ∙ done_alone _ (sym c.levels-number.ensures.given ∙ c.if-number-ne0.false)))).ready
