-- `isferghul_restore_divided` meets its contract: it tells what the entry promises of these lists, and where it is done which buffer holds the line and how long it is.
use Rattle.std.proofs.Common.{◌∙◌, refl, sym}
use Rattle.restoring.specs.Tested.{restoring}
use Rattle.restoring.specs.TestedDivided.{divided_done, divided_alone}
use Rattle.restoring.specs.Handed.{fronted}
use Rattle.isferghul.proofs.packing.isferghul_restore_divided.Goals as goal

pub restoring_need-requires : goal.restoring_need-requires
restoring_need-requires c = let a = c.args in
    let answer = c.restore_divided-answer in
    (fronted a.levels (restoring a.n _ a.levels _ _ _ _ refl (divided_done _ _ _ _ _ _ _ (sym answer.ensures.answer ∙ divided_alone _ _ _ _ _ _ _ answer.result answer.ensures.answer (sym c.divided-number.ensures.given ∙ c.if-number-ne0.false))).1)).ready
