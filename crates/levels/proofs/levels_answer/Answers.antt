-- `levels::levels_answer` meets its contract: the tests before it are those of the packed buffer, and where they are done its own is the definition's.
use Rattle.std.proofs.Common.{◌∙◌, sym}
use Rattle.packed.specs.Tested.{held_done}
use Rattle.levels.proofs.levels_answer.Goals as goal

pub scratch_need-need-requires : goal.scratch_need-need-requires
scratch_need-need-requires c = (held_done _ _ _ _ (sym c.packed_answer.ensures ∙ c.in_ok-packed_answer.was)).0.sound
