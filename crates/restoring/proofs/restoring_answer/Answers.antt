-- `restoring::restoring_answer` meets its contract: the tests before it are those of the packed buffer, and where they are done its own are the definition's, in its order.
use Rattle.std.proofs.Common.{◌∙◌, sym}
use Rattle.packed.specs.Tested.{held_done, first_line}
use Rattle.restoring.proofs.restoring_answer.Goals as goal

pub restoring_need-need-requires : goal.restoring_need-need-requires
restoring_need-need-requires c = first_line (held_done _ _ _ _ (sym c.packed_answer.ensures ∙ c.in_ok-packed_answer.was)).0
