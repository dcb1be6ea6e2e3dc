-- `packed::packed_answer` meets its contract: the tests before it are those of the levels, and where they are done its own is the definition's.
use Rattle.std.proofs.Common.{◌∙◌, sym}
use Rattle.packed.specs.Tested.{asked_done}
use Rattle.packed.proofs.packed_answer.Goals as goal

pub packed_need-need-requires : goal.packed_need-need-requires
packed_need-need-requires c = asked_done _ _ _ (sym c.asked_answer.ensures ∙ c.in_ok-asked_answer.was)
