-- `level_sizes::level_part` meets its contract: it is refused where the tests refuse, then by 22, and else it is the part.
use Rattle.std.proofs.Common.{◌∙◌, sym, arith}
use Rattle.packed.specs.Tested.{asked_done}
use Rattle.level_sizes.proofs.level_part.Goals as goal

pub part_of-part-requires : goal.part_of-part-requires
part_of-part-requires c = record { split = asked_done _ _ _ (sym c.asked_answer.ensures ∙ c.in_ok-asked_answer.was); named = omega arith }
