-- `level_parts::read_place` meets its contract: it is refused where the tests refuse, then by 22 and 23, and else it reads the place, which lies in the buffer.
use Rattle.std.proofs.Common.{◌∙◌, sym, arith}
use Rattle.packed.specs.Tested.{held_done}
use Rattle.level_parts.proofs.read_place.Goals as goal

pub part_of-part-requires : goal.part_of-part-requires
part_of-part-requires c = record { split = (held_done _ _ _ _ (sym c.packed_answer.ensures ∙ c.in_default.is)).0; named = omega arith }
