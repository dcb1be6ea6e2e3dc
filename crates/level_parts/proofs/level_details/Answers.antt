-- `level_parts::level_details` meets its contract: where handing out is refused the part is empty, and else it is the level's, which lies in the buffer, at its start.
use Rattle.std.proofs.Common.{◌∙◌, refl, sym}
use Rattle.level_parts.specs.Tested.{handing_done, handed_none}
use Rattle.level_parts.proofs.level_details.Goals as goal

pub returns-in_default : goal.returns-in_default
returns-in_default c = handed_none c.handing_answer.result c.handing_answer.ensures (c.in_default.not-Ok tt) refl refl

pub part_of-part-requires : goal.part_of-part-requires
part_of-part-requires c = (handing_done _ _ _ _ _ (sym c.handing_answer.ensures ∙ c.in-Ok.is)).0
