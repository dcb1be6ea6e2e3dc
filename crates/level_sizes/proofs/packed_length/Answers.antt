-- `level_sizes::packed_length` meets its contract: it is refused where the tests refuse, and else it is the length.
use Rattle.packed.specs.Tested.{asked_done}
use mathlib.Core.Path.{◌∙◌, sym}
use Rattle.level_sizes.proofs.packed_length.Goals as goal

pub packed_need-requires : goal.packed_need-requires
packed_need-requires c = asked_done c.args.n c.args.f c.args.levels (sym c.asked_answer.ensures ∙ c.in_ok-asked_answer.was)
