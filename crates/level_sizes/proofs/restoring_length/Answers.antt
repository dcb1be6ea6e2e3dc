-- `level_sizes::restoring_length` meets its contract: it is refused where the tests refuse, and else it is the length.
use Rattle.packed.specs.Tested.{asked_done, first_line}
use mathlib.Core.Path.{◌∙◌, sym}
use Rattle.level_sizes.proofs.restoring_length.Goals as goal

pub restoring_need-requires : goal.restoring_need-requires
restoring_need-requires c = first_line (asked_done c.args.n c.args.f c.args.levels (sym c.asked_answer.ensures ∙ c.in_ok-asked_answer.was))
