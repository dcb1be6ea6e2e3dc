-- `level_sizes::levels_scratch` meets its contract: it is refused where the tests refuse, and else it is the length.
use Rattle.packed.specs.Tested.{asked_done}
use mathlib.Core.Path.{◌∙◌, sym}
use Rattle.level_sizes.proofs.levels_scratch.Goals as goal

pub scratch_need-requires : goal.scratch_need-requires
scratch_need-requires c = (asked_done c.args.n c.args.f c.args.levels (sym c.asked_answer.ensures ∙ c.in_ok-asked_answer.was)).sound
