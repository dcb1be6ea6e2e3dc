-- `levels::lists::analyse_levels` meets its contract. Where the answer is done every test passed, which gives the work what it asks for; on any other answer nothing was written.
use Rattle.std.proofs.Common.{◌∙◌, sym}
use Rattle.levels.specs.Tested.{splitting}
use Rattle.levels.proofs.lists.analyse_levels.Goals as goal

pub split-requires : goal.split-requires
split-requires c = let p = splitting _ _ _ _ _ _ c.max.ensures (sym c.levels_answer.ensures ∙ c.in_ok-levels_answer.was) in
    (c.requires p.packs.sound.taps, p)
