-- `level_sizes::most_levels` meets its contract: gone down as far as may be, the levels are the most.
use Rattle.std.specs.Prelude.{Ok}
use Rattle.packed.specs.Tested.{asked_done, as_far}
use Rattle.packed.specs.Works.{Split}
use mathlib.Core.Path.{◌∙◌, sym, ap}
use Rattle.level_sizes.proofs.most_levels.Goals as goal
use Rattle.level_sizes.proofs.most_levels.Goals.{In_ok-asked_answer}

all : (c : In_ok-asked_answer) → let a = c.args in Split a.n a.f 1
all c = asked_done c.args.n c.args.f 1 (sym c.asked_answer.ensures ∙ c.in_ok-asked_answer.was)

pub down-requires : goal.down-requires
down-requires c = (all (goal.at.down-requires c).In_ok-asked_answer).sound

pub returns : goal.returns
returns c = let a = c.args in
    record { answer = rw (sym c.asked_answer.ensures ∙ c.in_ok-asked_answer.was) (ap Ok (as_far a.n a.f c.down.result (all (goal.at.returns c).In_ok-asked_answer).sound c.down.ensures)) }
