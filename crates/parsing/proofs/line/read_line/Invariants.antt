-- What each turn of `line::read_line` keeps: so far the line has not ended.
use mathlib.Core.Bool.{false}
use mathlib.Core.Path.{◌≡◌}
use Rattle.phases.specs.Phases.{closed_at}
use Rattle.parsing.specs.Reaching.{Reached}
use Rattle.parsing.proofs.line.read_line.Given as goal

abbrev pub invariant-loop-at : goal.invariant-loop-at
invariant-loop-at l = Reached l.text l.from l.initial.out l.out l.phase l.at l.count × (closed_at l.phase ≡ false)
