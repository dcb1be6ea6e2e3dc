-- What each turn of `pad::repeat` keeps.
use mathlib.Core.Path.{◌≡◌}
use Rattle.numbers.specs.Words.{placed}
use Rattle.border.proofs.pad.repeat.Given as goal

abbrev pub invariant-loop-i : goal.invariant-loop-i
invariant-loop-i g l = g.R.Real.floats l.s ≡ placed (λ k. g.R.Real.float l.x) l.from l.i (g.R.Real.floats l.initial.s)
