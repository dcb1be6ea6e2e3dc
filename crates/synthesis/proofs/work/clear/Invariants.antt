-- What each turn of `work::clear` keeps.
use mathlib.Core.Path.{◌≡◌}
use Rattle.numbers.specs.Words.{plus_zero, written}
use Rattle.synthesis.proofs.work.clear.Given as goal

abbrev pub invariant-loop-x : goal.invariant-loop-x
invariant-loop-x g l = g.R.Real.floats l.line ≡ written (λ p. plus_zero) l.x-index (g.R.Real.floats l.initial.line)
