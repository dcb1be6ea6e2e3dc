-- What each turn of `eights::put` keeps.
use mathlib.Core.Path.{◌≡◌}
use Rattle.numbers.specs.Words.{at, placed}
use Rattle.summing.proofs.eights.put.Given as goal

abbrev pub invariant-loop-q : goal.invariant-loop-q
invariant-loop-q g l = let r = g.R.Real in r.floats l.out ≡ placed (at (r.floats l.sums)) l.to l.q (r.floats l.initial.out)
