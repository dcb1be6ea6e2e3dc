-- What each turn of `add_pairs` keeps.
use mathlib.Core.Path.{◌≡◌}
use Rattle.numbers.specs.Words.{written}
use Rattle.gathering.specs.Works.{onto_at}
use Rattle.gathering.proofs.add_pairs.Given as goal

abbrev pub invariant-loop-q : goal.invariant-loop-q
invariant-loop-q g l = let r = g.R.Real in
    r.floats l.sums ≡ written (onto_at r.format (r.floats l.low) (r.floats l.high) (r.floats l.approx) (r.floats l.detail) l.j l.i (r.floats l.initial.sums)) l.q (r.floats l.initial.sums)
