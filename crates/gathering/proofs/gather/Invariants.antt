-- What each turn of `gather` keeps.
use mathlib.Core.Path.{◌≡◌}
use lib.ListN.{length}
use Rattle.numbers.specs.Words.{tab}
use Rattle.gathering.specs.Works.{gathered_at}
use Rattle.gathering.proofs.gather.Given as goal

abbrev pub invariant-loop-s : goal.invariant-loop-s
invariant-loop-s g l = let r = g.R.Real in
    (length l.sums ≡ 16) × (r.floats l.sums ≡ tab (gathered_at r.format (r.floats l.low) (r.floats l.high) (r.floats l.approx) (r.floats l.detail) l.last l.k (r.floats l.initial.sums) l.s) 16)
