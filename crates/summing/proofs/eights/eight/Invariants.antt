-- What each turn of `eights::eight` keeps.
use mathlib.Core.Path.{◌≡◌}
use lib.ListN.{length}
use Rattle.numbers.specs.Words.{tab}
use Rattle.summing.specs.Works.{sums_at}
use Rattle.summing.proofs.eights.eight.Given as goal

abbrev pub invariant-loop-j : goal.invariant-loop-j
invariant-loop-j g l = let r = g.R.Real in
    (length l.approx ≡ 8) × (length l.detail ≡ 8)
    × (r.floats l.approx ≡ tab (sums_at r.format (r.floats l.low) (r.floats l.padded) l.from l.j) 8) × (r.floats l.detail ≡ tab (sums_at r.format (r.floats l.high) (r.floats l.padded) l.from l.j) 8)
