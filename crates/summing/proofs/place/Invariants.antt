-- What each turn of `place` keeps.
use mathlib.Core.Path.{◌≡◌}
use Rattle.summing.specs.Sums.{tap_sum}
use Rattle.summing.proofs.place.Given as goal

abbrev pub invariant-loop-j : goal.invariant-loop-j
invariant-loop-j g l = let r = g.R.Real in
    (r.float l.sums.approx ≡ tap_sum r.format (r.floats l.low) (r.floats l.padded) l.from l.j) × (r.float l.sums.detail ≡ tap_sum r.format (r.floats l.high) (r.floats l.padded) l.from l.j)
