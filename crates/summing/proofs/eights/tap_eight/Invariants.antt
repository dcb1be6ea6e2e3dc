-- What each turn of `eights::tap_eight` keeps.
use mathlib.Core.Path.{◌≡◌}
use Rattle.numbers.specs.Words.{written}
use Rattle.summing.specs.Works.{tapped}
use Rattle.summing.proofs.eights.tap_eight.Given as goal

abbrev pub invariant-loop-q : goal.invariant-loop-q
invariant-loop-q g l = let r = g.R.Real in
    (r.floats l.approx ≡ written (tapped r.format (r.floats l.initial.approx) (r.float l.low) (r.floats l.padded) l.from) l.q (r.floats l.initial.approx))
    × (r.floats l.detail ≡ written (tapped r.format (r.floats l.initial.detail) (r.float l.high) (r.floats l.padded) l.from) l.q (r.floats l.initial.detail))
