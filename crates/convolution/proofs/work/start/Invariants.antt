-- What each turn of `work::start` keeps.
use Rattle.std.specs.Prelude.{◌≡◌}
use Rattle.numbers.specs.Words.{written}
use Rattle.convolution.specs.Works.{product}
use Rattle.convolution.proofs.work.start.Given as goal

abbrev pub invariant-loop-q : goal.invariant-loop-q
invariant-loop-q g l = let r = g.R.Real in r.floats l.sums ≡ written (product r.format (r.floats l.padded) l.x (r.float l.tap)) l.q (r.floats l.initial.sums)
