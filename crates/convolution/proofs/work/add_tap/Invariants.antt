-- What each turn of `work::add_tap` keeps.
use Rattle.std.specs.Prelude.{◌≡◌}
use Rattle.numbers.specs.Words.{written}
use Rattle.convolution.specs.Works.{more}
use Rattle.convolution.proofs.work.add_tap.Given as goal

abbrev pub invariant-loop-q : goal.invariant-loop-q
invariant-loop-q g l = let r = g.R.Real in r.floats l.sums ≡ written (more r.format (r.floats l.initial.sums) (r.floats l.padded) l.x (r.float l.tap)) l.q (r.floats l.initial.sums)
