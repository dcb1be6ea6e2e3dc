-- What each turn of `work::block` keeps: before tap i each sum holds the products of the taps before it.
use Rattle.std.specs.Prelude.{◌≡◌, ◌-◌, length}
use Rattle.numbers.specs.Words.{tab}
use Rattle.convolution.specs.Works.{sum_from}
use Rattle.convolution.proofs.work.block.Given as goal

abbrev pub invariant-loop-i : goal.invariant-loop-i
invariant-loop-i g l = let r = g.R.Real in r.floats l.sums ≡ tab (sum_from r.format (r.floats l.kernel) (r.floats l.padded) l.x (l.i - 1)) (length (r.floats l.initial.sums))
