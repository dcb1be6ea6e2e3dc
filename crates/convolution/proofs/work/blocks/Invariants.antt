-- What each turn of `work::blocks` keeps, and what falls with each.
use Rattle.std.specs.Prelude.{◌≤◌, ◌-◌}
use Rattle.convolution.specs.Works.{Summed}
use Rattle.convolution.proofs.work.blocks.Given as goal

abbrev pub invariant-loop-x : goal.invariant-loop-x
invariant-loop-x g l = let r = g.R.Real in (l.x ≤ l.n) × Summed r.format (r.floats l.kernel) (r.floats l.padded) l.x (r.floats l.out)

abbrev pub decreases-loop-x : goal.decreases-loop-x
decreases-loop-x g l = l.n - l.x
