-- What each turn of `seconds::put_seconds` keeps.
use Rattle.gathering.specs.Works.{Seconds}
use Rattle.gathering.proofs.seconds.put_seconds.Given as goal

abbrev pub invariant-loop-q : goal.invariant-loop-q
invariant-loop-q g l = let r = g.R.Real in Seconds l.from (r.floats l.sums) (r.floats l.initial.line) (r.floats l.line) l.q
