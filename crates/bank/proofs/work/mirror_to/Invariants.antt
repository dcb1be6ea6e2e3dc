-- What each turn of `work::mirror_to` keeps.
use Rattle.std.proofs.Common.{◌≡◌}
use Rattle.numbers.specs.Words.{written}
use Rattle.bank.specs.Banks.{mirror}
use Rattle.bank.proofs.work.mirror_to.Given as goal

abbrev pub invariant-loop-j : goal.invariant-loop-j
invariant-loop-j g l = g.R.Real.floats l.high ≡ written (mirror (g.R.Real.floats l.low)) l.j (g.R.Real.floats l.initial.high)
