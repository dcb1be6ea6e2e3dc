-- What each turn of `work::restore_by` keeps.
use Rattle.dividing.specs.Divisions.{finished}
use Rattle.restoring.specs.Lines.{first_by, second_by}
use lib.Ieee.{binary64}
use mathlib.Core.Path.{◌≡◌}
use Rattle.restoring.proofs.work.restore_by.Given as goal

abbrev pub invariant-loop-j : goal.invariant-loop-j
invariant-loop-j l = record {
  firsts : l.first ≡ first_by (finished binary64 l.how) binary64 l.f l.low l.high l.packed l.n l.levels l.j l.initial.first;
  seconds : l.second ≡ second_by (finished binary64 l.how) binary64 l.f l.low l.high l.packed l.n l.levels l.j l.initial.second;
}
