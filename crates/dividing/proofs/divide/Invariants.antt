-- What each turn of `divide` keeps.
use Rattle.std.proofs.Common.{◌≡◌, get_or}
use lib.Ieee.{nan, binary64, div}
use Rattle.numbers.specs.Words.{written}
use Rattle.dividing.proofs.divide.Given as goal

abbrev pub invariant-loop-x : goal.invariant-loop-x
invariant-loop-x l = l.line ≡ written (λ k. div binary64 (get_or l.initial.line k nan) l.s) l.x-index l.initial.line
