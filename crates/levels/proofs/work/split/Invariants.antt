-- What each turn of `work::split` keeps.
use Rattle.levels.specs.Lines.{line_of, details_of, padded_lines}
use Rattle.levels.specs.Works.{line_held}
use Rattle.packed.specs.Lengths.{line_after, details_to}
use lib.Ieee.{binary64}
use lib.ListN.{length, take}
use mathlib.Core.Path.{◌≡◌}
use Rattle.levels.proofs.work.split.Given as goal

abbrev pub invariant-loop-k : goal.invariant-loop-k
invariant-loop-k l = record {
  behind : l.start ≡ details_to (length l.line) l.f l.k;
  left : l.n ≡ line_after (length l.line) l.f l.k;
  details : take l.start l.packed ≡ details_of binary64 l.low l.high l.f l.border l.line l.k;
  held : line_held l.line l.packed l.k l.start l.n ≡ line_of binary64 l.low l.f l.border l.line l.k;
  padded : l.scratch ≡ padded_lines binary64 l.low l.f l.border l.line l.k l.initial.scratch;
}
