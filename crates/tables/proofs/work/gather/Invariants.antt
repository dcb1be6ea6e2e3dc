-- What each turn of `work::gather` keeps.
use mathlib.Core.Path.{◌≡◌}
use Prim.Native.Nat.{◌+◌, ◌*◌}
use Rattle.numbers.specs.Words.{at, placed}
use Rattle.tables.proofs.work.gather.Given as goal

abbrev pub invariant-loop-k : goal.invariant-loop-k
invariant-loop-k l = (l.at ≡ l.from + l.k * l.n) × (l.s ≡ placed (λ j. at l.initial.s (l.from + j * l.n)) l.to l.k l.initial.s)
