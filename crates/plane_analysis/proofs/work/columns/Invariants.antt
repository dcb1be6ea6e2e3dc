-- What each turn of `work::columns` keeps: so many columns of either band, and the scratch but for the padded line.
use Prim.Native.Nat.{◌+◌, ◌*◌}
use mathlib.Core.Path.{◌≡◌}
use mathlib.Core.List.{◌++◌}
use lib.ListN.{drop}
use lib.Ieee.{binary64}
use Rattle.bank.specs.Lengths.{padded_length}
use Rattle.analysis.specs.Lines.{band}
use Rattle.tables.specs.Tables.{line_of, stored}
use Rattle.plane_analysis.specs.Works.{Still}
use Rattle.plane_analysis.proofs.work.columns.Given as goal

abbrev pub invariant-loop-c : goal.invariant-loop-c
invariant-loop-c l = Still l.start (l.start + padded_length l.height l.f) l.initial.scratch l.scratch
    × (l.lo ≡ stored (λ k. band binary64 l.low l.f l.border (line_of l.height (drop l.base l.initial.scratch) k)) l.c ++ drop (l.c * l.b) l.initial.lo)
    × (l.hi ≡ stored (λ k. band binary64 l.high l.f l.border (line_of l.height (drop l.base l.initial.scratch) k)) l.c ++ drop (l.c * l.b) l.initial.hi)
