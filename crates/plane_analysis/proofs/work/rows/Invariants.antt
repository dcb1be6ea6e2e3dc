-- What each turn of `work::rows` keeps: so many rows of the table.
use Prim.Native.Nat.{◌+◌}
use lib.Ieee.{binary64}
use Rattle.bank.specs.Lengths.{padded_length}
use Rattle.plane_analysis.specs.Works.{Rowed}
use Rattle.plane_analysis.proofs.work.rows.Given as goal

abbrev pub invariant-loop-r : goal.invariant-loop-r
invariant-loop-r l = Rowed binary64 l.low l.high l.f l.border l.plane l.width l.r l.m (l.start + padded_length l.width l.f) l.initial.scratch l.scratch
