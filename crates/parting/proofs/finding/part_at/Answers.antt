-- `parting::finding::part_at` meets its contract: a place that differs is the first where the lists part.
use mathlib.Core.Path.{sym, ◌∙◌}
use native.Mathlib.Omega.{arith}
use Rattle.parting.specs.Firsts.{both_have, part_first}
use Rattle.parting.proofs.finding.part_at.Goals as goal

pub returns-then-differ : goal.returns-then-differ
returns-then-differ c = let a = c.args in
    let here = both_have a.x.now a.y.now c.loop-i.i (omega arith) (omega arith) ∙ sym c.differ.ensures ∙ c.if-differ.true in
    sym (part_first a.x.now a.y.now (record { here = here; earlier = c.loop-i.invariant }))
