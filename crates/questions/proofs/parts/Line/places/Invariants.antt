-- `places` answers with places of the line: each turn goes one part on.
use Rattle.std.proofs.Common.{◌≤◌}
use Rattle.questions.proofs.parts.Line.places.Given as goal

abbrev pub invariant-loop : goal.invariant-loop
invariant-loop l = (l.places.start ≤ l.places.end) × (l.places.end ≤ 8192)
