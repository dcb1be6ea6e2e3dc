-- What each turn of `work::first_difference` keeps: nothing is found, and the bands agree below the place.
use mathlib.Core.Path.{◌≡◌}
use Prim.Native.Nat.{◌+◌, ◌*◌}
use Rattle.comparing.specs.declared.Compared.TheVariants.{Equal}
use Rattle.comparing.specs.Comparings.{Agree}
use Rattle.comparing.proofs.work.first_difference.Given as goal

abbrev pub invariant-loop-row : goal.invariant-loop-row
invariant-loop-row l = (l.found ≡ Equal) × Agree l.first l.second (l.column * l.height + l.row)

abbrev pub invariant-scan : goal.invariant-scan
invariant-scan l = (l.found ≡ Equal) × Agree l.first l.second (l.column * l.height)
