-- What each turn of `depth::down` keeps, and what falls with each.
use Prim.Native.Nat.{◌-◌, ◌≤◌}
use Rattle.packed.specs.Lengths.{line_after, too_short, details_to}
use mathlib.Core.Bool.{false}
use mathlib.Core.Path.{◌≡◌}
use Rattle.packed.proofs.depth.down.Given as goal

abbrev pub invariant-loop-k : goal.invariant-loop-k
invariant-loop-k l = (l.k ≤ l.levels) × (too_short l.n l.f l.k ≡ false) × (l.details ≡ details_to l.n l.f l.k) × (l.line ≡ line_after l.n l.f l.k)

abbrev pub decreases-loop-k : goal.decreases-loop-k
decreases-loop-k l = l.levels - l.k
