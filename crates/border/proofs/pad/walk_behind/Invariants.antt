-- What each turn of `pad::walk_behind` keeps.
use mathlib.Core.Path.{◌≡◌}
use Prim.Native.Nat.{◌+◌, ◌-◌, ◌<◌}
use Rattle.numbers.specs.Words.{replaced}
use Rattle.border.specs.Rule.{modulo, place_in}
use Rattle.border.specs.Reach.{lap_at}
use Rattle.border.proofs.pad.walk_behind.Given as goal

abbrev pub invariant-loop-p : goal.invariant-loop-p
invariant-loop-p g l = let x = g.R.Real.floats l.initial.s in
    (l.q ≡ modulo (place_in l.left (l.p - 1)) l.period) × (l.q < l.period)
    × (g.R.Real.floats l.s ≡ replaced (lap_at l.left l.period l.turn l.top x) (l.left + l.n) (l.p - (l.left + l.n)) x)
