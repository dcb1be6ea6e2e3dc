-- What each turn of `pad::walk_front` keeps.
use mathlib.Core.Path.{◌≡◌}
use Prim.Native.Nat.{◌-◌, ◌<◌}
use Rattle.numbers.specs.Words.{replaced}
use Rattle.border.specs.declared.rule.Place.TheVariants.{Before}
use Rattle.border.specs.Rule.{modulo}
use Rattle.border.specs.Reach.{lap_at}
use Rattle.border.proofs.pad.walk_front.Given as goal

abbrev pub invariant-loop-i : goal.invariant-loop-i
invariant-loop-i g l = let x = g.R.Real.floats l.initial.s in
    (l.q ≡ modulo (Before l.i) l.period) × (l.q < l.period)
    × (g.R.Real.floats l.s ≡ replaced (lap_at l.left l.period l.turn l.top x) (l.left - l.i) l.i x)
