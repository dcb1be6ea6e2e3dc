-- `border::pad::walk_front` meets its contract: each turn puts one place more in front of those that are there and goes one place back; the samples stay.
use mathlib.Core.Path.{◌≡◌, sym, ap, ◌∙◌, subst}
use Prim.Native.Nat.{ℕ, ◌+◌, ◌-◌, ◌%◌}
use native.Mathlib.Nat.{mod-eq_of_lt}
use native.Mathlib.Omega.{arith}
use borrow.Author.Tests.{lt-ltb}
use lib.Ieee.{nan}
use Rattle.numbers.specs.Write.{placed_start}
use Rattle.numbers.specs.Places.{replaced_front}
use Rattle.border.specs.declared.rule.Place.TheVariants.{Before}
use Rattle.border.specs.Rule.{modulo, place_in}
use Rattle.border.specs.Reach.{Walkable, lap_at}
use Rattle.border.specs.Rules.{mod_low, modulo_back}
use Rattle.border.specs.Ways.{lap_put}
use borrow.Author.Rules.{rules}
use Rattle.border.proofs.pad.walk_front.Goals as goal

pub loop-i-init : goal.loop-i-init
loop-i-init g c = let none : 0 % c.args.period ≡ 0 = mod-eq_of_lt c.requires.laps.some in (omega (arith, none), search rules, placed_start _ _ _)

pub loop-i-preserved : goal.loop-i-preserved
loop-i-preserved g c = let a = c.args in
    let x = g.R.Real.floats a.s.now in
    let i = c.loop-i.i in
    let long = g.met.R.Real.floats_length a.s.now in
    let walk = subst (λ (k : ℕ). Walkable a.n k a.left 0 a.left a.period a.turn a.top) (sym long) c.requires in
    let e : a.left - 1 - (a.left - 1 - i) ≡ i = omega (arith, c.loop-i-test.true) in
    let place : modulo (place_in a.left (a.left - 1 - i)) a.period ≡ modulo (Before i) a.period = simp (lt-ltb (a.left - 1 - i) a.left (omega (arith, c.loop-i-test.true)), e) in (
      c.prior-q.ensures ∙ ap (λ (r : ℕ). (r + (a.period - 1)) % a.period) c.loop-i.invariant.0 ∙ sym (modulo_back a.period i c.requires.laps.some),
      omega (arith, c.prior-q.ensures, mod_low (c.loop-i.q + (a.period - 1)) a.period c.requires.laps.some),
      c.put.ensures
          ∙ replaced_front nan (lap_at a.left a.period a.turn a.top x) a.left i x c.loop-i-test.true (omega (arith, walk.line)) c.loop-i.invariant.2
          (lap_put x walk _ (a.left - i) i c.loop-i.q (a.left - 1 - i) c.loop-i.invariant.2 (omega arith) (omega (arith, c.loop-i-test.true)) (c.loop-i.invariant.0 ∙ sym place)),
    )
