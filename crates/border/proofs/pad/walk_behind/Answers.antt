-- `border::pad::walk_behind` meets its contract: each turn goes one place on and puts one place more behind those that are there; the samples stay.
use mathlib.Core.Path.{◌≡◌, sym, ap, ◌∙◌, subst}
use Prim.Native.Nat.{ℕ, ◌+◌, ◌-◌, ◌%◌, ◌<◌}
use native.Mathlib.Nat.{mod-eq_of_lt}
use native.Mathlib.Omega.{arith}
use Rattle.numbers.specs.Write.{placed_start, placed_end, replaced_step}
use Rattle.border.specs.Rule.{modulo, place_in}
use Rattle.border.specs.Reach.{Walkable, lap_at}
use Rattle.border.specs.Rules.{mod_low, modulo_line, modulo_on}
use Rattle.border.specs.Ways.{lap_put}
use Rattle.border.proofs.pad.walk_behind.Goals as goal

pub loop-p-init : goal.loop-p-init
loop-p-init g c = let a = c.args in
    let last : a.n - 1 < a.period = omega (arith, c.requires.1, c.requires.0.laps) in
    let e : a.left + (a.n - 1) ≡ a.left + a.n - 1 = omega (arith, c.requires.0.laps) in (
      sym (mod-eq_of_lt last) ∙ sym (modulo_line a.period a.left (a.n - 1)) ∙ ap (λ (j : ℕ). modulo (place_in a.left j) a.period) e,
      last,
      placed_end _ _ 0 _ _ (placed_start _ _ _) (omega arith) (omega arith),
    )

pub loop-p-preserved : goal.loop-p-preserved
loop-p-preserved g c = let a = c.args in
    let x = g.R.Real.floats a.s.now in
    let p = c.loop-p.p in
    let long = g.met.R.Real.floats_length a.s.now in
    let walk = subst (λ (k : ℕ). Walkable a.n k a.left (a.left + a.n) a.right a.period a.turn a.top) (sym long) c.requires.0 in
    let on : p - 1 + 1 ≡ p = omega (arith, c.loop-p.auto, c.requires.0.laps) in
    let back : p ≡ p + 1 - 1 = omega arith in
    let q : c.next-q.result ≡ modulo (place_in a.left p) a.period =
    c.next-q.ensures
    ∙ ap (λ (r : ℕ). (r + 1) % a.period) c.loop-p.invariant.0
    ∙ sym (modulo_on a.period a.left (p - 1) 1 c.requires.0.laps.some)
    ∙ ap (λ (j : ℕ). modulo (place_in a.left j) a.period) on
    in (
      q ∙ ap (λ (j : ℕ). modulo (place_in a.left j) a.period) back,
      omega (arith, c.next-q.ensures, mod_low (c.loop-p.q + 1) a.period c.requires.0.laps.some),
      c.put.ensures
          ∙ replaced_step (lap_at a.left a.period a.turn a.top x) (a.left + a.n) p x (omega (arith, c.loop-p.auto)) (omega (arith, walk.room, c.loop-p-test.true)) c.loop-p.invariant.2
          (lap_put x walk _ (a.left + a.n) (p - (a.left + a.n)) c.next-q.result p c.loop-p.invariant.2 (omega arith) (omega (arith, c.loop-p.auto, c.loop-p-test.true)) q),
    )
