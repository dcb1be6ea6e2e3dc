-- `numbers::copying::copy_eights` meets its contract: each turn copies the next eight.
use mathlib.Core.Path.{◌≡◌, ◌∙◌, ap}
use Prim.Native.Nat.{ℕ, ◌+◌, ◌*◌}
use native.Mathlib.Omega.{arith}
use Rattle.numbers.specs.Words.{at, placed}
use Rattle.numbers.specs.Write.{placed_start}
use Rattle.numbers.specs.Runs.{placed_more}
use Rattle.numbers.proofs.copying.copy_eights.Goals as goal

pub loop-t-init : goal.loop-t-init
loop-t-init g c = placed_start _ _ _

pub loop-t-preserved : goal.loop-t-preserved
loop-t-preserved g c = let a = c.args in let r = g.R.Real in
    let x = r.floats a.line.now in
    let t = c.loop-t.t in
    let next : 8 * t + 8 ≡ 8 * (t + 1) = omega arith in
    c.copy_eight.ensures ∙ ap (placed (λ k. at x (8 * t + k)) (a.to + 8 * t) 8) c.loop-t.invariant
    ∙ placed_more (at x) a.to (r.floats a.s.now) (8 * t) 8 (omega (arith, c.requires, g.met.R.Real.floats_length a.s.now))
    ∙ ap (λ (n : ℕ). placed (at x) a.to n (r.floats a.s.now)) next
