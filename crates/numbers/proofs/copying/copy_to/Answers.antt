-- `numbers::copying::copy_to` meets its contract: behind the eights each turn copies the next number.
use mathlib.Core.Path.{◌≡◌, ◌∙◌, ap}
use Prim.Native.Nat.{ℕ, ◌+◌, ◌-◌}
use native.Mathlib.Omega.{arith}
use lib.ListN.{length}
use Rattle.numbers.specs.Words.{at, placed}
use Rattle.numbers.specs.Write.{placed_start, placed_step}
use Rattle.numbers.specs.Runs.{placed_more}
use Rattle.numbers.proofs.copying.copy_to.Goals as goal

pub loop-i-init : goal.loop-i-init
loop-i-init g c = let a = c.args in let r = g.R.Real in
    let n = c.copy_eights-n.result in
    let none : 0 ≡ n - n = omega arith in
    let x = r.floats c.copy_eights-n.new.s in
    placed_start (λ k. at (r.floats a.line.now) (n + k)) (a.to + n) x ∙ ap (λ (k : ℕ). placed (λ k. at (r.floats a.line.now) (n + k)) (a.to + n) k x) none

pub loop-i-preserved : goal.loop-i-preserved
loop-i-preserved g c = let a = c.args in let r = g.R.Real in let m = g.met.R.Real in
    let n = c.copy_eights-n.result in
    let i = c.loop-i.i in
    let x = r.floats c.copy_eights-n.new.s in
    let line = λ (k : ℕ). at (r.floats a.line.now) (n + k) in
    let here : a.to + n + (i - n) ≡ a.to + i = omega arith in
    let there : n + (i - n) ≡ i = omega arith in
    let more : i - n + 1 ≡ i + 1 - n = omega arith in
    let value = m.floats_at a.line.now i c.index-line-i.result (omega arith) in
    let step = placed_step line (a.to + n) (i - n) x {v = at (r.floats a.line.now) i} (omega (arith, c.requires, m.floats_length c.copy_eights-n.new.s)) c.loop-i.invariant (ap (at (r.floats a.line.now)) (omega (arith, there))) in
    simp m.floats_set (cc)

pub returns : goal.returns
returns g c = let a = c.args in let r = g.R.Real in
    let x = r.floats a.line.now in
    let n = c.copy_eights-n.result in
    let i = c.loop-i.i in
    let all : n + (i - n) ≡ length a.line.now = omega (arith, c.copy_eights-n.ensures.0) in
    c.loop-i.invariant ∙ ap (placed (λ k. at x (n + k)) (a.to + n) (i - n)) c.copy_eights-n.ensures.1
    ∙ placed_more (at x) a.to (r.floats a.s.now) n (i - n) (omega (arith, all, c.requires, g.met.R.Real.floats_length a.s.now))
    ∙ ap (λ (k : ℕ). placed (at x) a.to k (r.floats a.s.now)) all
