-- `numbers::copying::copy_eight` meets its contract: eight places stored one after another are one run.
use mathlib.Core.Path.{◌≡◌, refl}
use Prim.Native.Nat.{◌+◌}
use native.Mathlib.Omega.{arith}
use Rattle.numbers.specs.Words.{at}
use Rattle.numbers.specs.Copies.{placed_eight}
use Rattle.numbers.proofs.copying.copy_eight.Goals as goal

pub returns : goal.returns
returns g c = let a = c.args in let r = g.R.Real in let m = g.met.R.Real in
    let x = r.floats a.line.now in
    let z : a.i + 0 ≡ a.i = omega arith in
    let e0 = m.floats_at a.line.now a.i c.index-line-i.result (omega arith) in
    let e1 = m.floats_at a.line.now (a.i + 1) c.index-line-i-2.result (omega arith) in
    let e2 = m.floats_at a.line.now (a.i + 2) c.index-line-i-3.result (omega arith) in
    let e3 = m.floats_at a.line.now (a.i + 3) c.index-line-i-4.result (omega arith) in
    let e4 = m.floats_at a.line.now (a.i + 4) c.index-line-i-5.result (omega arith) in
    let e5 = m.floats_at a.line.now (a.i + 5) c.index-line-i-6.result (omega arith) in
    let e6 = m.floats_at a.line.now (a.i + 6) c.index-line-i-7.result (omega arith) in
    let e7 = m.floats_at a.line.now (a.i + 7) c.index-line-i-8.result (omega arith) in
    let run = placed_eight (λ k. at x (a.i + k)) a.t (r.floats a.s.now) refl (omega (arith, m.floats_length a.s.now)) in
    simp m.floats_set (cc)
