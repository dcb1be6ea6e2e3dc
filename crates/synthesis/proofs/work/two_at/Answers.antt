-- `synthesis::work::two_at` meets its contract: pair after pair onto both places.
use Prim.Native.Nat.{ℕ, ◌+◌, ◌-◌, ◌*◌}
use mathlib.Core.Path.{◌≡◌, sym, ap, subst, ◌∙◌}
use native.Mathlib.Omega.{arith}
use Rattle.numbers.specs.Words.{at}
use Rattle.gathering.specs.Pairs.{onto}
use Rattle.synthesis.specs.Runs.{Two, joinable_by, two_start, one_more, two_end}
use Rattle.synthesis.proofs.work.two_at.Goals as goal

pub loop-s-init : goal.loop-s-init
loop-s-init g c = let a = c.args in
    let r = g.R.Real in
    let m = g.met.R.Real in
    let even = ap r.float c.index-out-k.is ∙ sym (m.floats_at a.out.now (2 * a.k) c.index-out-k.result (omega (arith, c.requires.1))) in
    let odd = ap r.float c.index-out-k-2.is ∙ sym (m.floats_at a.out.now (2 * a.k + 1) c.index-out-k-2.result (omega (arith, c.requires.1))) in
    let start = two_start r.format a.f (r.floats a.low.now) (r.floats a.high.now) (r.floats a.approx.now) (r.floats a.detail.now) a.k (r.floats a.out.now) in
    let none : a.k ≡ a.k + 0 = omega arith in
    subst
    (λ (n : ℕ). Two r.format a.f (r.floats a.low.now) (r.floats a.high.now) (r.floats a.approx.now) (r.floats a.detail.now) a.k (r.floats a.out.now) n (r.float c.index-out-k.result) (r.float c.index-out-k-2.result))
    none (record { evens = even ∙ start.evens; odds = odd ∙ start.odds })

pub loop-s-preserved : goal.loop-s-preserved
loop-s-preserved g c = let a = c.args in
    let r = g.R.Real in
    let m = g.met.R.Real in
    let s = c.loop-s.s in
    let i = a.k + s in
    let j = a.f - 2 - 2 * s in
    let low = r.floats a.low.now in
    let high = r.floats a.high.now in
    let approx = r.floats a.approx.now in
    let detail = r.floats a.detail.now in
    let old = r.floats a.out.now in
    let x = m.floats_at a.approx.now i c.index-approx-k.result (omega (arith, c.requires, c.loop-s-test.true)) in
    let y = m.floats_at a.detail.now i c.index-detail-k.result (omega (arith, c.requires, c.loop-s-test.true)) in
    let h = m.floats_at a.high.now j c.index-high-j.result (omega (arith, c.requires, c.loop-s-test.true)) in
    let l = m.floats_at a.low.now j c.index-low-j.result (omega (arith, c.requires, c.loop-s-test.true)) in
    let h' = m.floats_at a.high.now (j + 1) c.index-high-j-in-loop-s.result (omega (arith, c.requires, c.loop-s-test.true)) in
    let l' = m.floats_at a.low.now (j + 1) c.index-low-j-in-loop-s.result (omega (arith, c.requires, c.loop-s-test.true)) in
    let even : r.float c.add_product-even.result ≡ onto r.format (at low) (at high) j (at approx i) (at detail i) (r.float c.loop-s.even) = cc in
    let odd : r.float c.add_product-odd.result ≡ onto r.format (at low) (at high) (j + 1) (at approx i) (at detail i) (r.float c.loop-s.odd) = cc in
    let next : i + 1 ≡ a.k + (s + 1) = omega arith in
    subst (λ (n : ℕ). Two r.format a.f low high approx detail a.k old n (r.float c.add_product-even.result) (r.float c.add_product-odd.result)) next
    (record {
      evens = even ∙ one_more r.format a.f low high approx detail a.k 0 i (a.f - 2 * s) j (at old (2 * a.k)) (omega arith) (omega (arith, c.loop-s-test.true)) (omega (arith, c.loop-s-test.true)) (omega arith) c.loop-s.invariant.evens;
      odds = odd ∙ one_more r.format a.f low high approx detail a.k 1 i (a.f - 2 * s) (j + 1) (at old (2 * a.k + 1)) (omega arith) (omega (arith, c.loop-s-test.true)) (omega (arith, c.loop-s-test.true)) (omega (arith, c.loop-s-test.true)) c.loop-s.invariant.odds;
    })

pub returns : goal.returns
returns g c = let a = c.args in
    let r = g.R.Real in
    let m = g.met.R.Real in
    let long = m.floats_length in
    let even = c.requires.0.all.even in
    simp (m.floats_set)
    (two_end r.format a.f (r.floats a.low.now) (r.floats a.high.now) (r.floats a.approx.now) (r.floats a.detail.now) a.k (r.floats a.out.now)
    (a.k + c.loop-s.s) (a.f - 2 * c.loop-s.s) (joinable_by c.requires.0.all (long a.approx.now) (long a.detail.now) (long a.out.now)) (omega (arith, c.requires.1, long a.out.now))
    (omega arith) (omega (arith, c.loop-s.auto)) (omega (arith, c.loop-s-test.false, even)) c.loop-s.invariant)
