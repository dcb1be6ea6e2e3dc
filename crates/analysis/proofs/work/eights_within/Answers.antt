-- `analysis::work::eights_within` meets its contract: each turn puts eight places of either band, which are sums over a line that lies behind both.
use Prim.Native.Nat.{◌+◌, ◌-◌, ◌*◌}
use native.Mathlib.Omega.{arith}
use mathlib.Core.List.{List}
use mathlib.Core.Path.{◌≡◌, refl, ◌∙◌, ap}
use lib.ListN.{take, drop}
use lib.Ieee.{Float}
use Rattle.analysis.specs.Turns.{sums_at_lem}
use Rattle.analysis.specs.Works.{band_of, line_at}
use Rattle.analysis.specs.Halves.{halves_turn, line_same}
use Rattle.analysis.proofs.work.eights_within.Goals as goal

pub loop-k-preserved : goal.loop-k-preserved
loop-k-preserved g c = let a = c.args in
    let r = g.R.Real in
    let m = g.met.R.Real in
    let x = r.floats a.s.now in
    let i = 8 * c.loop-k.k in
    let low = r.floats a.low.now in
    let high = r.floats a.high.now in
    let line = line_at a.f a.from a.m x in
    let sums = c.eight-sums.result in
    let e = a.from + c.padded_length.result - a.from in
    let part = take e (drop a.from c.loop-k.s) in
    let seen : r.floats part ≡ take e (drop a.from (r.floats c.loop-k.s)) = simp (m.floats_take, m.floats_drop) refl in
    let same = seen ∙ line_same _ _ a.f a.from a.to a.m i e x (r.floats c.loop-k.s) c.requires.before (omega (arith, c.padded_length.ensures)) c.loop-k.invariant in
    halves_turn (band_of r.format low a.f line) (band_of r.format high a.f line) a.to a.m c.loop-k.k x (r.floats c.loop-k.s) (r.floats sums.approx) (r.floats sums.detail)
    (omega (arith, c.loop-k-test.true)) (omega (arith, c.requires.before, c.requires.within, m.floats_length a.s.now)) c.loop-k.invariant
    (λ q k. sums_at_lem r.format low (r.floats part) a.f i 8 c.eight-sums.ensures.0 q k ∙ ap (λ (y : List Float). band_of r.format low a.f y (i + q)) same)
    (λ q k. sums_at_lem r.format high (r.floats part) a.f i 8 c.eight-sums.ensures.1 q k ∙ ap (λ (y : List Float). band_of r.format high a.f y (i + q)) same)
    c.put.ensures c.put-in-loop-k.ensures
