-- `plane_analysis::work::rows` meets its contract: each turn is one row more of the table.
use borrow.Rule.Slice.PartMut.{mid_len}
use Prim.Native.Nat.{ℕ, ◌+◌, ◌-◌, ◌*◌, ◌≤◌}
use native.Mathlib.Omega.{arith}
use mathlib.Core.Path.{◌≡◌, sym, ap, subst}
use lib.ListN.{length, take, drop}
use lib.Ieee.{binary64}
use Rattle.bank.specs.Lengths.{padded_length}
use Rattle.plane_analysis.specs.Works.{Rowed}
use Rattle.plane_analysis.specs.Steps.{rowed_none, rowed_next}
use Rattle.plane_analysis.proofs.work.rows.Goals as goal

pub loop-r-init : goal.loop-r-init
loop-r-init c = let a = c.args in rowed_none binary64 a.low.now a.high.now a.f a.border a.plane.now a.width a.height a.m c.requires.1.many c.requires.1.filled _ a.scratch.now

pub loop-r-preserved : goal.loop-r-preserved
loop-r-preserved c = let a = c.args in
    let q = c.requires.1 in
    let r = c.loop-r.r in
    let from = r * a.width in
    let end = a.start + c.padded_length.result in
    let z : a.start + padded_length a.width a.f ≡ end = omega (arith, q.many, c.padded_length.ensures) in
    let room : end ≤ length a.scratch.now = omega (arith, q.room, z) in
    subst (λ (n : ℕ). Rowed binary64 a.low.now a.high.now a.f a.border a.plane.now a.width (r + 1) a.m n a.scratch.now c.bands_within.new.s) (sym z)
    (rowed_next binary64 a.low.now a.high.now a.f a.border a.plane.now a.width a.height a.m q.many q.filled
    r a.start end a.scratch.now c.loop-r.scratch c.pad_line.new.scratch c.bands_within.new.s _ _ c.loop-r-test.true q.ready.taps.two (ap (λ (n : ℕ). a.start + n) c.padded_length.ensures) q.before room
    (subst (λ (n : ℕ). Rowed binary64 a.low.now a.high.now a.f a.border a.plane.now a.width r a.m n a.scratch.now c.loop-r.scratch) z c.loop-r.invariant)
    (ap (λ (n : ℕ). take n (drop from a.plane.now)) (let z : from + a.width - from ≡ a.width = omega arith in z))
    (mid_len a.start end c.loop-r.scratch (omega (arith, room, c.loop-r.invariant.long)))
    c.pad_line.ensures c.bands_within.ensures)
