-- `plane_analysis::work::columns` meets its contract: each turn is one column more of either band, and the scratch changes nowhere but in the padded line.
use borrow.Rule.Slice.PartMut.{mid_len}
use Prim.Native.Nat.{ℕ, ◌+◌, ◌-◌, ◌*◌, ◌≤◌, ◌<◌}
use native.Mathlib.Omega.{arith}
use mathlib.Core.Path.{◌≡◌, refl, sym, ap, ◌∙◌}
use lib.ListN.{length, take, drop}
use lib.Ieee.{binary64}
use Rattle.bank.specs.Lengths.{pairs, padded_length}
use Rattle.analysis.specs.Lines.{band}
use Rattle.tables.specs.Tables.{line_of}
use Rattle.tables.specs.Stored.{line_end, one_more, filling_none, filling_next}
use Rattle.plane_analysis.specs.Steps.{still_next, column_made, each_band}
use Rattle.plane_analysis.proofs.work.columns.Goals as goal

pub loop-c-init : goal.loop-c-init
loop-c-init c = let a = c.args in
    let x = a.scratch.now in (
      record { long = refl; front = refl; beyond = refl },
      filling_none (λ k. band binary64 a.low.now a.f a.border (line_of a.height (drop a.base x) k)) c.dwt_length-b.result a.lo.now,
      filling_none (λ k. band binary64 a.high.now a.f a.border (line_of a.height (drop a.base x) k)) c.dwt_length-b.result a.hi.now,
    )

-- a band has the column's place
placed : {x p : ℕ} (m b k : ℕ) → b ≡ p → x ≡ m * p → k < m → k * b + b ≤ x
placed {p = p} m b k e q l = let r : m * b ≡ m * p = ap (λ (n : ℕ). m * n) e in omega (arith, line_end b l, r, q)

pub loop-c-preserved : goal.loop-c-preserved
loop-c-preserved c = let a = c.args in
    let i = c.loop-c.invariant in
    let k = c.loop-c.c in
    let x = a.scratch.now in
    let B = c.dwt_length-b.result in
    let eb = c.dwt_length-b.ensures in
    let end = a.start + padded_length a.height a.f in
    let zs = c.pad_line_within.new.s in
    let q = c.requires.1 in
    let lows = placed a.m B k eb q.lows c.loop-c-test.true in
    let highs = placed a.m B k eb q.highs c.loop-c-test.true in
    let part = mid_len (k * B) (k * B + B) c.loop-c.lo (omega (arith, lows)) in
    let lo : length (take (k * B + B - k * B) (drop (k * B) c.loop-c.lo)) ≡ pairs a.height a.f = omega (arith, part, eb) in
    let span : a.start + c.padded_length.result - a.start ≡ end - a.start = omega (arith, eb, c.padded_length.ensures) in
    let fits : a.base + a.m * a.height ≤ length x = omega (arith, q.before, q.room) in (
      still_next binary64 a.low.now a.f a.border a.base a.m a.height a.start end k x c.loop-c.scratch zs c.loop-c-test.true
          refl q.before q.room i.0 c.pad_line_within.ensures,
      filling_next (λ k. band binary64 a.low.now a.f a.border (line_of a.height (drop a.base x) k)) B k (k * B + B) a.lo.now (λ j h. each_band binary64 a.low.now a.f a.border a.base a.m a.height x fits j (omega arith) ∙ sym eb)
          (omega (arith, lows, one_more k B)) refl i.1
          (c.bands.ensures.0 ∙ column_made binary64 a.low.now a.f a.border a.base a.m a.height a.start end k x c.loop-c.scratch zs c.loop-c-test.true
          refl q.before q.room i.0 c.pad_line_within.ensures _ _ span lo),
      filling_next (λ k. band binary64 a.high.now a.f a.border (line_of a.height (drop a.base x) k)) B k (k * B + B) a.hi.now (λ j h. each_band binary64 a.high.now a.f a.border a.base a.m a.height x fits j (omega arith) ∙ sym eb)
          (omega (arith, highs, one_more k B)) refl i.2
          (c.bands.ensures.1 ∙ column_made binary64 a.high.now a.f a.border a.base a.m a.height a.start end k x c.loop-c.scratch zs c.loop-c-test.true
          refl q.before q.room i.0 c.pad_line_within.ensures _ _ span lo),
    )
