-- `levels::work::split` meets its contract: each turn is one level more of the recursion.
use Rattle.levels.specs.Steps.{details_start, line_start, scratch_start, Turn, turn, level_more, scratch_more}
use Rattle.bank.specs.Lengths.{pairs}
use Rattle.packed.specs.Falls.{line_none, details_none, details_next}
use borrow.Rule.Slice.PartMut.{mid_len}
use Prim.Native.Nat.{◌+◌}
use lib.Ieee.{binary64}
use lib.ListN.{length}
use mathlib.Core.Path.{◌∙◌, refl}
use native.Mathlib.Omega.{arith}
use Rattle.levels.proofs.work.split.Goals as goal
use Rattle.levels.proofs.work.split.Goals.{In-loop-k}

-- a turn's lengths
lengths : (c : In-loop-k)
    → let a = c.args in
    Turn (length a.line.now) a.f (length a.packed.now) (length a.scratch.now) c.loop-k.k c.loop-k.start c.loop-k.n (pairs c.loop-k.n a.f)
lengths c =
    let i = c.loop-k.invariant in
    turn _ _ c.args.levels _ _ _ _ _ _ c.requires.1 c.loop-k-test.true i.behind i.left refl

pub loop-k-init : goal.loop-k-init
loop-k-init c = let a = c.args in
    record {
      behind = details_none (length a.line.now) a.f;
      left = line_none (length a.line.now) a.f;
      details = details_start binary64 a.low.now a.high.now a.f a.border a.line.now a.packed.now;
      held = line_start binary64 a.low.now a.f a.border a.line.now a.packed.now;
      padded = scratch_start binary64 a.low.now a.f a.border a.line.now a.scratch.now;
    }

pub pad_level-requires : goal.pad_level-requires
pad_level-requires c = let t = (lengths (goal.at.pad_level-requires c).In-loop-k).held in
    record {
      first = record { ready = t.first.ready; room = omega (arith, t.first.room, c.loop-k.auto.scratch) };
      next = record { ready = t.next.ready; room = omega (arith, t.next.room, c.loop-k.auto.scratch) };
      inside = omega (arith, t.inside, c.loop-k.auto.packed);
    }

pub dwt_length-n-requires : goal.dwt_length-n-requires
dwt_length-n-requires c = let r = (lengths (goal.at.dwt_length-n-requires c).In-loop-k).held.next.ready in record { taps = r.taps; limit = r.limit }

pub overflow_add-end : goal.overflow_add-end
overflow_add-end c = omega (arith, (lengths (goal.at.overflow_add-end c).In-loop-k).inside)

pub overflow_add-end-in-loop-k : goal.overflow_add-end-in-loop-k
overflow_add-end-in-loop-k c = omega (arith, (lengths (goal.at.overflow_add-end-in-loop-k c).In-loop-k).inside)

pub offset_bounds-packed-start : goal.offset_bounds-packed-start
offset_bounds-packed-start c = omega (arith, (lengths (goal.at.offset_bounds-packed-start c).In-loop-k).inside)

pub slice_bounds-bands_beside-end : goal.slice_bounds-bands_beside-end
slice_bounds-bands_beside-end c = omega (arith, (lengths (goal.at.slice_bounds-bands_beside-end c).In-loop-k).inside)

pub bands_beside-requires : goal.bands_beside-requires
bands_beside-requires c = let t = lengths (goal.at.bands_beside-requires c).In-loop-k in
    let m = c.dwt_length-n.result in
    record {
      lows = omega arith;
      highs = omega arith;
      filled = mid_len c.loop-k.start (c.loop-k.start + (m + m)) c.loop-k.packed (omega (arith, t.inside)) ∙ omega arith;
      within = omega (arith, t.held.next.room, t.held.next.ready.taps.two);
    }

pub loop-k-preserved : goal.loop-k-preserved
loop-k-preserved c = let a = c.args in
    let i = c.loop-k.invariant in
    let k = c.loop-k.k in
    let start = c.loop-k.start in
    let m = c.dwt_length-n.result in
    let em = c.dwt_length-n.ensures in
    let t = lengths (goal.at.loop-k-preserved c).In-loop-k in
    let next = level_more a.low.now a.high.now a.f a.border a.line.now c.loop-k.packed c.loop-k.scratch _ k start c.loop-k.n m (start + (m + m)) _
    refl (omega (arith, t.inside)) i.left em i.details i.held c.pad_level.ensures c.bands_beside.ensures in
    record {
      behind = omega (arith, t.next, details_next (length a.line.now) a.f k);
      left = em ∙ t.next;
      details = next.0;
      held = next.1;
      padded = scratch_more binary64 a.low.now a.f a.border a.line.now a.scratch.now k i.held i.padded c.pad_level.ensures;
    }
