-- `restoring::work::restore_by` meets its contract: each turn is one join more of the recursion.
use Rattle.dividing.specs.Divisions.{finished}
use Rattle.dividing.specs.Divisors.{length-finished}
use Rattle.restoring.specs.Joins.{first_start, second_start, first_more, second_more, long_enough, turning}
use Rattle.restoring.specs.Works.{Restoring}
use Rattle.packed.specs.Answers.{part_at}
use Rattle.packed.specs.Follow.{inside, part_is, count_is, length_part, as_many, whole_length}
use Rattle.packed.specs.Lengths.{line_after, level_start, level_count}
use Prim.Native.Nat.{ℕ, ◌+◌, ◌-◌, ◌≤◌, ◌<◌}
use lib.Ieee.{Float, binary64}
use lib.ListN.{length, take, drop}
use mathlib.Core.List.{List}
use mathlib.Core.Path.{◌≡◌, ◌∙◌, refl, ap}
use native.Mathlib.Omega.{arith}
use Rattle.restoring.proofs.work.restore_by.Goals as goal
use Rattle.restoring.proofs.work.restore_by.Goals.{After-part_of-part}

-- the details of a turn lie in the packed buffer
detail_in : (c : After-part_of-part)
    → let a = c.args in c.part_of-part.result.start + c.part_of-part.result.count ≤ length a.packed.now
detail_in c =
    let a = c.args in
    let w = c.requires.1.packs in
    omega (arith, inside a.n a.f a.levels (a.levels - c.loop-j.j) w.sound.taps.two (omega arith), whole_length w)

-- both parts of a turn, over plain variables: which they are, and how long
record Parts (n f levels j : ℕ) (packed : List Float) (start count from counted : ℕ) : Type 0 where
  deepest : take (start + count - start) (drop start packed) ≡ part_at n f levels packed 0
  detail : take (from + counted - from) (drop from packed) ≡ part_at n f levels packed (levels - j)
  deepest_length : length (take (start + count - start) (drop start packed)) ≡ line_after n f levels
  detail_length : length (take (from + counted - from) (drop from packed)) ≡ line_after n f (levels - j)

parts : (n f levels a b j : ℕ) (packed : List Float) (start count from counted : ℕ) → Restoring n f levels (length packed) a b → j < levels
    → (start ≡ level_start n f levels 0) × (count ≡ level_count n f levels 0) → (from ≡ level_start n f levels (levels - j)) × (counted ≡ level_count n f levels (levels - j))
    → Parts n f levels j packed start count from counted
parts n f levels a b j packed start count from counted w h p q =
    let d = part_is n f levels 0 start count packed p.0 p.1 in
    let t = part_is n f levels (levels - j) from counted packed q.0 q.1 in
    record {
      deepest = d;
      detail = t;
      deepest_length = ap length d ∙ length_part n f levels 0 packed w.packs.sound.taps.two (omega arith) (whole_length w.packs) ∙ ap (line_after n f) (as_many w.packs);
      detail_length = ap length t ∙ length_part n f levels (levels - j) packed w.packs.sound.taps.two (omega arith) (whole_length w.packs) ∙ count_is n f levels (levels - j) (omega (arith, h));
    }

these : (c : After-part_of-part)
    → let a = c.args in
    Parts a.n a.f a.levels c.loop-j.j a.packed.now c.part_of-last.result.start c.part_of-last.result.count c.part_of-part.result.start c.part_of-part.result.count
these c =
    let a = c.args in
    parts a.n a.f a.levels _ _ c.loop-j.j a.packed.now _ _ _ _ c.requires.1 c.loop-j-test.true c.part_of-last.ensures c.part_of-part.ensures

pub loop-j-init : goal.loop-j-init
loop-j-init c = let a = c.args in
    record {
      firsts = first_start (finished binary64 a.how) binary64 a.f a.low.now a.high.now a.packed.now a.n a.levels a.first.now a.second.now;
      seconds = second_start (finished binary64 a.how) binary64 a.f a.low.now a.high.now a.packed.now a.n a.levels a.first.now a.second.now;
    }

pub overflow_add-to : goal.overflow_add-to
overflow_add-to c = omega (arith, detail_in (goal.at.overflow_add-to c).After-part_of-part)

pub offset_bounds-packed-from : goal.offset_bounds-packed-from
offset_bounds-packed-from c = omega (arith, detail_in (goal.at.offset_bounds-packed-from c).After-part_of-part)

pub slice_bounds-join_level-end-in-loop-j : goal.slice_bounds-join_level-end-in-loop-j
slice_bounds-join_level-end-in-loop-j c = omega (arith, detail_in (goal.at.slice_bounds-join_level-end-in-loop-j c).After-part_of-part)

pub join_level-requires : goal.join_level-requires
join_level-requires c = let a = c.args in
    let e = these (goal.at.join_level-requires c).After-part_of-part in
    let t = turning a.n a.f a.levels (length a.packed.now) (length a.first.now) (length a.second.now) c.loop-j.j _ _ c.requires.1 c.loop-j-test.true e.deepest_length e.detail_length in
    (c.requires.0, record { taps = t.taps; few = t.few; deep = t.deep; grown = t.grown; room = omega (arith, t.room); space = omega (arith, t.space) })

pub loop-j-preserved : goal.loop-j-preserved
loop-j-preserved c = let a = c.args in
    let i = c.loop-j.invariant in
    let j = c.loop-j.j in
    let done = finished binary64 a.how in
    let e = these (goal.at.loop-j-preserved c).After-part_of-part in
    let long = long_enough done binary64 a.low.now a.high.now a.packed.now a.n a.f a.levels _ _ _ j (length-finished binary64 a.how) c.requires.1 refl (omega arith) in
    record {
      firsts = c.join_level.ensures.0 ∙ first_more done binary64 a.f a.low.now a.high.now a.packed.now a.n a.levels a.first.now a.second.now j i.firsts i.seconds e.deepest e.detail (rw e.detail_length long);
      seconds = c.join_level.ensures.1 ∙ second_more done binary64 a.f a.low.now a.high.now a.packed.now a.n a.levels a.first.now a.second.now j i.firsts i.seconds e.deepest e.detail (rw e.detail_length long);
    }
