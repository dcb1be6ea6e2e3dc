-- `plane_synthesis::work::joins` meets its contract: each turn joins one line more.
use borrow.Rule.Slice.PartMut.{mid_len}
use Prim.Native.Nat.{ℕ, ◌+◌, ◌-◌, ◌*◌, ◌≤◌}
use native.Mathlib.Omega.{arith}
use mathlib.Core.Path.{◌≡◌, refl, ap}
use lib.ListN.{length, take, drop}
use lib.Ieee.{binary64}
use Rattle.bank.specs.Lengths.{pairs}
use Rattle.synthesis.specs.Runs.{length_join}
use Rattle.tables.specs.Stored.{line_end, one_more, filling_none, filling_next}
use Rattle.plane_synthesis.specs.Works.{step_join}
use Rattle.plane_synthesis.specs.Steps.{joined_parts}
use Rattle.plane_synthesis.proofs.work.joins.Goals as goal

pub loop-c-init : goal.loop-c-init
loop-c-init c = let a = c.args in filling_none (step_join binary64 a.f a.low.now a.high.now a.step a.n a.lo.now a.hi.now) a.n a.out.now

pub loop-c-preserved : goal.loop-c-preserved
loop-c-preserved c = let a = c.args in
    let k = c.loop-c.c in
    let n = a.n in
    let M = c.dwt_length-m.result in
    let from = k * a.step in
    let few : from + M - from ≡ pairs n a.f = omega (arith, c.dwt_length-m.ensures) in
    let room : k * n + n ≤ length a.out.now = omega (arith, line_end n c.loop-c-test.true, c.requires.1.room) in
    let part = mid_len (k * n) (k * n + n) c.loop-c.out (omega (arith, room)) in
    filling_next (step_join binary64 a.f a.low.now a.high.now a.step n a.lo.now a.hi.now) n k (k * n + n) a.out.now (λ i q. length_join binary64 a.f a.low.now a.high.now n _ _)
    (omega (arith, room, one_more k n)) refl c.loop-c.invariant
    (joined_parts binary64 a.f a.low.now a.high.now n c.join_cleared.ensures
    (ap (λ (i : ℕ). take i (drop from a.lo.now)) few)
    (ap (λ (i : ℕ). take i (drop from a.hi.now)) few)
    (omega (arith, part)))
