-- `tables::work::gather` meets its contract: each turn stores the next number, which lies before those written.
use mathlib.Core.Path.{ap, ◌∙◌}
use mathlib.Core.List.{List}
use Prim.Native.Nat.{ℕ, ◌+◌, ◌*◌}
use native.Mathlib.Omega.{arith}
use lib.Ieee.{Float, nan}
use Rattle.numbers.specs.Words.{at}
use Rattle.numbers.specs.Write.{get_or-placed_before, placed_start, placed_step}
use Rattle.tables.specs.Stored.{one_more}
use Rattle.tables.proofs.work.gather.Goals as goal

pub loop-k-init : goal.loop-k-init
loop-k-init c = (omega arith, placed_start _ _ _)

pub loop-k-preserved : goal.loop-k-preserved
loop-k-preserved c = let a = c.args in
    let x = a.s.now in
    let k = c.loop-k.k in
    let i = c.loop-k.invariant in
    let g : ℕ → Float = λ j. at x (a.from + j * a.n) in
    -- the number lies before those written
    let same = ap (λ (y : List Float). at y c.loop-k.at) i.1
    ∙ get_or-placed_before g a.to k x c.loop-k.at nan (omega (arith, c.requires.room)) (omega (arith, c.requires.before k c.loop-k-test.true, i.0))
    ∙ ap (at x) i.0 in
    (omega (arith, i.0, one_more k a.n), placed_step g a.to k x (omega (arith, c.requires.room)) i.1 same)
