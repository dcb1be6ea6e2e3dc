-- `direct_synthesis::work::gather_all` meets its contract: it goes on from the fours to the end.
use native.Mathlib.Omega.{arith}
use lib.Ieee.{binary64}
use Rattle.direct_synthesis.specs.Places.{every_place}
use Rattle.direct_synthesis.proofs.work.gather_all.Goals as goal

pub returns : goal.returns
returns c = let a = c.args in
    every_place binary64 a.f a.low.now a.high.now a.approx.now a.detail.now a.out.now _ c.loop-p.p c.fours-done.ensures.1 (omega arith) (omega (arith, c.fours-done.ensures.0)) (omega arith) c.loop-p.invariant
