-- `direct_synthesis::work::gather` meets its contract: pair after pair onto the place, until all that reach it have come.
use Prim.Native.Nat.{◌/◌, ◌%◌}
use mathlib.Core.Path.{◌∙◌, refl}
use native.Mathlib.Omega.{arith}
use lib.Ieee.{binary64}
use Rattle.direct_synthesis.specs.Places.{come_start, come_more, come_all}
use Rattle.direct_synthesis.proofs.work.gather.Goals as goal

pub loop-j-init : goal.loop-j-init
loop-j-init c = let a = c.args in (omega arith, omega arith, come_start binary64 a.f a.low.now a.high.now a.approx.now a.detail.now (a.p / 2) (a.p % 2) _)

pub loop-j-preserved : goal.loop-j-preserved
loop-j-preserved c = let a = c.args in
    let v = c.loop-j.invariant in (
      omega arith,
      omega arith,
      c.onto-sum.ensures ∙ come_more binary64 a.f a.low.now a.high.now a.approx.now a.detail.now (a.p / 2) (a.p % 2) c.loop-j.i c.loop-j.j _ v.0 v.1 c.loop-j-test.true v.2 refl,
    )

pub returns : goal.returns
returns c = let a = c.args in
    let v = c.loop-j.invariant in
    come_all binary64 a.f a.low.now a.high.now a.approx.now a.detail.now a.out.now (a.p / 2) (a.p % 2) c.loop-j.i c.loop-j.j c.requires.0.all (omega arith) (omega arith) v.1 (omega arith) (omega arith) v.2
