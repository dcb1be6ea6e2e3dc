-- `direct_synthesis::work::four` meets its contract: pair after pair onto each of four places, until all that reach it have come.
use Prim.Native.Nat.{◌+◌, ◌*◌}
use mathlib.Core.Path.{◌∙◌, refl}
use native.Mathlib.Omega.{arith}
use lib.Ieee.{binary64}
use Rattle.direct_synthesis.specs.Places.{come_start, come_more, come_all, four_placed}
use Rattle.direct_synthesis.proofs.work.four.Goals as goal

pub loop-j-init : goal.loop-j-init
loop-j-init c = let a = c.args in
    let start = come_start binary64 a.f a.low.now a.high.now a.approx.now a.detail.now in
    (omega arith, omega arith, start a.k 0 _, start a.k 1 _, start (a.k + 1) 0 _, start (a.k + 1) 1 _)

pub loop-j-preserved : goal.loop-j-preserved
loop-j-preserved c = let a = c.args in
    let i = c.loop-j.i in
    let j = c.loop-j.j in
    let v = c.loop-j.invariant in
    let l = c.loop-j-test.true in (
      omega arith,
      omega arith,
      c.onto-first.ensures ∙ come_more binary64 a.f a.low.now a.high.now a.approx.now a.detail.now a.k 0 i j _ v.0 v.1 l v.2 (omega arith),
      c.onto-second.ensures ∙ come_more binary64 a.f a.low.now a.high.now a.approx.now a.detail.now a.k 1 i j _ v.0 v.1 l v.3 refl,
      c.onto-third.ensures ∙ come_more binary64 a.f a.low.now a.high.now a.approx.now a.detail.now (a.k + 1) 0 (i + 1) j _ (omega arith) (omega arith) l v.4 (omega arith),
      c.onto-fourth.ensures ∙ come_more binary64 a.f a.low.now a.high.now a.approx.now a.detail.now (a.k + 1) 1 (i + 1) j _ (omega arith) (omega arith) l v.5 refl,
    )

pub returns : goal.returns
returns c = let a = c.args in
    let i = c.loop-j.i in
    let j = c.loop-j.j in
    let v = c.loop-j.invariant in
    let all = c.requires.0.all in
    four_placed binary64 a.f a.low.now a.high.now a.approx.now a.detail.now a.out.now (2 * a.k) c.requires.1
    (come_all binary64 a.f a.low.now a.high.now a.approx.now a.detail.now a.out.now a.k 0 i j all (omega arith) (omega arith) v.1 (omega arith) (omega arith) v.2)
    (come_all binary64 a.f a.low.now a.high.now a.approx.now a.detail.now a.out.now a.k 1 i j all (omega arith) (omega arith) v.1 (omega arith) refl v.3)
    (come_all binary64 a.f a.low.now a.high.now a.approx.now a.detail.now a.out.now (a.k + 1) 0 (i + 1) j all (omega arith) (omega arith) (omega arith) (omega arith) (omega arith) v.4)
    (come_all binary64 a.f a.low.now a.high.now a.approx.now a.detail.now a.out.now (a.k + 1) 1 (i + 1) j all (omega arith) (omega arith) (omega arith) (omega arith) (omega arith) v.5)
