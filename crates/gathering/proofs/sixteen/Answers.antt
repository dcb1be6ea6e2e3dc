-- `gathering::sixteen` meets its contract: what was taken is gathered onto and put back.
use Prim.Native.Nat.{ℕ}
use mathlib.Core.Path.{refl, sym, subst}
use Rattle.gathering.specs.Turns.{sixteen_put}
use Rattle.gathering.specs.Works.{Seconds}
use Rattle.gathering.proofs.sixteen.Goals as goal

pub returns : goal.returns
returns g c = let a = c.args in let r = g.R.Real in
    let put = subst (λ (n : ℕ). Seconds a.p (r.floats c.gather.new.sums) (r.floats a.out.now) (r.floats c.put_seconds.new.line) n) (sym (g.met.R.Real.floats_length c.gather.new.sums)) c.put_seconds.ensures in
    sixteen_put r.format a.p (r.floats a.low.now) (r.floats a.high.now) (r.floats a.approx.now) (r.floats a.detail.now) a.last a.k a.half (r.floats a.out.now) refl
    c.take_seconds.ensures c.gather.ensures put
