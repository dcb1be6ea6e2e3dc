-- `gathering::seconds::take_seconds` meets its contract: each turn takes the next second number.
use Prim.Native.Nat.{ℕ, ◌+◌, ◌*◌}
use mathlib.Core.Path.{◌∙◌, ap}
use native.Mathlib.Omega.{arith}
use Rattle.numbers.specs.Words.{at, tab}
use Rattle.numbers.specs.Write.{written_full, written_start, written_step}
use Rattle.gathering.proofs.seconds.take_seconds.Goals as goal

pub loop-q-init : goal.loop-q-init
loop-q-init g c = written_start _ _

pub loop-q-preserved : goal.loop-q-preserved
loop-q-preserved g c = let a = c.args in let r = g.R.Real in let m = g.met.R.Real in
    let q = c.loop-q.q in
    let there = m.floats_at a.line.now (a.from + 2 * q) c.index-line-from.result (omega arith) in
    simp m.floats_set (
    written_step (λ q. at (r.floats a.line.now) (a.from + 2 * q)) q (r.floats a.sums.now) (omega (arith, m.floats_length a.sums.now)) c.loop-q.invariant (cc)
    )

pub returns : goal.returns
returns g c = let a = c.args in let r = g.R.Real in
    let f = λ (q : ℕ). at (r.floats a.line.now) (a.from + 2 * q) in
    let long = g.met.R.Real.floats_length a.sums.now in
    written_full f c.loop-q.q (r.floats a.sums.now) c.loop-q.invariant (omega arith) (omega arith) ∙ ap (tab f) long
