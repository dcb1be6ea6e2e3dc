-- `summing::eights::tap_eight` meets its contract: each turn takes one tap of one place, and both of its sums.
use Prim.Native.Nat.{◌+◌, ◌*◌}
use mathlib.Core.Path.{◌∙◌, ◌≡◌, ap}
use native.Mathlib.Omega.{arith}
use lib.Ieee.{nan}
use lib.ListN.{length}
use Rattle.numbers.specs.Words.{tab}
use Rattle.numbers.specs.Places.{get_or-written_behind}
use Rattle.numbers.specs.Write.{written_full, written_start, written_step}
use Rattle.summing.specs.Works.{tapped}
use Rattle.summing.proofs.eights.tap_eight.Goals as goal

pub loop-q-init : goal.loop-q-init
loop-q-init g c = (written_start _ _, written_start _ _)

pub loop-q-preserved : goal.loop-q-preserved
loop-q-preserved g c = let a = c.args in let r = g.R.Real in let m = g.met.R.Real in
    let q = c.loop-q.q in
    let approx = r.floats a.approx.now in
    let detail = r.floats a.detail.now in
    let f = tapped r.format approx (r.float a.low) (r.floats a.padded.now) a.from in
    let h = tapped r.format detail (r.float a.high) (r.floats a.padded.now) a.from in
    let x = m.floats_at a.padded.now (a.from + 2 * q) c.index-padded-from.result (omega arith) in
    let first = m.floats_at c.loop-q.approx q c.index-approx-q.result (omega arith) in
    let first_was = get_or-written_behind f q approx q nan (omega arith) in
    let second = m.floats_at c.loop-q.detail q c.index-detail-q.result (omega arith) in
    let second_was = get_or-written_behind h q detail q nan (omega arith) in (
      simp m.floats_set (written_step f q approx (omega (arith, m.floats_length a.approx.now)) c.loop-q.invariant.0 (cc)),
      simp m.floats_set (written_step h q detail (omega (arith, m.floats_length a.detail.now)) c.loop-q.invariant.1 (cc)),
    )

pub returns : goal.returns
returns g c = let a = c.args in let r = g.R.Real in let m = g.met.R.Real in
    let approx = r.floats a.approx.now in
    let detail = r.floats a.detail.now in
    let f = tapped r.format approx (r.float a.low) (r.floats a.padded.now) a.from in
    let h = tapped r.format detail (r.float a.high) (r.floats a.padded.now) a.from in
    let few : length approx ≡ 8 = m.floats_length a.approx.now ∙ c.requires.0 in
    let many : length detail ≡ 8 = m.floats_length a.detail.now ∙ c.requires.1 in (
      written_full f c.loop-q.q approx c.loop-q.invariant.0 (omega arith) (omega arith) ∙ ap (tab f) few,
      written_full h c.loop-q.q detail c.loop-q.invariant.1 (omega arith) (omega arith) ∙ ap (tab h) many,
    )
