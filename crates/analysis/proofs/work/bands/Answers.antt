-- `analysis::work::bands` meets its contract: each turn writes one place of both bands, which is the pair of sums there.
use Prim.Native.Nat.{ℕ, ◌≤◌}
use Rattle.numbers.specs.Words.{tab, written}
use Rattle.numbers.specs.Write.{written_full, written_step}
use Rattle.numbers.specs.Runs.{written_again}
use lib.Ieee.{Float}
use lib.ListN.{length}
use mathlib.Core.List.{List}
use mathlib.Core.Path.{◌≡◌, ◌∙◌, ap}
use native.Mathlib.Omega.{arith}
use Rattle.analysis.specs.Works.{band_of}
use Rattle.analysis.proofs.work.bands.Goals as goal

-- all places of a band
filled : (g : ℕ → Float) (i n : ℕ) (x : List Float) {l : List Float} → length x ≡ n → l ≡ written g i x → i ≤ n → n ≤ i → l ≡ tab g n
filled g i n x q e h k = written_full g i x e (omega arith) (omega arith) ∙ ap (tab g) q

pub loop-i-init : goal.loop-i-init
loop-i-init g c = let a = c.args in let r = g.R.Real in (
  written_again (band_of r.format (r.floats a.low.now) a.f (r.floats a.padded.now)) c.eights-done.result (r.floats a.approx.now) c.eights-done.ensures.1,
  written_again (band_of r.format (r.floats a.high.now) a.f (r.floats a.padded.now)) c.eights-done.result (r.floats a.detail.now) c.eights-done.ensures.2,
)

pub loop-i-preserved : goal.loop-i-preserved
loop-i-preserved g c = let a = c.args in
    let r = g.R.Real in
    let m = g.met.R.Real in
    let approx = c.eights-done.new.approx in
    let detail = c.eights-done.new.detail in (
      simp (m.floats_set)
          (written_step (band_of r.format (r.floats a.low.now) a.f (r.floats a.padded.now)) c.loop-i.i (r.floats approx)
          (omega (arith, c.loop-i-test.true, c.eights-done.auto.approx, m.floats_length approx)) c.loop-i.invariant.0 c.place-p.ensures.0),
      simp (m.floats_set)
          (written_step (band_of r.format (r.floats a.high.now) a.f (r.floats a.padded.now)) c.loop-i.i (r.floats detail)
          (omega (arith, c.loop-i-test.true, c.eights-done.auto.approx, c.eights-done.auto.detail, c.requires.both, m.floats_length detail)) c.loop-i.invariant.1 c.place-p.ensures.1),
    )

pub returns : goal.returns
returns g c = let a = c.args in
    let r = g.R.Real in
    let m = g.met.R.Real in
    let approx = c.eights-done.new.approx in
    let detail = c.eights-done.new.detail in (
      filled (band_of r.format (r.floats a.low.now) a.f (r.floats a.padded.now)) c.loop-i.i (length a.approx.now) (r.floats approx)
          (m.floats_length approx ∙ c.eights-done.auto.approx) c.loop-i.invariant.0 (omega (arith, c.loop-i.auto, c.eights-done.auto.approx, c.eights-done.ensures.0)) (omega (arith, c.loop-i-test.false, c.eights-done.auto.approx)),
      filled (band_of r.format (r.floats a.high.now) a.f (r.floats a.padded.now)) c.loop-i.i (length a.approx.now) (r.floats detail)
          (m.floats_length detail ∙ c.eights-done.auto.detail ∙ c.requires.both) c.loop-i.invariant.1 (omega (arith, c.loop-i.auto, c.eights-done.auto.approx, c.eights-done.ensures.0)) (omega (arith, c.loop-i-test.false, c.eights-done.auto.approx)),
    )
