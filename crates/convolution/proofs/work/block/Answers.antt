-- `convolution::work::block` meets its contract: before tap i each sum holds the products of the taps before it, the first of which started it.
use Rattle.std.proofs.Common.{◌∙◌, ◌≡◌, ap, arith, length, sym}
use Rattle.std.specs.Float.{nan}
use Rattle.numbers.specs.Words.{at}
use Rattle.convolution.specs.Turns.{put, sums_end, sums_start, sums_step}
use Rattle.convolution.specs.Works.{place_of}
use Rattle.convolution.proofs.work.block.Goals as goal

pub loop-i-init : goal.loop-i-init
loop-i-init g c = let a = c.args in let r = g.R.Real in let m = g.met.R.Real in
    let tap : at (r.floats a.kernel.now) 0 ≡ r.float c.index-kernel-0.result = m.floats_at a.kernel.now 0 c.index-kernel-0.result (omega arith) ∙ ap r.float (sym c.index-kernel-0.is) in
    (sums_start r.format (r.floats a.kernel.now) (r.floats a.padded.now) a.x (length a.sums.now) (rw tap c.start.ensures)).1

pub loop-i-preserved : goal.loop-i-preserved
loop-i-preserved g c = let a = c.args in let r = g.R.Real in let m = g.met.R.Real in
    let i = c.loop-i.i in
    let tap : at (r.floats a.kernel.now) i ≡ r.float c.index-kernel-i.result = m.floats_at a.kernel.now i c.index-kernel-i.result (omega arith) ∙ ap r.float (sym c.index-kernel-i.is) in
    let was = m.floats_length c.loop-i.sums in
    let step = sums_step r.format (r.floats a.kernel.now) (r.floats a.padded.now) a.x i (length (r.floats c.start.new.sums)) c.loop-i.auto.i (omega (arith, was, m.floats_length c.start.new.sums)) c.loop-i.invariant
    (rw (was, tap) c.add_tap.ensures) in
    step.1

pub returns : goal.returns
returns g c = let a = c.args in let r = g.R.Real in let m = g.met.R.Real in
    let kernel = m.floats_length a.kernel.now in
    let sums = m.floats_length c.loop-i.sums in
    let began = m.floats_length c.start.new.sums in
    put nan (place_of r.format (r.floats a.kernel.now) (r.floats a.padded.now)) a.x (length a.sums.now) (r.floats a.out.now)
    (sums_end r.format (r.floats a.kernel.now) (r.floats a.padded.now) a.x c.loop-i.i _ _ (omega arith) c.loop-i.invariant (omega arith) (omega arith)) (rw sums c.copy_to.ensures)
