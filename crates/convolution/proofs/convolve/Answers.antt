-- `convolution::convolve` meets its contract. Where the answer is done every test passed, which gives the work what it asks for.
use Rattle.std.proofs.Common.{arith, length-take-le, sym, ◌∙◌}
use Rattle.convolution.specs.Places.{back}
use Rattle.convolution.specs.Tested.{convolved_done, convolving, copied_done, pads, summing}
use Rattle.convolution.proofs.convolve.Goals as goal

pub returns-then-f-eq0 : goal.returns-then-f-eq0
returns-then-f-eq0 g c = let a = c.args in let length_of = g.met.R.Real.floats_length in
    copied_done (length_of a.line.now) (length_of a.out.now) (length_of a.kernel.now) (length_of a.scratch.now)
    (c.split-place.ensures ∙ back a.centre c.ranges.centre) c.in_ok-convolution_answer.ensures c.if-f-eq0.true c.copy_to.ensures

pub pad-requires : goal.pad-requires
pad-requires g c = let d = convolving _ _ _ _ _ _ c.if-f-eq0.false (sym c.in_ok-convolution_answer.ensures) in
    (pads d c.from_filter-left.ensures.0 c.from_filter-left.ensures.1, omega (arith, d.room))

pub slice_bounds-sums-end-2 : goal.slice_bounds-sums-end-2
slice_bounds-sums-end-2 g c = let d = convolving _ _ _ _ _ _ c.if-f-eq0.false (sym c.in_ok-convolution_answer.ensures) in
    sym (length-take-le _ _ (omega (arith, d.room)))

pub sums-requires : goal.sums-requires
sums-requires g c = let d = convolving _ _ _ _ _ _ c.if-f-eq0.false (sym c.in_ok-convolution_answer.ensures) in
    summing d c.from_filter-left.ensures.0 c.from_filter-left.ensures.1 (length-take-le _ _ (omega (arith, d.room)))

pub returns : goal.returns
returns g c = let a = c.args in let m = g.met.R.Real in let length_of = m.floats_length in
    convolved_done (length_of a.line.now) (length_of a.out.now) (length_of a.kernel.now) (length_of a.scratch.now)
    (c.split-place.ensures ∙ back a.centre c.ranges.centre) c.in_ok-convolution_answer.ensures {out' = g.R.Real.floats c.sums.new.out}
    c.if-f-eq0.false c.from_filter-left.ensures.0 c.from_filter-left.ensures.1 c.pad.ensures (rw (← m.floats_take _ c.pad.new.scratch) c.sums.ensures)
