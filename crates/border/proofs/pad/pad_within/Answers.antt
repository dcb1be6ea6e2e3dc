-- `border::pad::pad_within` meets its contract: the samples moved to their place and both ends are the padded line, within the one buffer.
use Rattle.border.specs.Inside.{pad_inside, part_tab}
use lib.Ieee.{Float}
use mathlib.Core.List.{List}
use lib.ListN.{take, drop}
use native.Mathlib.Omega.{arith}
use Prim.Native.Nat.{◌+◌, ◌-◌}
use mathlib.Core.Path.{◌≡◌, refl, ap, ◌∙◌}
use Rattle.border.specs.Rule.{padded}
use Rattle.numbers.specs.Words.{at, written, placed, plus_zero}
use Rattle.border.proofs.pad.pad_within.Goals as goal

pub returns : goal.returns
returns g c = let a = c.args in
    let r = g.met.R.Real in
    let x = g.R.Real.floats a.s.now in
    let y = g.R.Real.floats c.copy_within.new.s in
    let long = r.floats_length a.s.now in
    let N = a.left + a.n + a.right in
    let end = a.to + N in
    let part : g.R.Real.floats (take (end - a.to) (drop a.to c.copy_within.new.s)) ≡ take (end - a.to) (drop a.to y) = simp (r.floats_take, r.floats_drop) refl in
    let ends = c.pad_ends.ensures ∙ ap (λ (P : List Float). written (padded plus_zero a.border (take a.n (drop a.left P)) a.left) N P) part in
    simp (r.floats_append, r.floats_take, r.floats_drop)
    (pad_inside a.border x y (λ i. at x (a.from + i)) a.n a.to a.left a.right (omega (arith, c.requires.room, long)) c.copy_within.ensures end (g.R.Real.floats c.pad_ends.new.s) refl ends
    ∙ ap (λ (l : List Float). placed (padded plus_zero a.border l a.left) a.to N x) (part_tab x a.from a.n (omega (arith, c.requires.line, long))))
