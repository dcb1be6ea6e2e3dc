-- `border::pad::pad_ends` meets its contract: both ends filled the border's way, around the samples, are the padded line.
use native.Mathlib.Omega.{arith}
use native.Mathlib.Nat.{le_refl}
use lib.Ieee.{Float}
use mathlib.Core.Path.{◌≡◌, ◌∙◌, ap, subst, sym}
use Prim.Native.Nat.{◌+◌, ◌-◌}
use Rattle.numbers.specs.Words.{at, placed}
use Rattle.border.specs.Reach.{Goes}
use Rattle.border.specs.Ways.{first_filled, last_filled, zeros_filled, laps_filled, sides, no_sides}
use Rattle.border.proofs.pad.pad_ends.Goals as goal

pub returns-then-left-right-eq0 : goal.returns-then-left-right-eq0
returns-then-left-right-eq0 g c = let x = g.R.Real.floats c.args.s.now in
    no_sides x c.requires.0 (omega (arith, c.requires.1, g.met.R.Real.floats_length c.args.s.now)) c.if-left-right-eq0.true

pub returns-in-Ends : goal.returns-in-Ends
returns-in-Ends g c = let a = c.args in
    let r = g.met.R.Real in
    let x = g.R.Real.floats a.s.now in
    let goes = subst (Goes a.border a.n) c.in-Ends.is c.way_of-way.ensures.0 in
    let first : g.R.Real.float c.index-s-left.result ≡ at x a.left =
    ap g.R.Real.float c.index-s-left.is ∙ sym (r.floats_at a.s.now a.left c.index-s-left.result (omega (arith, c.requires)))
    in
    let last : g.R.Real.float c.index-s-end.result ≡ at (g.R.Real.floats c.repeat.new.s) (a.left + a.n - 1) =
    ap g.R.Real.float c.index-s-end.is ∙ sym (r.floats_at c.repeat.new.s (a.left + a.n - 1) c.index-s-end.result (omega (arith, c.requires, c.repeat.auto)))
    in
    sides x c.requires.0 (omega (arith, c.requires.1, r.floats_length a.s.now))
    (λ f. c.repeat.ensures ∙ ap (λ (v : Float). placed (λ k. v) 0 a.left x) first ∙ first_filled x goes f (le_refl a.left))
    (λ f. c.repeat-in-Ends.ensures ∙ ap (λ (v : Float). placed (λ k. v) (a.left + a.n) a.right (g.R.Real.floats c.repeat.new.s)) last ∙ last_filled _ goes f)

pub returns-in-Nothing : goal.returns-in-Nothing
returns-in-Nothing g c = let a = c.args in
    let x = g.R.Real.floats a.s.now in
    let goes = subst (Goes a.border a.n) c.in-Nothing.is c.way_of-way.ensures.0 in
    sides x c.requires.0 (omega (arith, c.requires.1, g.met.R.Real.floats_length a.s.now))
    (λ f. c.repeat-in-Nothing.ensures ∙ zeros_filled x c.zero.ensures goes f)
    (λ f. c.repeat-in-Nothing-2.ensures ∙ zeros_filled _ c.zero-in-Nothing.ensures goes f)

pub returns-in-Laps : goal.returns-in-Laps
returns-in-Laps g c = let a = c.args in
    let x = g.R.Real.floats a.s.now in
    let goes = subst (Goes a.border a.n) c.in-Laps.is c.way_of-way.ensures.0 in
    sides x c.requires.0 (omega (arith, c.requires.1, g.met.R.Real.floats_length a.s.now))
    (λ f. c.walk_front.ensures ∙ laps_filled x goes f)
    (λ f. c.walk_behind.ensures ∙ laps_filled _ goes f)
