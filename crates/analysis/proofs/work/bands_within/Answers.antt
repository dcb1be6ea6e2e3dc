-- `analysis::work::bands_within` meets its contract: it goes on from the eights, and each turn writes one place of either band, which is the pair of sums over a line that lies behind both.
use Prim.Native.Nat.{ℕ, ◌+◌, ◌-◌, ◌≤◌}
use native.Mathlib.Omega.{arith}
use mathlib.Core.List.{List, ◌++◌}
use mathlib.Core.Path.{◌≡◌, refl, sym, ap, subst, ◌∙◌}
use lib.ListN.{length, take, drop}
use lib.Ieee.{Float, Format}
use Rattle.numbers.specs.Words.{at, tab, placed}
use Rattle.bank.specs.Lengths.{spanned}
use Rattle.analysis.specs.Works.{band_of, Halves, line_at}
use Rattle.analysis.specs.Halves.{halves_again, halves_all, halves_from, halves_step, line_same}
use Rattle.analysis.proofs.work.bands_within.Goals as goal

module _ (w : Format) (low high : List Float) (f from to m : ℕ) where
  abbrev approxes : List Float → ℕ → Float
  approxes x = band_of w low f (line_at f from m x)

  abbrev details : List Float → ℕ → Float
  details x = band_of w high f (line_at f from m x)

  -- i places of either band of the line in x, written over y, stand in s
  abbrev Stands : ℕ → List Float → List Float → List Float → Type 0
  Stands i x y s = Halves (approxes x) (details x) to m i y s

  -- what the eights left, told of itself: its line is the line as it was
  begun : (r : ℕ) (x y : List Float) → to + (m + m) ≤ from → Stands r x x y → Stands r y y y
  begun r x y before p =
      let same = sym (line_same _ _ f from to m r (spanned m f) x y before refl p) in
      halves_again (approxes y) (details y) to m r p (λ j l. ap (λ (z : List Float). band_of w low f z j) same) (λ j l. ap (λ (z : List Float). band_of w high f z j) same)

  -- and with the rest: both bands
  told : (r i : ℕ) (x y s : List Float) → to + (m + m) ≤ from → from ≤ length x → i ≤ m → m ≤ i → Stands r x x y → Stands i y y s
      → s ≡ placed (at (tab (approxes x) m ++ tab (details x) m)) to (m + m) x
  told r i x y s before within u v p q =
      let e : i ≡ m = omega arith in
      halves_all _ _ to m x s (omega arith) (subst (λ (k : ℕ). Stands k y x s) e (halves_from to m r i p q))
      ∙ ap (λ (l : List Float). placed (at (tab (band_of w low f l) m ++ tab (band_of w high f l) m)) to (m + m) x) (line_same _ _ f from to m r (spanned m f) x y before refl p)

pub loop-i-init : goal.loop-i-init
loop-i-init g c = let a = c.args in let r = g.R.Real in
    begun r.format (r.floats a.low.now) (r.floats a.high.now) a.f a.from a.to a.m c.eights_within-done.result (r.floats a.s.now) _ c.requires.before c.eights_within-done.ensures.1

pub loop-i-preserved : goal.loop-i-preserved
loop-i-preserved g c = let a = c.args in
    let r = g.R.Real in
    let m = g.met.R.Real in
    let i = c.loop-i.i in
    let x = c.eights_within-done.new.s in
    let e = a.from + c.padded_length.result - a.from in
    let seen : r.floats (take e (drop a.from c.loop-i.s)) ≡ take e (drop a.from (r.floats c.loop-i.s)) = simp (m.floats_take, m.floats_drop) refl in
    let same = seen ∙ line_same _ _ a.f a.from a.to a.m i e (r.floats x) (r.floats c.loop-i.s) c.requires.before (omega (arith, c.padded_length.ensures)) c.loop-i.invariant in
    simp (m.floats_set)
    (halves_step _ _ a.to a.m i (r.floats x) (r.floats c.loop-i.s) _ _ c.loop-i-test.true (omega (arith, c.requires.before, c.requires.within, c.eights_within-done.auto.s, m.floats_length x)) c.loop-i.invariant
    (c.place-p.ensures.0 ∙ ap (λ (y : List Float). band_of r.format (r.floats a.low.now) a.f y i) same)
    (c.place-p.ensures.1 ∙ ap (λ (y : List Float). band_of r.format (r.floats a.high.now) a.f y i) same))

pub returns : goal.returns
returns g c = let a = c.args in let r = g.R.Real in
    told r.format (r.floats a.low.now) (r.floats a.high.now) a.f a.from a.to a.m c.eights_within-done.result c.loop-i.i (r.floats a.s.now) _ (r.floats c.loop-i.s)
    c.requires.before (omega (arith, c.requires.within, g.met.R.Real.floats_length a.s.now)) (omega (arith, c.loop-i.auto, c.eights_within-done.ensures.0)) c.loop-i-test.false c.eights_within-done.ensures.1 c.loop-i.invariant
