-- `comparing::work::first_difference` meets its contract: a place that differs is the first, and where both loops end every place agrees.
use mathlib.Core.Path.{◌≡◌, sym, ap, ◌∙◌}
use Prim.Native.Nat.{ℕ, ◌*◌}
use native.Mathlib.Omega.{arith}
use Rattle.comparing.specs.Firsts.{found_none, found_first}
use Rattle.comparing.proofs.work.first_difference.Goals as goal

pub returns-after-scan : goal.returns-after-scan
returns-after-scan c = let a = c.args in
    let all : c.scan.column * a.height ≡ a.width * a.height = ap (λ (n : ℕ). n * a.height) (let last : c.scan.column ≡ a.width = omega arith in last) in
    c.scan.invariant.0 ∙ sym (found_none a.first.now a.second.now a.width a.height (λ k l. c.scan.invariant.1 k (omega (arith, all))))

pub returns-then-differ : goal.returns-then-differ
returns-then-differ c = let a = c.args in
    sym
    (found_first a.first.now a.second.now a.width a.height
    (record { column = c.scan-test.true; row = c.loop-row-test.true; here = sym c.differ.ensures ∙ c.if-differ.true; earlier = c.loop-row.invariant.1 }))
