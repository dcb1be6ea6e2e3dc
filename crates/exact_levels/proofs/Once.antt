-- Laws of one level there and back with division: what comes back is S times the line and nowhere -0, so dividing by S gives each number's own float, zero as +0.
use Rattle.std.specs.Prelude.{◌≡◌, ◌≢◌, List, ℕ, ◌^◌, ◌≤◌, ◌<◌, length, ℤ, pos, nat_abs, ◌*ℤ◌, Float}
use Rattle.std.proofs.Common.{◌∙◌, subst, le_trans, arith}
use Rattle.std.specs.Float.{nan, Format}
use Rattle.std.specs.Float.Ieee.{prec, div, of_int}
use Rattle.numbers.specs.Words.{plus_zero, at, cleared}
use Rattle.numbers.specs.Write.{length-tab, get_or-tab}
use Rattle.whole.specs.Floats.{Whole, at_ℤ}
use Rattle.whole.specs.Zeros.{div_int}
use Rattle.border.specs.declared.Border.{Border}
use Rattle.bank.specs.Lengths.{pairs, line_length}
use Rattle.analysis.specs.Lines.{band}
use Rattle.synthesis.specs.Runs.{length_join}
use Rattle.dividing.specs.Divisions.{divided}
use Rattle.dividing.specs.Divisors.{length-divided}
use Rattle.exact.specs.Restoring.{squares, sizes, Premises, Restored, there_and_back, next}
use Rattle.exact.proofs.Four.{padded_within}
use Rattle.exact.proofs.Exact.{exact}
use Rattle.exact.proofs.Calls.{cleared_zeros}
use Rattle.exact_levels.specs.Through.{Regained}
use Rattle.exact_levels.specs.Signs.{join_plus}
use Rattle.exact_levels.specs.Squares.{positive, bound_samples}

-- the line there and back, into a cleared output of the ruled length
abbrev pub rejoined_line : Format → ℕ → List Float → List Float → Border → List Float → List Float
rejoined_line g F low high b s = there_and_back g F low high low high b s (cleared (line_length (pairs (length s) F) F))

module _ (g : Format) (b : Border) (F : ℕ) (low high s : List Float) (S : Float) (z v : List ℤ) (A : ℕ)
    (x : Premises g F low high s z v A) (divisor : Whole S (squares z)) (above : squares z ≢ pos 0) where
  abbrev ruled : ℕ
  ruled = line_length (pairs (length s) F) F

  abbrev back : List Float
  back = rejoined_line g F low high b s

  restored : Restored b (squares z) v back
  restored = exact g b F low high s (cleared ruled) z v A x (cleared_zeros ruled) (length-tab (λ p. plus_zero) ruled)

  place : (p : ℕ) (y : ℤ) → p < length back → Whole (at back p) (squares z *ℤ y) → nat_abs y ≤ A → at (divided g S back) p ≡ of_int g y
  place p y h w small =
      let k = positive z above in
      let fit : A ≤ 2 ^ prec g = bound_samples A (sizes z) (2 ^ prec g) (omega (arith, k.most)) x.bound in
      let inside : p < ruled = omega (arith, length_join g F low high ruled (band g low F b s) (band g high F b s)) in
      get_or-tab (λ i. div g (at back i) S) (length back) p nan h
      ∙ div_int g (at back p) S k.less y (subst (λ (c : ℤ). Whole (at back p) (c *ℤ y)) k.is w) (subst (λ (c : ℤ). Whole S c) k.is divisor) (le_trans small fit)
      (join_plus g F low high ruled (band g low F b s) (band g high F b s) p inside).plus

  pub once : Regained g b v (divided g S back)
  once = record {
    long = length-divided g S back ∙ restored.long;
    each = λ i h. place i (at_ℤ v i) (omega (arith, restored.long)) (restored.each i h) (x.small i h);
    extra = λ h. place (length v) (next b v) (omega (arith, restored.long)) (restored.extra h) (padded_within b s v A x.samples x.count x.small 0 (length v)).1;
  }
