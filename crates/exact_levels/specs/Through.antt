-- Restoring through every level is exact where it can be: what is asked of taps, samples and the divisor, and what analysis over levels followed by restoring with division then gives. Definitions only.
-- The first statement of `exact` (Restoring) is asked of the line, and its bound of every level's line; floats that are whole stand beside the whole numbers that they are, as there.
use Rattle.std.specs.Prelude.{◌≡◌, false, List, ◌≢◌, ℕ, zero, suc, ◌+◌, ◌-◌, ◌*◌, ◌%◌, ◌^◌, ◌≤◌, ◌<◌, length, ℤ, pos, nat_abs, Float}
use Rattle.std.specs.Float.{Format}
use Rattle.std.specs.Float.Ieee.{prec, of_int}
use Rattle.numbers.specs.Words.{at, tab}
use Rattle.whole.specs.Floats.{Whole, at_ℤ}
use Rattle.border.specs.declared.Border.{Border}
use Rattle.border.specs.Rule.{padded}
use Rattle.bank.specs.Lengths.{pairs}
use Rattle.packed.specs.Lengths.{too_short}
use Rattle.levels.specs.Lines.{packed_line}
use Rattle.restoring.specs.Dividings.{restored_divided}
use Rattle.exact.specs.Restoring.{squares, sizes, Premises, next}
use Rattle.exact.specs.Classes.{analysed_ℤ}

-- the line that k levels leave, in whole numbers: of F low taps z and the samples v
unfoldable pub whole_line : ℕ → List ℤ → Border → List ℤ → ℕ → List ℤ
whole_line F z b v zero = v
whole_line F z b v (suc k) =
    let u = whole_line F z b v k in
    tab (analysed_ℤ F (at_ℤ z) (padded (pos 0) b u (F - 2))) (pairs (length u) F)

-- a line's own A: at least 1, no number of the line larger in size, 2 A T T at most 2^prec
pub record Bounded (g : Format) (z u : List ℤ) (A : ℕ) : Type 0 where
  pub one : 1 ≤ A
  pub small : (i : ℕ) → i < length u → nat_abs (at_ℤ u i) ≤ A
  pub bound : 2 * A * sizes z * sizes z ≤ 2 ^ prec g

-- F taps in use of each list, under a border, samples s, and a divisor S; A k is that of the line which k levels leave
pub record ThroughPremises (g : Format) (F : ℕ) (low high : List Float) (b : Border) (s : List Float) (S : Float) (levels : ℕ) (z v : List ℤ) (A : ℕ → ℕ) : Type 0 where
  -- of the line itself what the first statement asks
  pub first : Premises g F low high s z v (A 0)
  -- of every level's line that it keeps the bound
  pub each : (k : ℕ) → k < levels → Bounded g z (whole_line F z b v k) (A k)
  -- the divisor is the sum of squares, and not zero
  pub divisor : Whole S (squares z)
  pub above : squares z ≢ pos 0

-- each sample as the float of its whole number, zero as +0; of an odd length the one extra place holds the border's next sample
pub record Regained (g : Format) (b : Border) (v : List ℤ) (out : List Float) : Type 0 where
  pub long : length out ≡ length v + length v % 2
  pub each : (i : ℕ) → i < length v → at out i ≡ of_int g (at_ℤ v i)
  pub extra : length v % 2 ≡ 1 → at out (length v) ≡ of_int g (next b v)

-- under any border, through any number of levels that the line allows, by the same taps both ways
abbrev pub LevelsRestoreExactly : Format → Type 0
LevelsRestoreExactly g =
    (b : Border) (F : ℕ) (low high s : List Float) (S : Float) (levels : ℕ) (z v : List ℤ) (A : ℕ → ℕ) → ThroughPremises g F low high b s S levels z v A
    → 1 ≤ levels → too_short (length s) F levels ≡ false
    → Regained g b v (restored_divided g S F low high (packed_line g low high F b s levels) (length s) levels)
