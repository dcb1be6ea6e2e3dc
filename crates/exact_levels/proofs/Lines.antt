-- Laws of every level's line: the band of a whole line is whole and holds each of its numbers as that number's float, so each level's line meets the one-level premises with its own A.
use Rattle.std.specs.Prelude.{◌≡◌, false, List, length, ℤ, pos, Float}
use Rattle.std.proofs.Math.Path.{sym, ap}
use Rattle.std.proofs.Common.{◌∙◌, subst, le_refl, le_trans, arith}
use Prim.Native.Nat.{ℕ, zero, suc, ◌-◌, ◌*◌, ◌/◌, ◌^◌, ◌<◌}
use Rattle.std.specs.Float.{Format}
use Rattle.std.specs.Float.Ieee.{prec, of_int}
use Rattle.numbers.specs.Words.{at}
use Rattle.numbers.specs.Write.{length-tab, get_or-tab}
use Rattle.whole.specs.Floats.{Within, at_ℤ}
use Rattle.whole.specs.Zeros.{whole_int}
use Rattle.border.specs.declared.Border.{Border}
use Rattle.border.specs.Rule.{padded}
use Rattle.bank.specs.Lengths.{pairs}
use Rattle.analysis.specs.Lines.{band}
use Rattle.analysis.specs.Taps.{length-band}
use Rattle.packed.specs.Lengths.{too_short}
use Rattle.packed.specs.Falls.{long_before, fallen}
use Rattle.levels.specs.Lines.{line_of}
use Rattle.levels.specs.Steps.{length-line}
use Rattle.exact.specs.Restoring.{sizes, Premises}
use Rattle.exact.specs.Classes.{analysed_ℤ}
use Rattle.exact.specs.Bounds.{bound_band}
use Rattle.exact.proofs.Four.{bands_within}
use Rattle.exact_levels.specs.Through.{whole_line, ThroughPremises}
use Rattle.exact_levels.specs.Signs.{band_plus}

-- ---- one band
module _ (g : Format) (b : Border) (F : ℕ) (low high s : List Float) (z v : List ℤ) (A : ℕ) (x : Premises g F low high s z v A) where
  abbrev number : ℕ → ℤ
  number i = analysed_ℤ F (at_ℤ z) (padded (pos 0) b v (F - 2)) i

  pub band_whole : (i : ℕ) → i < pairs (length s) F → Within (at (band g low F b s) i) (number i) (sizes z * A)
  band_whole =
      let h = F / 2 in
      let e : 2 * h ≡ F = omega (arith, x.taps.even) in
      subst (λ (n : ℕ). (i : ℕ) → i < pairs (length s) n → Within (at (band g low n b s) i) (analysed_ℤ n (at_ℤ z) (padded (pos 0) b v (n - 2)) i) (sizes z * A)) e
      (bands_within g b h s v A (sizes z) x.samples x.count x.small x.bound (record { holds = x.lows; count = x.told ∙ sym e; light = le_refl (sizes z) }))

  pub band_floats : (i : ℕ) → i < pairs (length s) F → at (band g low F b s) i ≡ of_int g (number i)
  band_floats i h =
      let w = band_whole i h in
      let p = band_plus g low F b s i h in
      whole_int g (at (band g low F b s) i) (number i) p.held (le_trans w.1 (bound_band A (sizes z) (2 ^ prec g) x.bound)) p.plus w.0

-- ---- every level
module _ (g : Format) (b : Border) (F : ℕ) (low high s : List Float) (S : Float) (levels : ℕ) (z v : List ℤ) (A : ℕ → ℕ)
    (x : ThroughPremises g F low high b s S levels z v A) (allowed : too_short (length s) F levels ≡ false) where
  abbrev line : ℕ → List Float
  line k = line_of g low F b s k

  abbrev numbers : ℕ → List ℤ
  numbers k = whole_line F z b v k

  abbrev number_in : ℕ → ℕ → ℤ
  number_in k i = analysed_ℤ F (at_ℤ z) (padded (pos 0) b (numbers k) (F - 2)) i

  pub line_premised : (k : ℕ) → k < levels → Premises g F low high (line k) z (numbers k) (A k)
  unfolding line_of whole_line
  line_premised zero h = x.first
  line_premised (suc k) h =
      let p = line_premised k (omega arith) in
      let own = x.each (suc k) h in
      let long = long_before (length s) F (suc k) levels allowed h in
      let fell = fallen (length s) F (suc k) x.first.taps long.0 in
      let count = length-tab (number_in k) (pairs (length (numbers k)) F) in
      record {
        taps = x.first.taps;
        lows = x.first.lows;
        told = x.first.told;
        apart = x.first.apart;
        highs = x.first.highs;
        samples = record {
          whole = λ i l.
              let j : i < pairs (length (numbers k)) F = omega (arith, l, count) in
              rw (get_or-tab (number_in k) (pairs (length (numbers k)) F) i (pos 0) j)
              (band_whole g b F low high (line k) z (numbers k) (A k) p i (omega (arith, j, p.count))).0;
        };
        count = count ∙ ap (λ (n : ℕ). pairs n F) p.count ∙ sym (length-band g low F b (line k));
        enough = omega (arith, length-line g low F b s (suc k), long.1);
        limit = omega (arith, length-line g low F b s (suc k), fell.fewer, x.first.limit);
        one = own.one;
        small = own.small;
        bound = own.bound;
      }

  -- the line that a level leaves, bit for bit
  pub line_floats : (k : ℕ) → k < levels → (i : ℕ) → i < length (numbers (suc k)) → at (line (suc k)) i ≡ of_int g (at_ℤ (numbers (suc k)) i)
  unfolding line_of whole_line
  line_floats k h i l =
      let p = line_premised k h in
      let j : i < pairs (length (numbers k)) F = omega (arith, l, length-tab (number_in k) (pairs (length (numbers k)) F)) in
      band_floats g b F low high (line k) z (numbers k) (A k) p i (omega (arith, j, p.count))
      ∙ ap (of_int g) (sym (get_or-tab (number_in k) (pairs (length (numbers k)) F) i (pos 0) j))
