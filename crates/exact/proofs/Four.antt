-- Laws of four lists of whole taps: where they meet the premises restoring is exact (`pairs_exact`), in every format and under every border.
-- The float sums are the whole numbers' sums, which give S times what the padded line has there (`general`); of the border nothing is asked but that what stands there is a sample or zero.
use Rattle.std.specs.Prelude.{◌≡◌, false, List, ℕ, ◌+◌, ◌-◌, ◌*◌, ◌/◌, ◌%◌, ◌^◌, ◌≤◌, ◌<◌, length, get_or, ℤ, pos, ◌*ℤ◌, Float}
use Rattle.std.proofs.Common.{sym, ◌∙◌, le_refl, le_trans}
use Rattle.std.proofs.Math.Path.{subst}
use Rattle.std.proofs.Math.Nat.{mul-le-mul_right}
use Rattle.std.proofs.Math.Decide.{dec_lt}
use native.Mathlib.Omega.{arith}
use Rattle.std.proofs.Math.ListN.{get_or-eq_default}
use Rattle.std.proofs.Math.IntN.{nat_abs}
use Rattle.std.specs.Float.Ieee.{nan, prec}
use Rattle.std.specs.Float.{Format}
use Rattle.numbers.specs.Words.{plus_zero, at}
use Rattle.numbers.specs.Write.{length-tab, get_or-tab}
use Rattle.numbers.specs.Places.{get_or_any}
use Rattle.whole.specs.Sums.{sizes_of}
use Rattle.whole.specs.Terms.{factor_ℕ}
use Rattle.whole.specs.Floats.{Whole, Within, at_ℤ, Holds}
use Rattle.whole.specs.Exact.{zero_whole}
use Rattle.border.specs.declared.Border.{Border}
use Rattle.border.specs.Rule.{Source, Sample, Zero, source, place_in, value_of, padded}
use Rattle.border.specs.Rules.{padded_line, padded_from}
use Rattle.bank.specs.Lengths.{pairs, line_length}
use Rattle.analysis.specs.Sums.{analysed}
use Rattle.analysis.specs.Lines.{padded_at, band}
use Rattle.analysis.specs.Taps.{length-band}
use Rattle.synthesis.specs.Sums.{joined}
use Rattle.synthesis.specs.Lines.{synthesised}
use Rattle.exact.specs.Restoring.{sizes, largest_sizes, WholeTaps, PairPremises, Cleared, there_and_back, Restored, PairsRestoreExactly}
use Rattle.exact.specs.Classes.{analysed_ℤ, Restores}
use Rattle.exact.specs.Weights.{dot_within, join_within}
use Rattle.exact.specs.Identity.{identity}
use Rattle.exact.specs.Bounds.{weight_le, bound_band, bound_join}
use Rattle.exact.specs.Distances.{restores_by}

-- ---- taps, lines and bands as functions of their place
module _ (f : Format) (g A T : ℕ) (bound : 2 * A * T * T ≤ 2 ^ prec f) (xℤ : ℕ → ℤ) where
  band_within : (tap x : ℕ → Float) (tapℤ : ℕ → ℤ) → ((k : ℕ) → k < 2 * g → Whole (tap k) (tapℤ k)) → sizes_of (2 * g) tapℤ ≤ T → ((q : ℕ) → Within (x q) (xℤ q) A)
      → (i : ℕ) → Within (analysed f (2 * g) tap x i) (analysed_ℤ (2 * g) tapℤ xℤ i) (T * A)
  unfolding analysed
  band_within tap x tapℤ wt t wx i =
      let s = factor_ℕ A (2 * g) (λ k. nat_abs (tapℤ k)) in
      let k : sizes_of (2 * g) tapℤ * A ≤ T * A = mul-le-mul_right A t in
      let d = dot_within f tap (λ j. x (2 * i + j)) tapℤ (λ j. xℤ (2 * i + j)) A (2 * g) wt (λ j l. wx (2 * i + j)) (2 * g) (le_refl (2 * g)) (omega (arith, s, k, bound_band A T (2 ^ prec f) bound)) in
      (d.0, omega (arith, d.1))

  -- a padded place that synthesis gives: 2 g - 2 .. 2 m - 1
  joined_whole : (m : ℕ) (S : ℤ) (low high a d : ℕ → Float) (slℤ shℤ alℤ ahℤ : ℕ → ℤ) (held : Float) (P : ℕ)
      → ((k : ℕ) → k < 2 * g → Whole (low k) (slℤ k)) → ((k : ℕ) → k < 2 * g → Whole (high k) (shℤ k)) → sizes_of (2 * g) slℤ ≤ T → sizes_of (2 * g) shℤ ≤ T
      → ((i : ℕ) → i < m → Within (a i) (analysed_ℤ (2 * g) alℤ xℤ i) (T * A)) → ((i : ℕ) → i < m → Within (d i) (analysed_ℤ (2 * g) ahℤ xℤ i) (T * A))
      → ((k : ℕ) → 2 * g ≤ k → alℤ k ≡ pos 0) → ((k : ℕ) → 2 * g ≤ k → ahℤ k ≡ pos 0) → Restores g S slℤ shℤ alℤ ahℤ
      → Whole held (pos 0) → 2 * g ≤ P + 2 → P < 2 * m → Whole (joined f (2 * g) low high a d P held m) (S *ℤ xℤ P)
  joined_whole m S low high a d slℤ shℤ alℤ ahℤ held P wl wh tl th wa wd zl zh r clear lo hi =
      let u = P / 2 in
      let e = P % 2 in
      let split : 2 * u + e ≡ P = omega arith in
      let w = weight_le g u e m slℤ shℤ (T * A) (omega arith) (omega arith) (omega arith) in
      let j = join_within f (2 * g) low high a d slℤ shℤ (analysed_ℤ (2 * g) alℤ xℤ) (analysed_ℤ (2 * g) ahℤ xℤ) (T * A) (2 * u + e) held m wl wh wa wd clear
      m (le_refl m) (le_trans w (bound_join A T (2 ^ prec f) (sizes_of (2 * g) shℤ) (sizes_of (2 * g) slℤ) bound th tl)) in
      subst (λ (Q : ℕ). Whole (joined f (2 * g) low high a d Q held m) (S *ℤ xℤ Q)) split
      (subst (λ (z : ℤ). Whole (joined f (2 * g) low high a d (2 * u + e) held m) z) (identity g u e m xℤ (omega arith) (omega arith) S slℤ shℤ alℤ ahℤ (omega arith) zl zh r) j.0)

-- ---- on lists
-- 2 g whole taps whose sizes together are at most T
pub record Taps (g T : ℕ) (l : List Float) (z : List ℤ) : Type 0 where
  pub holds : Holds l z
  pub count : length z ≡ 2 * g
  pub light : sizes z ≤ T

taps_whole : {g T : ℕ} {l : List Float} {z : List ℤ} → Taps g T l z → (k : ℕ) → k < 2 * g → Whole (at l k) (at_ℤ z k)
taps_whole t k h = t.holds.whole k (omega (arith, t.count))

taps_weigh : {g T : ℕ} {l : List Float} {z : List ℤ} → Taps g T l z → sizes_of (2 * g) (at_ℤ z) ≤ T
taps_weigh {g} {T} {l} {z} t = subst (λ (n : ℕ). sizes_of n (at_ℤ z) ≤ T) t.count t.light

pub taps_past : {n : ℕ} (z : List ℤ) → length z ≡ n → (k : ℕ) → n ≤ k → at_ℤ z k ≡ pos 0
taps_past z e k h = let o : length z ≤ k = omega (arith, e) in get_or-eq_default z (pos 0) o

-- the padded line is whole, whatever the border
pub padded_within : (b : Border) (s : List Float) (v : List ℤ) (A : ℕ) → Holds s v → length v ≡ length s → ((i : ℕ) → i < length v → nat_abs (at_ℤ v i) ≤ A)
    → (left q : ℕ) → Within (padded plus_zero b s left q) (padded (pos 0) b v left q) A
unfolding padded
padded_within b s v A h e small left q =
    subst (λ (n : ℕ). Within (value_of plus_zero s (source b (place_in left q) (length s))) (value_of (pos 0) v (source b (place_in left q) n)) A) (sym e)
    (value (source b (place_in left q) (length s)))
  where
    sample : (k : ℕ) → Dec (k < length v) → Within (get_or s k plus_zero) (at_ℤ v k) A
    sample k (yes l) = (subst (λ (x : Float). Whole x (at_ℤ v k)) (get_or_any s k nan plus_zero (omega arith)) (h.whole k l), small k l)
    sample k (no n) =
        let p : length s ≤ k = omega arith in
        let q : length v ≤ k = omega arith in
        rw (get_or-eq_default s plus_zero p, get_or-eq_default v (pos 0) q) (zero_whole false, omega arith)

    value : (o : Source) → Within (value_of plus_zero s o) (value_of (pos 0) v o) A
    value (Sample k) = sample k (dec_lt k (length v))
    value Zero = (zero_whole false, omega arith)

-- so is the band that one list of taps makes of it
module _ (f : Format) (b : Border) (g : ℕ) (s : List Float) (v : List ℤ) (A T : ℕ)
    (samples : Holds s v) (count : length v ≡ length s) (small : (i : ℕ) → i < length v → nat_abs (at_ℤ v i) ≤ A) (bound : 2 * A * T * T ≤ 2 ^ prec f) where
  pub bands_within : {l : List Float} {z : List ℤ} → Taps g T l z → (i : ℕ) → i < pairs (length s) (2 * g)
      → Within (at (band f l (2 * g) b s) i) (analysed_ℤ (2 * g) (at_ℤ z) (padded (pos 0) b v (2 * g - 2)) i) (T * A)
  unfolding band
  bands_within {l} {z} t i h =
      rw (get_or-tab (analysed f (2 * g) (at l) (padded_at (2 * g) b s)) (pairs (length s) (2 * g)) i nan h)
      (band_within f g A T bound (padded (pos 0) b v (2 * g - 2)) (at l) (padded_at (2 * g) b s) (at_ℤ z) (taps_whole t) (taps_weigh t) (padded_within b s v A samples count small (2 * g - 2)) i)

module _ (f : Format) (b : Border) (g : ℕ) (S : ℤ) (sl sh al ah s out : List Float) (slℤ shℤ alℤ ahℤ v : List ℤ) (A T : ℕ) (some : 0 < g)
    (tsl : Taps g T sl slℤ) (tsh : Taps g T sh shℤ) (tal : Taps g T al alℤ) (tah : Taps g T ah ahℤ)
    (samples : Holds s v) (count : length v ≡ length s) (small : (i : ℕ) → i < length v → nat_abs (at_ℤ v i) ≤ A) (bound : 2 * A * T * T ≤ 2 ^ prec f)
    (r : Restores g S (at_ℤ slℤ) (at_ℤ shℤ) (at_ℤ alℤ) (at_ℤ ahℤ)) (clear : Cleared out) (ruled : length out ≡ line_length (pairs (length s) (2 * g)) (2 * g)) where
  -- every place that synthesis gives holds S times what the padded line has there
  general : (p : ℕ) → p < length out
      → Whole (at (there_and_back f (2 * g) al ah sl sh b s out) p) (S *ℤ padded (pos 0) b v (2 * g - 2) (2 * g - 2 + p))
  unfolding synthesised
  general p h =
      let F = 2 * g in
      let low = band f al F b s in
      let high = band f ah F b s in
      let there : p + (F - 2) ≡ F - 2 + p = omega arith in
      rw (
        get_or-tab (λ q. joined f F (at sl) (at sh) (at low) (at high) (q + (F - 2)) (at out q) (length low)) (length out) p nan h,
        length-band f al F b s,
        there,
      )
      (joined_whole f g A T bound (padded (pos 0) b v (F - 2)) (pairs (length s) F) S (at sl) (at sh) (at low) (at high) (at_ℤ slℤ) (at_ℤ shℤ) (at_ℤ alℤ) (at_ℤ ahℤ) (at out p) (F - 2 + p)
      (taps_whole tsl) (taps_whole tsh) (taps_weigh tsl) (taps_weigh tsh) (bands_within f b g s v A T samples count small bound tal) (bands_within f b g s v A T samples count small bound tah) (taps_past alℤ tal.count) (taps_past ahℤ tah.count) r
      (clear.clear p h) (omega arith) (omega arith))

-- ---- the premises
module _ (f : Format) (b : Border) (g : ℕ) (al ah sl sh s out : List Float) (alℤ ahℤ slℤ shℤ v : List ℤ) (S : ℤ) (A : ℕ) (x : PairPremises f (2 * g) al ah sl sh s alℤ ahℤ slℤ shℤ v S A)
    (clear : Cleared out) (ruled : length out ≡ line_length (pairs (length s) (2 * g)) (2 * g)) where
  abbrev T : ℕ
  T = largest_sizes alℤ ahℤ slℤ shℤ

  weighed : {l : List Float} {z : List ℤ} → WholeTaps (2 * g) l z → sizes z ≤ T → Taps g T l z
  weighed t k = record { holds = t.holds; count = t.told; light = k }

  some : 0 < g
  some = omega (arith, x.taps.two)

  places : (p : ℕ) → p < length out → Whole (at (there_and_back f (2 * g) al ah sl sh b s out) p) (S *ℤ padded (pos 0) b v (2 * g - 2) (2 * g - 2 + p))
  places =
      general f b g S sl sh al ah s out slℤ shℤ alℤ ahℤ v A T some
      (weighed x.back_low (omega arith)) (weighed x.back_high (omega arith)) (weighed x.there_low (omega arith)) (weighed x.there_high (omega arith))
      x.samples x.count x.small x.bound (restores_by g S alℤ ahℤ slℤ shℤ x.back_low.told x.back_high.told x.here (λ e d h k. x.apart e d (omega (arith, h)) (omega (arith, k)))) clear ruled

  long : length out ≡ length v + length v % 2
  long = omega (arith, x.count, ruled, some)

  all_restored : Restored b S v (there_and_back f (2 * g) al ah sl sh b s out)
  unfolding synthesised
  all_restored = record {
    long = length-tab _ (length out) ∙ long;
    each = λ i h. subst (λ (y : ℤ). Whole (at (there_and_back f (2 * g) al ah sl sh b s out) i) (S *ℤ y)) (padded_line (pos 0) b v (2 * g - 2) i h) (places i (omega (arith, long)));
    extra = λ h. subst (λ (y : ℤ). Whole (at (there_and_back f (2 * g) al ah sl sh b s out) (length v)) (S *ℤ y)) (padded_from (pos 0) b v (2 * g - 2) (length v)) (places (length v) (omega (arith, long)));
  }

pub pairs_exact : (f : Format) → PairsRestoreExactly f
pairs_exact f b F al ah sl sh s out alℤ ahℤ slℤ shℤ v S A x clear ruled =
    let g = F / 2 in
    let e : 2 * g ≡ F = omega (arith, x.taps.even) in
    subst (λ (n : ℕ). Restored b S v (there_and_back f n al ah sl sh b s out)) e
    (all_restored f b g al ah sl sh s out alℤ ahℤ slℤ shℤ v S A
    (subst (λ (n : ℕ). PairPremises f n al ah sl sh s alℤ ahℤ slℤ shℤ v S A) (sym e) x) clear
    (subst (λ (n : ℕ). length out ≡ line_length (pairs (length s) n) n) (sym e) ruled))
