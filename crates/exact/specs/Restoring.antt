-- Restoring is exact where it can be: what is asked of taps and samples, and what analysis followed by synthesis then gives. Definitions only.
-- Two statements: the first of the same pair of taps both ways (`RestoringIsExact`), the second of a pair for each way (`PairsRestoreExactly`).
-- Floats that are whole stand beside the whole numbers that they are: z the low taps, v the samples. The statements are over a format f, whose whole numbers reach to 2^prec: 2^53 for binary64.
use Rattle.std.specs.Prelude.{◌≡◌, List, ℕ, ◌+◌, ◌*◌, ◌/◌, ◌%◌, ◌^◌, max, ◌≤◌, ◌<◌, length, ℤ, pos, negsuc, neg_ℤ, nat_abs, ◌+ℤ◌, ◌*ℤ◌, Float}
use Rattle.std.specs.Float.{Format}
use Rattle.std.specs.Float.Ieee.{prec}
use Rattle.numbers.specs.Words.{longest, at}
use Rattle.whole.specs.Sums.{integers, sum, sizes_of}
use Rattle.whole.specs.Floats.{Whole, at_ℤ, Holds}
use Rattle.border.specs.declared.Border.{Border}
use Rattle.border.specs.Rule.{padded}
use Rattle.bank.specs.Lengths.{GoodTaps, pairs, line_length}
use Rattle.bank.specs.Banks.{mirror_of}
use Rattle.analysis.specs.Lines.{band}
use Rattle.synthesis.specs.Lines.{synthesised}

-- S, the sum of squared taps
abbrev pub squares : List ℤ → ℤ
squares z = sum integers (length z) (λ j. at_ℤ z j *ℤ at_ℤ z j)

-- T, the sum of their sizes
abbrev pub sizes : List ℤ → ℕ
sizes z = sizes_of (length z) (at_ℤ z)

-- the sum of the taps' products with themselves shifted by d; a shift back pairs the same taps
abbrev pub shifted : List ℤ → ℕ → ℤ
shifted z d = sum integers (length z) (λ j. at_ℤ z j *ℤ at_ℤ z (j + d))

-- the bank's mirror rule, in whole numbers: tap F - 1 - j, plus at even j, minus at odd
abbrev pub mirror : List ℤ → ℕ → ℤ
mirror z j = mirror_of neg_ℤ (at_ℤ z) (length z) j

-- F taps in use of each list, samples s, and A
pub record Premises (f : Format) (F : ℕ) (low high s : List Float) (z v : List ℤ) (A : ℕ) : Type 0 where
  -- an even number of whole low taps, 2 to 64
  pub taps : GoodTaps F
  pub lows : Holds low z
  pub told : length z ≡ F
  -- whose products with themselves shifted by any even distance but zero sum to zero
  pub apart : (k : ℕ) → 0 < k → shifted z (2 * k) ≡ pos 0
  -- high taps by the mirror rule
  pub highs : (j : ℕ) → j < F → Whole (at high j) (mirror z j)
  -- samples whole, no fewer than the taps, at most 1,048,576
  pub samples : Holds s v
  pub count : length v ≡ length s
  pub enough : F ≤ length s
  pub limit : length s ≤ longest
  -- A at least 1 and no sample larger in size
  pub one : 1 ≤ A
  pub small : (i : ℕ) → i < length v → nat_abs (at_ℤ v i) ≤ A
  -- 2 A T T at most 2^prec
  pub bound : 2 * A * sizes z * sizes z ≤ 2 ^ prec f

-- every place a zero, of either sign
pub record Cleared (out : List Float) : Type 0 where
  pub clear : (p : ℕ) → p < length out → Whole (at out p) (pos 0)

-- the border's next sample: what stands just behind the line
abbrev pub next : Border → List ℤ → ℤ
next b v = padded (pos 0) b v 0 (length v)

-- exactly S times each sample, either zero as zero; of an odd length the one extra place holds S times the border's next sample
pub record Restored (b : Border) (S : ℤ) (v : List ℤ) (out : List Float) : Type 0 where
  pub long : length out ≡ length v + length v % 2
  pub each : (i : ℕ) → i < length v → Whole (at out i) (S *ℤ at_ℤ v i)
  pub extra : length v % 2 ≡ 1 → Whole (at out (length v)) (S *ℤ next b v)

-- analysis of the samples by the taps al and ah, then synthesis of both bands by sl and sh onto an output
abbrev pub there_and_back : Format → ℕ → List Float → List Float → List Float → List Float → Border → List Float → List Float → List Float
there_and_back f F al ah sl sh b s out = synthesised f F sl sh (band f al F b s) (band f ah F b s) out

-- under any border, into a cleared output of the ruled length, by the same taps both ways
abbrev pub RestoringIsExact : Format → Type 0
RestoringIsExact f =
    (b : Border) (F : ℕ) (low high s out : List Float) (z v : List ℤ) (A : ℕ) → Premises f F low high s z v A
    → Cleared out → length out ≡ line_length (pairs (length s) F) F
    → Restored b (squares z) v (there_and_back f F low high low high b s out)

-- ---- a pair of its own for the way back

-- the tap at a place; there is none in front of the list, as there is none behind it
abbrev pub tap_at : List ℤ → ℤ → ℤ
tap_at z (pos j) = at_ℤ z j
tap_at z (negsuc j) = pos 0

-- over the synthesis taps s at places e, e + 2 and so on: each times the analysis tap of a that lies at distance d from it, on or back
abbrev pub crossed : List ℤ → List ℤ → ℕ → ℤ → ℤ
crossed s a e d = sum integers (length s / 2) (λ t. at_ℤ s (2 * t + e) *ℤ tap_at a (pos (2 * t + e) +ℤ d))

-- low with low plus high with high
abbrev pub weight : List ℤ → List ℤ → List ℤ → List ℤ → ℕ → ℤ → ℤ
weight al ah sl sh e d = crossed sl al e d +ℤ crossed sh ah e d

-- T, the largest of the four sums of sizes
abbrev pub largest_sizes : List ℤ → List ℤ → List ℤ → List ℤ → ℕ
largest_sizes al ah sl sh = max (max (sizes al) (sizes ah)) (max (sizes sl) (sizes sh))

-- the first F taps of a list are these whole numbers
pub record WholeTaps (F : ℕ) (taps : List Float) (z : List ℤ) : Type 0 where
  pub holds : Holds taps z
  pub told : length z ≡ F

-- F taps in use of each of four lists, the way there's and the way back's; samples s, A, and any whole number S
pub record PairPremises (f : Format) (F : ℕ) (al ah sl sh s : List Float) (alℤ ahℤ slℤ shℤ v : List ℤ) (S : ℤ) (A : ℕ) : Type 0 where
  -- an even number of taps, 2 to 64, all of them whole
  pub taps : GoodTaps F
  pub there_low : WholeTaps F al alℤ
  pub there_high : WholeTaps F ah ahℤ
  pub back_low : WholeTaps F sl slℤ
  pub back_high : WholeTaps F sh shℤ
  -- over the synthesis taps at even places, and again over those at odd ones: S at distance zero
  pub here : (e : ℕ) → e < 2 → weight alℤ ahℤ slℤ shℤ e (pos 0) ≡ S
  -- and 0 at every other distance
  pub apart : (e : ℕ) (d : ℤ) → e < 2 → 0 < nat_abs d → weight alℤ ahℤ slℤ shℤ e d ≡ pos 0
  -- samples whole, no fewer than the taps, at most 1,048,576
  pub samples : Holds s v
  pub count : length v ≡ length s
  pub enough : F ≤ length s
  pub limit : length s ≤ longest
  -- A at least 1 and no sample larger in size
  pub one : 1 ≤ A
  pub small : (i : ℕ) → i < length v → nat_abs (at_ℤ v i) ≤ A
  -- 2 A T T at most 2^prec
  pub bound : 2 * A * largest_sizes alℤ ahℤ slℤ shℤ * largest_sizes alℤ ahℤ slℤ shℤ ≤ 2 ^ prec f

-- under any border, into a cleared output of the ruled length, by a pair of taps for each way
abbrev pub PairsRestoreExactly : Format → Type 0
PairsRestoreExactly f =
    (b : Border) (F : ℕ) (al ah sl sh s out : List Float) (alℤ ahℤ slℤ shℤ v : List ℤ) (S : ℤ) (A : ℕ) → PairPremises f F al ah sl sh s alℤ ahℤ slℤ shℤ v S A
    → Cleared out → length out ≡ line_length (pairs (length s) F) F
    → Restored b S v (there_and_back f F al ah sl sh b s out)
