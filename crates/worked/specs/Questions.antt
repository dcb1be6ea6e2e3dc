-- What P1 to P13 (RULES, Examples) ask, and what is answered by the definitions that the entries' promises cite. Every buffer is as long as the rules say. Definitions only.
use Rattle.std.specs.Prelude.{List, [], ◌∷◌, ◌++◌, map, ℕ, suc, ◌+◌, ◌*◌, ℤ, pos, neg_ℤ, length, Float}
use Rattle.std.specs.Float.{binary64}
use Rattle.std.specs.Float.Ieee.{of_int, neg}
use Rattle.numbers.specs.Words.{plus_zero, when_done, tab}
use Rattle.border.specs.declared.Border.{Border}
use Rattle.border.specs.Rule.{padded}
use Rattle.bank.specs.Lengths.{pairs, left_pad, right_pad, padded_length, line_length}
use Rattle.analysis.specs.Lines.{band}
use Rattle.analysis.specs.Analyses as Analyses
use Rattle.synthesis.specs.Lines.{join_of}
use Rattle.synthesis.specs.Syntheses as Syntheses
use Rattle.packed.specs.Lengths.{levels_of, packed_length, level_count, levels_scratch}
use Rattle.packed.specs.Answers as Packed
use Rattle.levels.specs.Analyses as Levels
use Rattle.convolution.specs.Pads.{needed}
use Rattle.convolution.specs.Convolutions as Convolutions
use Rattle.planes.specs.Lengths.{band_length, plane_scratch}
use Rattle.planes.specs.Answers as Planes
use Rattle.plane_analysis.specs.Bands.{plane_band}
use Rattle.plane_analysis.specs.Analyses as PlaneAnalyses
use Rattle.exact.specs.Restoring.{squares}

-- a whole number by its sign, so that - 0 is not + 0
infix 95 +◌
infix 95 -◌
pub data Signed : Type 0 where
  +◌ -◌ : ℕ → Signed

abbrev pub whole : Signed → ℤ
whole (+ n) = pos n
whole (- n) = neg_ℤ (pos n)

abbrev pub float : Signed → Float
float (+ n) = of_int binary64 (pos n)
float (- n) = neg (of_int binary64 (pos n))

abbrev pub floats : List Signed → List Float
floats l = map float l

-- f counts taps, n samples, m pairs, and p places on each side; low and high are taps
pub data Question : Type 0 where
  -- m, the left pad and the right pad of n samples
  Split : (f n : ℕ) → Question
  -- the places that m pairs give
  Join : (f m : ℕ) → Question
  -- the parts of a packed buffer, details first, and its length
  Over : (f n levels : ℕ) → Question
  -- the line that one level leaves
  Left : (f n : ℕ) → Question
  -- what a border puts before a line and behind it
  Edges : (b : Border) (p : ℕ) (line : List Signed) → Question
  -- approximations and details; approximations alone
  Bands : (b : Border) (low high line : List Signed) → Question
  Approx : (b : Border) (low line : List Signed) → Question
  -- the line that two bands give, onto zeros
  Restore : (low high approx detail : List Signed) → Question
  -- S, the sum of squared taps
  Factor : (low : List Signed) → Question
  -- a line with a kernel about a centre
  Convolve : (b : Border) (line kernel : List Signed) (centre : Signed) → Question
  -- LL of a plane that is told by rows
  Plane : (b : Border) (width height : ℕ) (low high plane : List Signed) → Question

pub data Answer : Type 0 where
  Numbers : List ℕ → Answer
  Line : List Float → Answer
  Lines : (first second : List Float) → Answer
  Refused : (number : ℕ) (carried : List ℕ) → Answer

-- what is given where the tests say 0, and their refusal where they do not
abbrev pub told : ℕ → List ℕ → Answer → Answer
told number carried given = when_done number given (Refused number carried)

-- each entry's own tests
abbrev pub analysing : ℕ → ℕ → Answer → Answer
analysing f n given = let r = Analyses.answer_of f n (pairs n f) (pairs n f) (padded_length n f) in told (Analyses.number_of r) (Analyses.values_of r) given

abbrev pub synthesising : ℕ → ℕ → Answer → Answer
synthesising f m given = let r = Syntheses.answer_of f m m (line_length m f) in told (Syntheses.number_of r) (Syntheses.values_of r) given

abbrev pub levelling : ℕ → ℕ → ℕ → Answer → Answer
levelling f n levels given = let r = Levels.answer_of n f levels (packed_length n f levels) (levels_scratch n f) in told (Packed.number_of r) (Packed.values_of r) given

abbrev pub convolving : Border → ℕ → ℕ → ℤ → Answer → Answer
convolving b n f c given = let r = Convolutions.answer_of b n n f c (needed n f c) in told (Convolutions.number_of r) (Convolutions.values_of r) given

abbrev pub analysing_plane : ℕ → ℕ → ℕ → Answer → Answer
analysing_plane f w h given =
    let l = band_length w h f in
    let r = PlaneAnalyses.answer_of w h f (w * h) (plane_scratch w h f) l l l l in
    told (Planes.number_of r) (Planes.values_of r) given

-- the band that one list of taps makes of a line
abbrev pub band_of : Border → List Signed → List Signed → List Float
band_of b taps line = band binary64 (floats taps) (length taps) b (floats line)

abbrev pub answered : Question → Answer
answered (Split f n) = analysing f n (Numbers (pairs n f ∷ left_pad n f ∷ right_pad n f ∷ []))
answered (Join f m) = synthesising f m (Numbers (line_length m f ∷ []))
answered (Over f n levels) =
    levelling f n levels (Numbers (tab (λ k. level_count n f levels (suc k)) (levels_of levels) ++ (level_count n f levels 0 ∷ packed_length n f levels ∷ [])))
answered (Left f n) = levelling f n 1 (Numbers (level_count n f 1 0 ∷ []))
answered (Edges b p line) =
    Lines (tab (padded plus_zero b (floats line) p) p) (tab (λ q. padded plus_zero b (floats line) p (p + length line + q)) p)
answered (Bands b low high line) = analysing (length low) (length line) (Lines (band_of b low line) (band_of b high line))
answered (Approx b low line) = analysing (length low) (length line) (Line (band_of b low line))
answered (Restore low high approx detail) =
    let f = length low in
    let m = length approx in
    synthesising f m (Line (join_of binary64 f (floats low) (floats high) (line_length m f) (floats approx) (floats detail)))
answered (Factor low) = Line (of_int binary64 (squares (map whole low)) ∷ [])
answered (Convolve b line kernel c) =
    convolving b (length line) (length kernel) (whole c) (Line (Convolutions.convolved_line binary64 b (floats line) (floats kernel) (whole c)))
answered (Plane b w h low high plane) = analysing_plane (length low) w h (Line (plane_band binary64 (floats low) (floats low) (length low) b (floats plane) w h))
