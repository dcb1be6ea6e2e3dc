-- Planes, for C: what each entry promises, told. Definitions only.
-- Taps stand in the caller's own lists, and their count is that of both.
use Rattle.std.specs.Prelude.{◌≡◌, List, ℕ, length, Float}
use Rattle.bank.specs.Banks.{taps_of}
use Rattle.planes.specs.Answers.{number_of, values_of, size_number, size_values, WidthSized, HeightSized, BandSized, ScratchSized}
use Rattle.plane_analysis.specs.Analyses.{Analysed}
use Rattle.plane_synthesis.specs.Syntheses.{Synthesised}
use Rattle.comparing.specs.Comparings as Comparings
use Rattle.telling.specs.Told.{ToldOf}
use Rattle.telling.specs.Borders.{ToldUnder}
use Rattle.plane_telling.specs.Comparisons.{number_told}

abbrev pub PlaneBandWidthTold : ℕ → ℕ → ℕ → List ℕ → ℕ → List ℕ → Type 0
PlaneBandWidthTold w h f words r words' = ToldOf size_number size_values (WidthSized w h f) words r words'

abbrev pub PlaneBandHeightTold : ℕ → ℕ → ℕ → List ℕ → ℕ → List ℕ → Type 0
PlaneBandHeightTold w h f words r words' = ToldOf size_number size_values (HeightSized w h f) words r words'

abbrev pub PlaneBandLengthTold : ℕ → ℕ → ℕ → List ℕ → ℕ → List ℕ → Type 0
PlaneBandLengthTold w h f words r words' = ToldOf size_number size_values (BandSized w h f) words r words'

abbrev pub PlaneScratchTold : ℕ → ℕ → ℕ → List ℕ → ℕ → List ℕ → Type 0
PlaneScratchTold w h f words r words' = ToldOf size_number size_values (ScratchSized w h f) words r words'

abbrev pub PlaneAnalysisTold : ℕ → List Float → List Float → List Float → ℕ → ℕ → List Float → List Float → List Float → List Float → List Float → List ℕ
    → ℕ → List Float → List Float → List Float → List Float → List Float → List ℕ → Type 0
PlaneAnalysisTold border low high plane w h ll lh hl hh scratch words r ll' lh' hl' hh' scratch' words' =
    ToldUnder border number_of values_of
    (λ b a. Analysed low high (taps_of (length low) (length high)) b plane w h ll lh hl hh scratch a ll' lh' hl' hh' scratch')
    ((ll' ≡ ll) × (lh' ≡ lh) × (hl' ≡ hl) × (hh' ≡ hh) × (scratch' ≡ scratch)) words r words'

abbrev pub PlaneSynthesisTold : List Float → List Float → List Float → List Float → List Float → List Float → ℕ → ℕ → List Float → List Float → List ℕ
    → ℕ → List Float → List Float → List ℕ → Type 0
PlaneSynthesisTold low high ll lh hl hh w h plane scratch words r plane' scratch' words' =
    ToldOf number_of values_of (λ a. Synthesised low high (taps_of (length low) (length high)) ll lh hl hh w h plane scratch a plane' scratch') words r words'

-- 27, which is no refusal, carries column and row of the first place that differs
abbrev pub ComparisonTold : List Float → List Float → ℕ → ℕ → List ℕ → ℕ → List ℕ → Type 0
ComparisonTold first second w h words r words' = ToldOf number_told Comparings.values_of (Comparings.BandsCompared first second w h) words r words'
