-- One line, for C: what each entry promises, told. Definitions only.
-- Taps stand in the caller's own lists, and their count is that of both. Each is said of a format: an export has its own.
use Rattle.std.specs.Prelude.{◌≡◌, List, [], ℕ, ℤ, length, Float}
use Rattle.std.specs.Float.{Format}
use Rattle.bank.specs.declared.making.Making.{Making}
use Rattle.bank.specs.Banks as Banks
use Rattle.bank.specs.Banks.{taps_of}
use Rattle.analysis.specs.Analyses as Analyses
use Rattle.direct_analysis.specs.Analyses as Direct
use Rattle.synthesis.specs.Syntheses as Syntheses
use Rattle.convolution.specs.Convolutions as Convolutions
use Rattle.telling.specs.Told.{ToldOf}
use Rattle.telling.specs.Borders.{ToldUnder}

-- an answer of the mirror rule carries nothing, so that no words are lent for it
pub record MirrorTold (low high : List Float) (r : ℕ) (high' : List Float) : Type 0 where
  pub answer : Making
  pub promised : Banks.Mirrored low high answer high'
  pub given : r ≡ Banks.number_of answer
  pub bare : Banks.values_of answer ≡ []

-- an answer whether four lists make a bank carries nothing either
pub record PairsTold (low high sl sh r : ℕ) : Type 0 where
  pub answer : Making
  pub promised : answer ≡ Banks.answer_of_four low high sl sh
  pub given : r ≡ Banks.number_of answer
  pub bare : Banks.values_of answer ≡ []

abbrev pub AnalysisTold : Format → ℕ → List Float → List Float → List Float → List Float → List Float → List Float → List ℕ → ℕ → List Float → List Float → List Float → List ℕ → Type 0
AnalysisTold w border low high line approx detail scratch words r approx' detail' scratch' words' =
    ToldUnder border Analyses.number_of Analyses.values_of
    (λ b a. Analyses.Analysed w low high (taps_of (length low) (length high)) b line approx detail scratch a approx' detail' scratch')
    ((approx' ≡ approx) × (detail' ≡ detail) × (scratch' ≡ scratch)) words r words'

-- by the second engine, which has no scratch
abbrev pub DirectTold : Format → ℕ → List Float → List Float → List Float → List Float → List Float → List ℕ → ℕ → List Float → List Float → List ℕ → Type 0
DirectTold w border low high line approx detail words r approx' detail' words' =
    ToldUnder border Analyses.number_of Analyses.values_of
    (λ b a. Direct.Analysed w low high (taps_of (length low) (length high)) b line approx detail a approx' detail')
    ((approx' ≡ approx) × (detail' ≡ detail)) words r words'

abbrev pub SynthesisTold : Format → List Float → List Float → List Float → List Float → List Float → List ℕ → ℕ → List Float → List ℕ → Type 0
SynthesisTold w low high approx detail out words r out' words' =
    ToldOf Syntheses.number_of Syntheses.values_of (λ a. Syntheses.Synthesised w low high (taps_of (length low) (length high)) approx detail out a out') words r words'

abbrev pub ConvolutionTold : Format → ℕ → List Float → List Float → List Float → List Float → ℤ → List ℕ → ℕ → List Float → List Float → List ℕ → Type 0
ConvolutionTold w border line out scratch kernel c words r out' scratch' words' =
    ToldUnder border Convolutions.number_of Convolutions.values_of (λ b a. Convolutions.Convolved w b line out scratch kernel c a out' scratch')
    ((out' ≡ out) × (scratch' ≡ scratch)) words r words'
