-- The lengths to lend, for C: what each entry promises, told. Definitions only.
use Rattle.std.specs.Prelude.{List, ℕ, ℤ}
use Rattle.bank.specs.Sizes.{number_of, values_of, BandSized, LineSized, ScratchSized}
use Rattle.convolution.specs.Sizes as Scratch
use Rattle.telling.specs.Told.{ToldOf}

abbrev pub BandLengthTold : ℕ → ℕ → List ℕ → ℕ → List ℕ → Type 0
BandLengthTold n f words r words' = ToldOf number_of values_of (BandSized n f) words r words'

abbrev pub LineLengthTold : ℕ → ℕ → List ℕ → ℕ → List ℕ → Type 0
LineLengthTold m f words r words' = ToldOf number_of values_of (LineSized m f) words r words'

abbrev pub AnalysisScratchTold : ℕ → ℕ → List ℕ → ℕ → List ℕ → Type 0
AnalysisScratchTold n f words r words' = ToldOf number_of values_of (ScratchSized n f) words r words'

abbrev pub ConvolutionScratchTold : ℕ → ℕ → ℤ → List ℕ → ℕ → List ℕ → Type 0
ConvolutionScratchTold n f c words r words' = ToldOf Scratch.number_of Scratch.values_of (Scratch.ScratchSized n f c) words r words'
