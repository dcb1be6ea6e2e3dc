-- P1 to P13 (RULES, Examples) hold, all of one list: each is computed.
use Rattle.std.specs.Prelude.{refl}
use Rattle.std.specs.Float.Ieee.{of_int, add, mul, neg}
use Rattle.numbers.specs.Words.{tab}
use Rattle.whole.specs.Sums.{sum}
use Rattle.border.specs.declared.Border.{Border}
use Rattle.border.specs.Rule.{source, padded}
use Rattle.bank.specs.Lengths.{bad_taps}
use Rattle.summing.specs.Sums.{dot}
use Rattle.analysis.specs.Sums.{analysed}
use Rattle.analysis.specs.Lines.{band}
use Rattle.analysis.specs.Analyses as Analyses
use Rattle.synthesis.specs.Sums.{joined}
use Rattle.synthesis.specs.Lines.{synthesised}
use Rattle.synthesis.specs.Syntheses as Syntheses
use Rattle.packed.specs.Lengths.{line_after, too_short, details_to}
use Rattle.packed.specs.Answers.{asked_of, held_of}
use Rattle.levels.specs.Analyses as Levels
use Rattle.convolution.specs.Pads.{beyond, left_pad, pad_over}
use Rattle.convolution.specs.Sums.{convolved, convolution}
use Rattle.convolution.specs.Convolutions as Convolutions
use Rattle.tables.specs.Tables.{too_large, crossing}
use Rattle.planes.specs.Answers as Planes
use Rattle.plane_analysis.specs.Bands.{plane_band}
use Rattle.plane_analysis.specs.Analyses as PlaneAnalyses
use Rattle.worked.specs.Examples.{All, none, ◌&◌, examples}

together : (b : Border) → All (examples b)
unfolding Analyses.answer_of Syntheses.answer_of Levels.answer_of Convolutions.answer_of PlaneAnalyses.answer_of held_of asked_of Planes.held_of Planes.asked_of Planes.bands_of bad_taps too_short line_after details_to too_large beyond left_pad pad_over band analysed dot synthesised joined convolution convolved plane_band crossing tab padded source sum of_int add mul neg
together b =
    refl & refl & refl & refl & refl & refl & refl & refl & refl & refl & refl & refl & refl & refl & refl & refl & refl & refl & refl & refl & refl & refl & refl & refl & none
