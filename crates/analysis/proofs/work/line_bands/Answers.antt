-- `analysis::work::line_bands` meets its contract: the padded line comes to stand in the scratch, and its bands are the bands of the line.
use Prim.Native.Nat.{ℕ}
use Rattle.analysis.specs.Lines.{band, padded_into}
use Rattle.analysis.specs.Taps.{of_samples_lem}
use Rattle.analysis.specs.Works.{band_of}
use Rattle.bank.specs.Lengths.{pairs}
use Rattle.border.specs.declared.Border.{Border}
use Rattle.numbers.specs.Words.{tab}
use lib.Ieee.{Float, Format}
use lib.ListN.{length}
use mathlib.Core.List.{List}
use mathlib.Core.Path.{◌∙◌, ◌≡◌, ap, sym}
use Rattle.analysis.proofs.work.line_bands.Goals as goal

-- a law over plain variables, for either band
banded : (w : Format) (b : Border) (taps s scratch l : List Float) (F m : ℕ) {r : List Float} → m ≡ pairs (length s) F → l ≡ padded_into F b s scratch
    → r ≡ tab (band_of w taps F l) m → r ≡ band w taps F b s
banded w b taps s scratch l F m e p h = h ∙ ap (tab (band_of w taps F l)) e ∙ of_samples_lem w b taps s l scratch F p

pub returns : goal.returns
returns g c = let a = c.args in
    let d = c.requires.1 in
    let r = g.R.Real in
    let long = g.met.R.Real.floats_length a.line.now in
    let approxed = d.approxed ∙ ap (λ (n : ℕ). pairs n a.f) (sym long) in (
      banded r.format a.border (r.floats a.low.now) (r.floats a.line.now) (r.floats a.scratch.now) _ a.f (length a.approx.now) approxed c.pad_line.ensures c.bands.ensures.0,
      banded r.format a.border (r.floats a.high.now) (r.floats a.line.now) (r.floats a.scratch.now) _ a.f (length a.approx.now) approxed c.pad_line.ensures c.bands.ensures.1,
      c.pad_line.ensures,
    )
