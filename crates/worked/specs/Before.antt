-- What each entry that takes a bank gave when a bank held one pair of taps: its promise by that pair, which admits one outcome. Definitions only.
use Rattle.std.specs.Prelude.{List, ℕ, length, Result, ⊤, Float}
use Rattle.std.specs.Borrow.{MutBor}
use Rattle.std.specs.Float.{binary64}
use Rattle.numbers.specs.Words.{at, when_done}
use Rattle.border.specs.declared.Border.{Border}
use Rattle.bank.specs.declared.Bank.{Bank}
use Rattle.bank.specs.Banks.{array_of, zeros}
use Rattle.analysis.specs.declared.AnalysisError.{AnalysisError}
use Rattle.analysis.specs.Analyses as Analyses
use Rattle.synthesis.specs.declared.SynthesisError.{SynthesisError}
use Rattle.synthesis.specs.Syntheses as Syntheses
use Rattle.packed.specs.declared.LevelsError.{LevelsError}
use Rattle.levels.specs.Analyses as LevelAnalyses
use Rattle.restoring.specs.Restorings as Restorings
use Rattle.planes.specs.declared.PlanesError.{PlanesError}
use Rattle.plane_analysis.specs.Analyses as PlaneAnalyses
use Rattle.plane_synthesis.specs.Syntheses as PlaneSyntheses
use Rattle.exact.specs.declared.BackError.{BackError}
use Rattle.exact.specs.Backs as Backs

-- what an entry promises of this bank it promises of the one pair l and h, f taps of each, under b
pub record GivesAsBefore (bank : Bank Float) (l h : List Float) (f : ℕ) (b : Border) : Type 0 where
  pub analyse : {line approx detail scratch : List Float} {r : Result ⊤ AnalysisError} {approx' detail' scratch' : List Float}
      → Analyses.Analysed binary64 bank.low bank.high bank.taps bank.border line approx detail scratch r approx' detail' scratch'
      → Analyses.Analysed binary64 l h f b line approx detail scratch r approx' detail' scratch'
  pub synthesise : {approx detail out : List Float} {r : Result ⊤ SynthesisError} {out' : List Float}
      → Syntheses.Synthesised binary64 bank.lowback bank.highback bank.taps approx detail out r out'
      → Syntheses.Synthesised binary64 l h f approx detail out r out'
  pub analyse_levels : {line : List Float} {levels : ℕ} {packed scratch : List Float} {r : Result ⊤ LevelsError} {packed' scratch' : List Float}
      → LevelAnalyses.Analysed bank.low bank.high bank.taps bank.border line levels packed scratch r packed' scratch'
      → LevelAnalyses.Analysed l h f b line levels packed scratch r packed' scratch'
  pub restore_levels : {packed : List Float} {n levels : ℕ} {first second : List Float} {r : Result ⊤ LevelsError} {first' second' : List Float}
      → Restorings.Restored bank.lowback bank.highback bank.taps packed n levels first second r first' second'
      → Restorings.Restored l h f packed n levels first second r first' second'
  pub restored_line : {packed : List Float} {n levels : ℕ} {first second part : MutBor (List Float)}
      → Restorings.HandedOut bank.lowback bank.highback bank.taps packed n levels first second part
      → Restorings.HandedOut l h f packed n levels first second part
  pub analyse_plane : {plane : List Float} {width height : ℕ} {ll lh hl hh scratch : List Float} {r : Result ⊤ PlanesError} {ll' lh' hl' hh' scratch' : List Float}
      → PlaneAnalyses.Analysed bank.low bank.high bank.taps bank.border plane width height ll lh hl hh scratch r ll' lh' hl' hh' scratch'
      → PlaneAnalyses.Analysed l h f b plane width height ll lh hl hh scratch r ll' lh' hl' hh' scratch'
  pub synthesise_plane : {ll lh hl hh : List Float} {width height : ℕ} {plane scratch : List Float} {r : Result ⊤ PlanesError} {plane' scratch' : List Float}
      → PlaneSyntheses.Synthesised bank.lowback bank.highback bank.taps ll lh hl hh width height plane scratch r plane' scratch'
      → PlaneSyntheses.Synthesised l h f ll lh hl hh width height plane scratch r plane' scratch'
  pub there_and_back : {line approx detail scratch out : List Float} {r : Result ⊤ BackError} {approx' detail' scratch' out' : List Float}
      → Backs.Returned binary64 bank.low bank.high bank.lowback bank.highback bank.taps bank.border line approx detail scratch out r approx' detail' scratch' out'
      → Backs.Returned binary64 l h l h f b line approx detail scratch out r approx' detail' scratch' out'

-- that pair of a bank made of low taps and of high ones, told by their places; k is the answer's number, and beside a refusal there was no tap
abbrev pub AsBefore : Bank Float → ℕ → List Float → (ℕ → Float) → Border → Type 0
AsBefore bank k low high b =
    GivesAsBefore bank (when_done k (array_of (length low) (at low)) zeros) (when_done k (array_of (length low) high) zeros) (when_done k (length low) 0) b
