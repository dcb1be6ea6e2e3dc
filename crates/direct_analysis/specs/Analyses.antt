-- Analysis by the second engine: the first engine's answers without 5, its bands, and what both lent buffers then hold. Definitions only.
use Rattle.std.specs.Prelude.{◌≡◌, List, ℕ, length, Result, ⊤, Float}
use Rattle.std.specs.Float.{Format}
use Rattle.numbers.specs.Words.{when_done}
use Rattle.border.specs.declared.Border.{Border}
use Rattle.bank.specs.Lengths.{padded_length}
use Rattle.analysis.specs.declared.AnalysisError.{AnalysisError}
use Rattle.analysis.specs.Analyses as First
use Rattle.analysis.specs.Analyses.{number_of}
use Rattle.analysis.specs.Lines.{band}

-- the first test that fails, of f taps, a line of n and bands of a and d: the first engine's, where the scratch is as long as it would need
abbrev pub answer_of : ℕ → ℕ → ℕ → ℕ → Result ⊤ AnalysisError
answer_of f n a d = First.answer_of f n a d (padded_length n f)

-- in a format, by the first f of either tap list, under a border
pub record Analysed (w : Format) (low high : List Float) (f : ℕ) (b : Border) (line approx detail : List Float) (r : Result ⊤ AnalysisError) (approx' detail' : List Float) : Type 0 where
  pub answer : r ≡ answer_of f (length line) (length approx) (length detail)
  pub approxes : approx' ≡ when_done (number_of r) (band w low f b line) approx
  pub details : detail' ≡ when_done (number_of r) (band w high f b line) detail
