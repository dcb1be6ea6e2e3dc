-- Laws of what the two entries promise, one after the other: a line's bands are joined, and where the output was cleared and the premises of either statement hold, the line is restored exactly (`entries_restore`, `entries_restore_pairs`).
use Rattle.std.specs.Prelude.{◌≡◌, List, ℕ, length, ℤ, Result, ⊤, Ok, Float}
use Rattle.std.proofs.Common.{ap, ◌∙◌, subst, sym, arith}
use Rattle.std.specs.Float.{Format}
use Rattle.numbers.specs.Tests.{renewed}
use Rattle.border.specs.declared.Border.{Border}
use Rattle.bank.specs.Lengths.{pairs, line_length}
use Rattle.analysis.specs.declared.AnalysisError.{AnalysisError}
use Rattle.analysis.specs.Analyses as Analyses
use Rattle.analysis.specs.Lines.{band}
use Rattle.analysis.specs.Taps.{length-band}
use Rattle.synthesis.specs.declared.SynthesisError.{SynthesisError}
use Rattle.synthesis.specs.Syntheses as Syntheses
use Rattle.synthesis.specs.Tested.{joinable}
use Rattle.exact.specs.Restoring.{squares, Premises, PairPremises, Cleared, there_and_back, Restored}
use Rattle.exact.proofs.Four.{pairs_exact}
use Rattle.exact.proofs.Exact.{exact}

module _ {w : Format} {low high : List Float} {F : ℕ} {b : Border} {line approx detail scratch : List Float} {there : Result ⊤ AnalysisError} {a d s : List Float}
    (p : Analyses.Analysed w low high F b line approx detail scratch there a d s) (went : there ≡ Ok tt) where
  pub approxed : a ≡ band w low F b line
  approxed = renewed _ _ (ap Analyses.number_of went) p.approxes

  pub detailed : d ≡ band w high F b line
  detailed = renewed _ _ (ap Analyses.number_of went) p.details

  pub approx_length : length a ≡ pairs (length line) F
  approx_length = ap length approxed ∙ length-band w low F b line

  pub detail_length : length d ≡ pairs (length line) F
  detail_length = ap length detailed ∙ length-band w high F b line

  module _ {sl sh out : List Float} {back : Result ⊤ SynthesisError} {o : List Float} (q : Syntheses.Synthesised w sl sh F a d out back o) (came : back ≡ Ok tt) where
    pub rejoined : o ≡ there_and_back w F low high sl sh b line out
    rejoined = renewed _ _ (ap Syntheses.number_of came) q.joined ∙ rw (approxed, detailed)

    ruled : length out ≡ line_length (pairs (length line) F) F
    ruled = let j = joinable F (length a) (length d) (length out) (sym q.answer ∙ came) in omega (arith, j.ruled, approx_length)

    -- by the same pair both ways
    pub entries_restore : Cleared out → sl ≡ low → sh ≡ high → (z v : List ℤ) (A : ℕ) → Premises w F low high line z v A → Restored b (squares z) v o
    entries_restore clear e e' z v A x =
        subst (λ (l : List Float). Restored b (squares z) v l) (sym (rejoined ∙ rw (e, e')))
        (exact w b F low high line out z v A x clear ruled)

    -- by a pair for each way
    pub entries_restore_pairs : Cleared out → (alℤ ahℤ slℤ shℤ v : List ℤ) (S : ℤ) (A : ℕ) → PairPremises w F low high sl sh line alℤ ahℤ slℤ shℤ v S A → Restored b S v o
    entries_restore_pairs clear alℤ ahℤ slℤ shℤ v S A x =
        subst (λ (l : List Float). Restored b S v l) (sym rejoined)
        (pairs_exact w b F low high sl sh line out alℤ ahℤ slℤ shℤ v S A x clear ruled)
