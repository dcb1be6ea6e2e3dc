-- Laws of both engines' bands: in buffers as long as the bands both analyses are done, so the lists that are compared are the definition's bands, twice; and what is laid and printed of a parting by another name.
use Rattle.std.specs.Prelude.{◌≡◌, false, List, ℕ, ◌≤◌, length, take, Result, ⊤, Float}
use Rattle.std.proofs.Common.{sym, ap, ◌∙◌, subst, length-take-le}
use Rattle.std.specs.Float.{binary64}
use Rattle.numbers.specs.Tests.{renewed}
use Rattle.bank.specs.declared.Bank.{Bank}
use Rattle.analysis.specs.declared.AnalysisError.{AnalysisError}
use Rattle.analysis.specs.Analyses as Analyses
use Rattle.analysis.specs.Lines.{band}
use Rattle.analysis.specs.Works.{Analysing}
use Rattle.direct_analysis.specs.Analyses as Direct
use Rattle.direct_analysis.specs.Tested.{analysed_done}
use Rattle.parting.specs.declared.Parting.{Parting}
use Rattle.parting.specs.Partings.{parting_of, Parted}
use Rattle.laying.specs.Lays.{Lays}
use Rattle.printing.specs.declared.PrintError.{PrintError}
use Rattle.printing.specs.Printings.{Printed}
use Rattle.answering.specs.Banding.{analysed_bands}
use Rattle.agreeing.specs.Agreements.{parting_text, bank_parting}

-- ---- one parting by two names
pub laid_as : {k k' : Parting} {out out' : List ℕ} {n : ℕ} → k ≡ k' → Lays (parting_text k') out n out' → Lays (parting_text k) out n out'
laid_as {out = out} {out'} {n} e p = subst (λ (x : Parting). Lays (parting_text x) out n out') (sym e) p

pub printed_as : {k k' : Parting} {out out' : List ℕ} {r : Result ℕ PrintError} → k ≡ k' → Printed false (parting_text k) out r out' → Printed false (parting_text k') out r out'
printed_as {out = out} {out'} {r} e p = subst (λ (x : Parting). Printed false (parting_text x) out r out') e p

-- fronts of m places are as long as each other
pub fronts_alike : {m : ℕ} (x y : List Float) → m ≤ length x → m ≤ length y → length (take m y) ≡ length (take m x)
fronts_alike {m} x y h k = length-take-le m y k ∙ sym (length-take-le m x h)

-- ---- the bands that both engines give
-- lists by other names
parting_same : {a a' d d' x x' y y' : List Float} → a ≡ a' → d ≡ d' → x ≡ x' → y ≡ y' → parting_of a d x y ≡ parting_of a' d' x' y'
parting_same {a} {a'} {d} {d'} {x} {x'} {y} {y'} e f g h =
    ap (λ (k : List Float). parting_of k d x y) e ∙ ap (λ (k : List Float). parting_of a' k x y) f ∙ ap (λ (k : List Float). parting_of a' d' k y) g ∙ ap (λ (k : List Float). parting_of a' d' x' k) h

module _ (bank : Bank Float) (line p q scratch p2 q2 : List Float) (ready : Analysing bank.taps (length line) (length p) (length q) (length scratch)) (e : length p2 ≡ length p) (f : length q2 ≡ length q) where
  abbrev low : List Float
  low = band binary64 bank.low bank.taps bank.border line

  abbrev high : List Float
  high = band binary64 bank.high bank.taps bank.border line

  direct_bands : {r : Result ⊤ AnalysisError} {a d : List Float} → Direct.Analysed binary64 bank.low bank.high bank.taps bank.border line p2 q2 r a d → (a ≡ low) × (d ≡ high)
  direct_bands v =
      let z = ap Analyses.number_of (v.answer ∙ analysed_done _ _ _ _ ready.ready (e ∙ ready.approxed) (f ∙ ready.detailed)) in
      (renewed low p2 z v.approxes, renewed high q2 z v.details)

  pub compared : {r r2 : Result ⊤ AnalysisError} {a d s a2 d2 : List Float} {k : Parting} → Analyses.Analysed binary64 bank.low bank.high bank.taps bank.border line p q scratch r a d s
      → Direct.Analysed binary64 bank.low bank.high bank.taps bank.border line p2 q2 r2 a2 d2
      → Parted a d a2 d2 k → k ≡ bank_parting bank line
  compared u v k =
      let x = analysed_bands bank line p q scratch ready u in
      let y = direct_bands v in
      k.answer ∙ parting_same x.0 x.1 y.0 y.1
