-- Laws of a bank and a line: the buffers have room for its bands, so analysis is done and the parts that took them are printed.
use Rattle.std.specs.Prelude.{◌≡◌, Bool, false, List, ◌++◌, ℕ, ◌≤◌, length, take, drop, Result, ⊤, Float}
use Rattle.std.proofs.Common.{sym, ap, ◌∙◌, subst, arith, length-append, take_at, length-take-le}
use Rattle.std.specs.Float.{binary64}
use Rattle.numbers.specs.Tests.{renewed}
use Rattle.bank.specs.declared.Bank.{Bank}
use Rattle.bank.specs.Lengths.{padded_length}
use Rattle.analysis.specs.declared.AnalysisError.{AnalysisError}
use Rattle.analysis.specs.Analyses as Analyses
use Rattle.analysis.specs.Lines.{band}
use Rattle.analysis.specs.Taps.{length-band}
use Rattle.analysis.specs.Works.{Analysing}
use Rattle.analysis.specs.Tested.{analysed_done}
use Rattle.texts.specs.Prints.{bands_text}
use Rattle.printing.specs.declared.PrintError.{PrintError}
use Rattle.printing.specs.Printings.{too_long, Printed}
use Rattle.printing.specs.Tested.{none_long}
use Rattle.answering.specs.Answers.{most_pairs, most_padded, bank_text, Roomy, Banded}

-- ---- room
-- a text's bands are short, and so is its padded line
pub few_pairs : {n f m : ℕ} → Banded n f m → (m ≤ most_pairs) × (padded_length n f ≤ most_padded)
few_pairs {n} {f} {m} b =
    let size = b.size in
    let short = b.short in
    let most = b.ready.taps.most in
    let two = b.ready.taps.two in
    (omega arith, omega arith)

pub parts : {n f m a d s : ℕ} → Banded n f m → Roomy a d s → (m ≤ a) × (m ≤ d)
parts b r =
    let few = (few_pairs b).0 in
    let first = r.approxed in
    let second = r.detailed in
    (omega arith, omega arith)

-- a front that came back is as long as it was lent
pub front_again : (m : ℕ) (x a : List Float) → m ≤ length x → length a ≡ length (take m x) → m ≡ length (take m (a ++ drop m x))
front_again m x a h e =
    let k = length-take-le m x h in
    sym (length-take-le m (a ++ drop m x) (omega (arith, length-append a (drop m x))))

-- fronts of m places are as long as the bands
pub lent_fronts : {n f m s : ℕ} (x y : List Float) → Banded n f m → Roomy (length x) (length y) s → Analysing f n (length (take m x)) (length (take m y)) s
lent_fronts {m = m} x y b r = record {
  ready = b.ready;
  approxed = length-take-le m x (parts b r).0 ∙ b.size;
  detailed = length-take-le m y (parts b r).1 ∙ b.size;
  room = omega (arith, (few_pairs b).1, r.padded);
}

-- ---- both bands, in parts that are as long
module _ (bank : Bank Float) (line p q scratch : List Float) (ready : Analysing bank.taps (length line) (length p) (length q) (length scratch)) where
  abbrev low : List Float
  low = band binary64 bank.low bank.taps bank.border line

  abbrev high : List Float
  high = band binary64 bank.high bank.taps bank.border line

  -- each takes its band
  pub analysed_bands : {r : Result ⊤ AnalysisError} {a d s : List Float} → Analyses.Analysed binary64 bank.low bank.high bank.taps bank.border line p q scratch r a d s → (a ≡ low) × (d ≡ high)
  analysed_bands w =
      let z = ap Analyses.number_of (w.answer ∙ analysed_done bank.taps (length line) (length p) (length q) (length scratch) ready) in
      (renewed low p z w.approxes, renewed high q z w.details)

  -- and both are printed from where they lie
  pub bands_printed : {m : ℕ} {r : Result ⊤ AnalysisError} {a d s : List Float} {text text' : List ℕ} {print : Result ℕ PrintError} (x y : List Float) → Banded (length line) bank.taps m
      → Analyses.Analysed binary64 bank.low bank.high bank.taps bank.border line p q scratch r a d s
      → Printed (too_long (take m (a ++ x)) (take m (d ++ y))) (bands_text (take m (a ++ x)) (take m (d ++ y))) text print text'
      → Printed false (bank_text bands_text bank line) text print text'
  bands_printed {m} {a = a} {d} {text = text} {text'} {print} x y b w v =
      let first = (analysed_bands w).0 in
      let second = (analysed_bands w).1 in
      let many : length a ≡ m = ap length first ∙ length-band binary64 bank.low bank.taps bank.border line ∙ sym b.size in
      let also : length d ≡ m = ap length second ∙ length-band binary64 bank.high bank.taps bank.border line ∙ sym b.size in
      let small = (few_pairs b).0 in
      let l : take m (a ++ x) ≡ low = take_at a x m many ∙ first in
      let h : take m (d ++ y) ≡ high = take_at d y m also ∙ second in
      let short : too_long low high ≡ false = none_long low high (omega (arith, many, ap length first)) (omega (arith, also, ap length second)) in
      let one = subst (λ (k : List Float). Printed (too_long k (take m (d ++ y))) (bands_text k (take m (d ++ y))) text print text') l v in
      let two = subst (λ (k : List Float). Printed (too_long low k) (bands_text low k) text print text') h one in
      subst (λ (t : Bool). Printed t (bands_text low high) text print text') short two
