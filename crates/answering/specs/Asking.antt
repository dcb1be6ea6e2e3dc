-- Laws of asking: each way through the tests asks for what the definition says; and a program that prints the refusal, or what it says of the bank's two bands, has answered the text.
use Rattle.std.specs.Prelude.{◌≡◌, refl, false, ◌⊎◌, List, ℕ, zero, suc, ◌<◌, ◌≤◌, length, Result, Ok, Err, Float}
use Rattle.std.proofs.Common.{sym, ap, ◌∙◌, subst, inl, inr, arith}
use Rattle.std.specs.Float.{nan, binary64}
use Rattle.numbers.specs.Words.{at, written, when_done}
use Rattle.numbers.specs.Places.{get_or-written_in}
use Rattle.numbers.specs.Tests.{renewed, kept}
use Rattle.whole.specs.Floats.{floats}
use Rattle.border.specs.declared.Border.{Border}
use Rattle.bank.specs.declared.Bank.{Bank}
use Rattle.bank.specs.declared.making.Making.{Making}
use Rattle.bank.specs.declared.making.Making.TheVariants as making
use Rattle.bank.specs.declared.sizes.SizeError.{SizeError}
use Rattle.bank.specs.declared.sizes.SizeError.TheVariants as size
use Rattle.bank.specs.Lengths.{pairs, Analysable}
use Rattle.bank.specs.Banks as Banks
use Rattle.bank.specs.Sizes as Sizes
use Rattle.bank.specs.Tested.{sized}
use Rattle.analysis.specs.Lines.{band}
use Rattle.analysis.specs.Taps.{band_same}
use Rattle.texts.specs.Texts.{Request, Stands}
use Rattle.texts.specs.Prints.{refusal_text}
use Rattle.parsing.specs.Decides as Decides
use Rattle.parsing.specs.Unique.{decide}
use Rattle.printing.specs.declared.PrintError.{PrintError}
use Rattle.printing.specs.Printings.{Printed}
use Rattle.std.proofs.lemmas.Result.{IfOk-at_ok}
use Rattle.answering.specs.declared.asking.Asked.{Asked}
use Rattle.answering.specs.declared.asking.Refusal.{Refusal}
use Rattle.answering.specs.declared.asking.Refusal.TheVariants.{Unreadable, Taps, MinFilterSize, ZeroedBaseSize, Limit, InputSize}
use Rattle.answering.specs.Answers.{refusal_of, both_text, said_of, bank_text, Banded, TextSaid}
use Rattle.answering.specs.Asks.{refusal_number, number_of, size_refusal, line_in, ListsAsked, Placed, TextAsked}
use Rattle.answering.specs.Answering.{few_samples}

-- ---- refusals by their numbers
size_number : (e : SizeError) → refusal_number (size_refusal e) ≡ Sizes.number_of (Err e)
size_number (size.MinFilterSize n f) = refl
size_number size.ZeroedBaseSize = refl
size_number size.Limit = refl
size_number size.Taps = refl

some_number : (k : Refusal) → 0 < refusal_number k
some_number Unreadable = omega arith
some_number Taps = omega arith
some_number MinFilterSize = omega arith
some_number ZeroedBaseSize = omega arith
some_number Limit = omega arith
some_number InputSize = omega arith

-- ---- ways through the tests of two lists, which may have made a bank, and n samples
module _ {b : Border} {low high : List Float} (n : ℕ) {made : Making} {bank : Bank Float} (w : Banks.BankMade low high b made bank) where
  abbrev sizing : Result ℕ SizeError
  sizing = Sizes.of_samples n (length low) (pairs n (length low))

  -- by another name of the lists' answer
  first : {k : Making} → made ≡ k → when_done (Banks.number_of k) (Sizes.number_of sizing) (Banks.number_of k) ≡ refusal_of (length low) (length high) n
  first e = ap (λ (k : Making). when_done (Banks.number_of k) (Sizes.number_of sizing) (Banks.number_of k)) (sym e ∙ w.answer)

  refused_by : {e : Refusal} → refusal_number e ≡ refusal_of (length low) (length high) n → ListsAsked b low high n (Err e)
  refused_by e = record { refusal = e; made = tt; size = tt }

  pub unmade : made ≡ making.Taps → ListsAsked b low high n (Err Taps)
  unmade e = refused_by (first e)

  -- where the bank was made the line decides
  module _ (e : made ≡ making.Done) {r : Result ℕ SizeError} (f : r ≡ sizing) where
    pub unsized : {k : SizeError} → r ≡ Err k → ListsAsked b low high n (Err (size_refusal k))
    unsized {k} g = refused_by (size_number k ∙ ap Sizes.number_of (sym g ∙ f) ∙ first e)

    pub both_asked : {m : ℕ} {a : Asked} → r ≡ Ok m → a.bank ≡ bank → a.m ≡ m → ListsAsked b low high n (Ok a)
    both_asked {m} g held s = record {
      refusal = ap Sizes.number_of (sym g ∙ f) ∙ first e;
      made = held ∙ renewed _ _ (ap Banks.number_of e) w.made;
      size = s ∙ (sized n (length low) (pairs n (length low)) _ (sym f ∙ g)).given;
    }

-- ---- what is not refused
-- a line and taps that no test refuses can be analysed
pub unrefused : (low high n : ℕ) → refusal_of low high n ≡ 0 → Analysable n low
unrefused low high n e = go (Sizes.of_samples n low (pairs n low)) refl (later (Banks.number_of (Banks.answer_of low high)) e)
  where
    later : (k : ℕ) {s : ℕ} → when_done k s k ≡ 0 → s ≡ 0
    later zero h = h
    later (suc k) h = absurd (omega (arith, h))

    go : (r : Result ℕ SizeError) → Sizes.of_samples n low (pairs n low) ≡ r → Sizes.number_of r ≡ 0 → Analysable n low
    go (Ok m) g h = (sized n low (pairs n low) m g).ready
    go (Err (size.MinFilterSize k f)) g h = absurd (omega (arith, h))
    go (Err size.ZeroedBaseSize) g h = absurd (omega (arith, h))
    go (Err size.Limit) g h = absurd (omega (arith, h))
    go (Err size.Taps) g h = absurd (omega (arith, h))

-- a bank's arrays read as the lists that made it do
bank_said : (say : List Float → List Float → List ℕ) (b : Border) (low high line : List Float) {bank : Bank Float} → bank ≡ Banks.bank_of low (at high) b
    → bank_text say bank line ≡ both_text say low high (length low) b line
bank_said say b low high line real =
    ap (λ (k : Bank Float). bank_text say k line) real
    ∙ ap (λ (x : List Float). say x (band binary64 (written (at high) (length low) Banks.zeros) (length low) b line)) (band_same binary64 (written (at low) (length low) Banks.zeros) low (length low) b line (held low))
    ∙ ap (say (band binary64 low (length low) b line)) (band_same binary64 (written (at high) (length low) Banks.zeros) high (length low) b line (held high))
  where
    held : (l : List Float) (j : ℕ) → j < length low → at (written (at l) (length low) Banks.zeros) j ≡ at l j
    held l j h = get_or-written_in (at l) (length low) Banks.zeros j nan h

-- ---- what was asked of a text, answered
module _ {text : List ℕ} {numbers : List Float} {asked : Result Asked Refusal} (w : TextAsked text numbers asked) where
  -- a request's text by the number that was asked
  by_number : (say : List Float → List Float → List ℕ) (q : Request) → Stands q text
      → when_done (number_of asked) (both_text say (floats binary64 q.low) (floats binary64 q.high) (length (floats binary64 q.low)) q.border (floats binary64 q.samples)) (refusal_text (number_of asked)) ≡ said_of say q
  by_number say q k = ap (λ (n : ℕ). when_done n (both_text say (floats binary64 q.low) (floats binary64 q.high) (length (floats binary64 q.low)) q.border (floats binary64 q.samples)) (refusal_text n)) (w.request q k).refusal

  pub refused : {say : List Float → List Float → List ℕ} {out : List ℕ} {k : Refusal} {m : ℕ} {r : Result ℕ PrintError} {out' : List ℕ} → asked ≡ Err k → m ≡ refusal_number k → Printed false (refusal_text m) out r out' → TextSaid say text out r out'
  refused {say} {out} {k} {m} {r} {out'} e f p =
      let n : m ≡ number_of asked = f ∙ sym (ap number_of e) in
      let v : Printed false (refusal_text (number_of asked)) out r out' = subst (λ (n : ℕ). Printed false (refusal_text n) out r out') n p in
      record {
        request = λ q s. subst (λ (t : List ℕ). Printed false t out r out') (kept (number_of asked) (omega (arith, n, f, some_number k)) _ (refusal_text (number_of asked)) ∙ by_number say q s) v;
        unreadable = λ f. subst (λ (n : ℕ). Printed false (refusal_text n) out r out') (w.unreadable f) v;
      }

  -- where there are bands to make
  module _ {a : Asked} (e : asked ≡ Ok a) where
    z : number_of asked ≡ 0
    z = ap number_of e

    -- the text stands for some request
    some : Decides.Asked text
    some = go (decide text)
      where
        go : Decides.Asked text ⊎ ((q : Request) → Stands q text → ⊥) → Decides.Asked text
        go (inl q) = q
        go (inr f) = absurd (omega (arith, z, w.unreadable f))

    -- what was asked for a request
    placed : (q : Request) → Stands q text → Placed a.from a.end numbers (floats binary64 q.samples)
    placed q k = IfOk-at_ok (λ (a : Asked). Placed a.from a.end numbers (floats binary64 q.samples)) e (w.placed q k)

    made : (q : Request) → Stands q text → a.bank ≡ Banks.bank_of (floats binary64 q.low) (at (floats binary64 q.high)) q.border
    made q k = IfOk-at_ok (λ (a : Asked). a.bank ≡ Banks.bank_of (floats binary64 q.low) (at (floats binary64 q.high)) q.border) e (w.request q k).made

    pub inside : (a.from ≤ a.end) × (a.end ≤ length numbers)
    inside = let p = placed some.request some.stands in (p.starts, p.ends)

    pub banded : Banded (length (line_in a.from a.end numbers)) a.bank.taps a.m
    banded =
        let q = some.request in
        let l = w.request q some.stands in
        let n : ℕ = length (floats binary64 q.samples) in
        let f : ℕ = length (floats binary64 q.low) in
        subst (λ (x : ℕ). Banded x a.bank.taps a.m) (sym (ap length (placed q some.stands).same))
        (subst (λ (x : ℕ). Banded n x a.m) (sym (ap (λ (k : Bank Float). k.taps) (made q some.stands)))
        (record {
          ready = unrefused f (length (floats binary64 q.high)) n (sym l.refusal ∙ z);
          size = IfOk-at_ok (λ (a : Asked). a.m ≡ pairs n f) e l.size;
          short = few_samples q text some.stands;
        }))

    pub said : {say : List Float → List Float → List ℕ} {out : List ℕ} {r : Result ℕ PrintError} {out' : List ℕ} → Printed false (bank_text say a.bank (line_in a.from a.end numbers)) out r out' → TextSaid say text out r out'
    said {say} {out} {r} {out'} p = record {
      request = λ q k. subst (λ (t : List ℕ). Printed false t out r out') (same q k) p;
      unreadable = λ f. absurd (f some.request some.stands);
    }
      where
        same : (q : Request) → Stands q text → bank_text say a.bank (line_in a.from a.end numbers) ≡ said_of say q
        same q k =
            ap (bank_text say a.bank) (placed q k).same
            ∙ bank_said say q.border (floats binary64 q.low) (floats binary64 q.high) (floats binary64 q.samples) (made q k)
            ∙ ap (λ (n : ℕ). when_done n (both_text say (floats binary64 q.low) (floats binary64 q.high) (length (floats binary64 q.low)) q.border (floats binary64 q.samples)) (refusal_text (number_of asked))) (sym z)
            ∙ by_number say q k
