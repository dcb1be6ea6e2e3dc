-- What asking promises of a text: a refusal and its number, or a bank and where its line stands among the numbers that were read. Definitions only.
use Rattle.std.specs.Prelude.{◌≡◌, List, ℕ, ◌+◌, ◌-◌, ◌≤◌, length, take, drop, Result, Ok, Err, IfOk, Float}
use Rattle.std.specs.Float.{binary64}
use Rattle.numbers.specs.Words.{at}
use Rattle.whole.specs.Floats.{floats}
use Rattle.border.specs.declared.Border.{Border}
use Rattle.bank.specs.Banks.{bank_of}
use Rattle.bank.specs.Lengths.{pairs}
use Rattle.texts.specs.Texts.{Request, Stands}
use Rattle.bank.specs.declared.sizes.SizeError.{SizeError}
use Rattle.bank.specs.declared.sizes.SizeError.TheVariants as size
use Rattle.parsing.specs.declared.ParseError.{ParseError}
use Rattle.parsing.specs.declared.ParseError.TheVariants as parsed
use Rattle.parsing.specs.Parses as Parses
use Rattle.answering.specs.declared.asking.Refusal.{Refusal}
use Rattle.answering.specs.declared.asking.Refusal.TheVariants.{Unreadable, Taps, MinFilterSize, ZeroedBaseSize, Limit, InputSize}
use Rattle.answering.specs.declared.asking.Asked.{Asked}
use Rattle.answering.specs.Answers.{refusal_of}

-- the number of a refusal, and of an answer (RULES, Numbers)
abbrev pub refusal_number : Refusal → ℕ
refusal_number Unreadable = 14
refusal_number Taps = 12
refusal_number MinFilterSize = 1
refusal_number ZeroedBaseSize = 7
refusal_number Limit = 11
refusal_number InputSize = 10

abbrev pub number_of : Result Asked Refusal → ℕ
number_of (Ok asked) = 0
number_of (Err refusal) = refusal_number refusal

-- by parsing, and by the length of a band
abbrev pub unparsed : ParseError → Refusal
unparsed (parsed.InputSize need have) = InputSize
unparsed parsed.Unreadable = Unreadable

abbrev pub size_refusal : SizeError → Refusal
size_refusal (size.MinFilterSize n f) = MinFilterSize
size_refusal size.ZeroedBaseSize = ZeroedBaseSize
size_refusal size.Limit = Limit
size_refusal size.Taps = Taps

-- of two tap lists and n samples: the number of the first test that fails, and where none does the lists' bank and the length of a band
pub record ListsAsked (b : Border) (low high : List Float) (n : ℕ) (r : Result Asked Refusal) : Type 0 where
  pub refusal : number_of r ≡ refusal_of (length low) (length high) n
  pub made : IfOk r (λ a. a.bank ≡ bank_of low (at high) b)
  pub size : IfOk r (λ a. a.m ≡ pairs n (length low))

-- the numbers from one place to another
abbrev pub line_in : ℕ → ℕ → List Float → List Float
line_in from end numbers = take (end - from) (drop from numbers)

-- where a line stands
pub record Placed (from end : ℕ) (numbers line : List Float) : Type 0 where
  pub starts : from ≤ end
  pub ends : end ≤ length numbers
  pub same : line_in from end numbers ≡ line

-- of a text, where `numbers` is what was read of it: the samples of a request stand behind its tap lists, refused or not
pub record TextAsked (text : List ℕ) (numbers : List Float) (r : Result Asked Refusal) : Type 0 where
  pub request : (q : Request) → Stands q text → ListsAsked q.border (floats binary64 q.low) (floats binary64 q.high) (length (floats binary64 q.samples)) r
  pub placed : (q : Request) → Stands q text → IfOk r (λ a. Placed a.from a.end numbers (floats binary64 q.samples))
  pub held : (q : Request) → Stands q text → Placed (length q.low + length q.high) (length q.low + length q.high + length q.samples) numbers (floats binary64 q.samples)
  pub unreadable : ((q : Request) → Stands q text → ⊥) → number_of r ≡ Parses.number_of (Err parsed.Unreadable)
