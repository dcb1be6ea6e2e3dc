-- What a program prints for what it reads: what it says of the bands of a request, or the number of the first test that fails; `bands` says the bands themselves. Definitions only.
use Rattle.std.specs.Prelude.{◌≡◌, false, List, ℕ, ◌*◌, ◌/◌, ◌≤◌, length, Result, Ok, Err, Float}
use Rattle.std.specs.Float.{binary64}
use Rattle.numbers.specs.Words.{when_done}
use Rattle.whole.specs.Floats.{floats}
use Rattle.border.specs.declared.Border.{Border}
use Rattle.bank.specs.declared.Bank.{Bank}
use Rattle.bank.specs.Lengths.{pairs, padded_length, Analysable}
use Rattle.bank.specs.Banks as Banks
use Rattle.bank.specs.Sizes as Sizes
use Rattle.analysis.specs.Lines.{band}
use Rattle.texts.specs.Texts.{longest_text, Request, Stands}
use Rattle.texts.specs.Prints.{bands_text, refusal_text}
use Rattle.parsing.specs.declared.ParseError.TheVariants as parsed
use Rattle.parsing.specs.Parses as Parses
use Rattle.printing.specs.declared.PrintError.{PrintError}
use Rattle.printing.specs.Printings.{Printed}

-- the number of the first test that fails, of the lengths of two tap lists and of a line: the lists make no bank, or the line has no bands; 0 where none does
abbrev pub refusal_of : ℕ → ℕ → ℕ → ℕ
refusal_of low high n =
    let making = Banks.number_of (Banks.answer_of low high) in
    when_done making (Sizes.number_of (Sizes.of_samples n low (pairs n low))) making

-- ---- of a program that prints `say` of two bands
module _ (say : List Float → List Float → List ℕ) where
  -- what is said of a line's bands by the first f of two tap lists
  abbrev pub both_text : List Float → List Float → ℕ → Border → List Float → List ℕ
  both_text low high f b line = say (band binary64 low f b line) (band binary64 high f b line)

  -- the text of two tap lists and a line: the number that refuses them, else what is said of the bands
  abbrev pub said_text : Border → List Float → List Float → List Float → List ℕ
  said_text b low high line =
      let number = refusal_of (length low) (length high) (length line) in
      when_done number (both_text low high (length low) b line) (refusal_text number)

  -- a request's text
  abbrev pub said_of : Request → List ℕ
  said_of q = said_text q.border (floats binary64 q.low) (floats binary64 q.high) (floats binary64 q.samples)

  -- a text that stands for a request is answered by the request's, and any other by the number of one that is unreadable, 14
  pub record TextSaid (text out : List ℕ) (r : Result ℕ PrintError) (out' : List ℕ) : Type 0 where
    pub request : (q : Request) → Stands q text → Printed false (said_of q) out r out'
    pub unreadable : ((q : Request) → Stands q text → ⊥) → Printed false (refusal_text (Parses.number_of (Err parsed.Unreadable))) out r out'

  -- what is said of a line's bands by a bank
  abbrev pub bank_text : Bank Float → List Float → List ℕ
  bank_text bank line = both_text bank.low bank.high bank.taps bank.border line

-- ---- `bands`, which prints both bands
abbrev pub answer_text : Border → List Float → List Float → List Float → List ℕ
answer_text b low high line = said_text bands_text b low high line

abbrev pub output_of : Request → List ℕ
output_of q = said_of bands_text q

abbrev pub TextAnswered : List ℕ → List ℕ → Result ℕ PrintError → List ℕ → Type 0
TextAnswered text out r out' = TextSaid bands_text text out r out'

-- ---- room
-- the most numbers of a text: each has a byte at least, and one behind it
abbrev pub most_numbers : ℕ
most_numbers = longest_text / 2

-- the most pairs of so many samples, which are those with 64 taps, and their padded length
abbrev pub most_pairs : ℕ
most_pairs = pairs most_numbers 64

abbrev pub most_padded : ℕ
most_padded = padded_length most_numbers 64

-- the most bytes of an answer: two samples have four bytes or more, their pair two lines of 17; nine for each byte that is read leave room for the rest
abbrev pub roomiest : ℕ
roomiest = 9 * longest_text

-- the bytes of a text that was printed
abbrev pub size_in : Result ℕ PrintError → ℕ
size_in (Ok size) = size
size_in (Err e) = 0

-- room for the bands of any text, whatever the taps
pub record Roomy (approx detail scratch : ℕ) : Type 0 where
  pub approxed : most_pairs ≤ approx
  pub detailed : most_pairs ≤ detail
  pub padded : most_padded ≤ scratch

-- n samples of a text, which f taps can analyse into bands of m
pub record Banded (n f m : ℕ) : Type 0 where
  pub ready : Analysable n f
  pub size : m ≡ pairs n f
  pub short : n ≤ most_numbers
