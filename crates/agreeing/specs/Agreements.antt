-- What `agree` prints for what it reads: where the bands of two engines part, or the number of the first test that fails. Definitions only.
use Rattle.std.specs.Prelude.{◌≡◌, List, [], ◌∷◌, ℕ, length, Result, Float}
use Rattle.std.specs.Float.{binary64}
use Rattle.bank.specs.declared.Bank.{Bank}
use Rattle.analysis.specs.Lines.{band}
use Rattle.texts.specs.Texts.{newline, Request}
use Rattle.texts.specs.Prints.{head_text, approx_word, detail_word}
use Rattle.parting.specs.declared.Parting.{Parting}
use Rattle.parting.specs.declared.Parting.TheVariants.{Same, Approx, Detail}
use Rattle.parting.specs.Partings.{parting_of}
use Rattle.printing.specs.declared.PrintError.{PrintError}
use Rattle.answering.specs.Answers.{refusal_of, said_of, TextSaid}

-- the word same, and the end of the line
abbrev pub same_text : List ℕ
same_text = 115 ∷ 97 ∷ 109 ∷ 101 ∷ newline ∷ []

-- nowhere, or the band and the place in it, from 0
abbrev pub parting_text : Parting → List ℕ
parting_text Same = same_text
parting_text (Approx k) = head_text approx_word k
parting_text (Detail k) = head_text detail_word k

-- where two bands part from themselves: both engines promise the same two, so either engine's may stand in either place
abbrev pub parting_from : List Float → List Float → Parting
parting_from a d = parting_of a d a d

abbrev pub agreed_text : List Float → List Float → List ℕ
agreed_text a d = parting_text (parting_from a d)

-- a request's text
abbrev pub agreed_of : Request → List ℕ
agreed_of q = said_of agreed_text q

-- no test refuses the lists of a request
abbrev pub Unrefused : Request → Type 0
Unrefused q = refusal_of (length q.low) (length q.high) (length q.samples) ≡ 0

-- what the entry promises
abbrev pub TextAgreed : List ℕ → List ℕ → Result ℕ PrintError → List ℕ → Type 0
TextAgreed text out r out' = TextSaid agreed_text text out r out'

-- bytes that hold every answer
abbrev pub room : ℕ
room = 64

-- where the bands of a line by a bank part
abbrev pub bank_parting : Bank Float → List Float → Parting
bank_parting bank line = parting_from (band binary64 bank.low bank.taps bank.border line) (band binary64 bank.high bank.taps bank.border line)
