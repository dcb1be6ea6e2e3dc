-- Making a bank: the answers with their numbers, and the bank beside each. Definitions only.
use Rattle.std.specs.Prelude.{◌≡◌, cond, not, ◌||◌, List, [], ℕ, ◌-◌, ◌%◌, eqb, length, replicate, Float}
use Rattle.std.specs.Float.Ieee.{neg}
use Rattle.numbers.specs.Words.{plus_zero, at, tab, written, when_done}
use Rattle.border.specs.declared.Border.{Border}
use Rattle.bank.specs.declared.Bank.{Bank}
use Rattle.bank.specs.declared.making.Making.{Making}
use Rattle.bank.specs.declared.making.Making.TheVariants.{Done, Taps}
use Rattle.bank.specs.Lengths.{bad_taps}

-- the number of an answer, and the values that it carries (RULES, Numbers)
abbrev pub number_of : Making → ℕ
number_of Done = 0
number_of Taps = 12

abbrev pub values_of : Making → List ℕ
values_of Done = []
values_of Taps = []

-- 12 where the lists are odd, empty, over 64 or unequal
abbrev pub answer_of : ℕ → ℕ → Making
answer_of low high = cond (bad_taps low || not (eqb high low)) Taps Done

-- the same of four lists, of which any may be the wrong one
abbrev pub answer_of_four : ℕ → ℕ → ℕ → ℕ → Making
answer_of_four low high sl sh = cond (bad_taps low || not (eqb high low) || not (eqb sl low) || not (eqb sh low)) Taps Done

-- how many taps lists of these lengths have in each; none where they make no bank, so that the tests refuse them by 12
abbrev pub taps_of : ℕ → ℕ → ℕ
taps_of low high = when_done (number_of (answer_of low high)) low 0

-- an array of taps before any is in it
abbrev pub zeros : List Float
zeros = replicate 64 plus_zero

-- signs alternate over j: plus at even j, minus at odd, of numbers of any kind with their negation
abbrev pub alternate : {A : Type 0} → (A → A) → ℕ → A → A
alternate negated j x = cond (eqb (j % 2) 0) x (negated x)

-- the mirror rule: high tap j is low tap f - 1 - j with the sign of j
abbrev pub mirror_of : {A : Type 0} → (A → A) → (ℕ → A) → ℕ → ℕ → A
mirror_of negated low f j = alternate negated j (low (f - 1 - j))

-- both of floats
abbrev pub signed : ℕ → Float → Float
signed j x = alternate neg j x

abbrev pub mirror : List Float → ℕ → Float
mirror low j = mirror_of neg (at low) (length low) j

-- a bank by its fields: the pair of the way there, that of the way back, how many taps, the border
abbrev pub held_in : List Float → List Float → List Float → List Float → ℕ → Border → Bank Float
held_in l h sl sh f b = record { low = l; high = h; lowback = sl; highback = sh; taps = f; border = b }

-- the first f taps in an array; zeros fill the rest
abbrev pub array_of : ℕ → (ℕ → Float) → List Float
array_of f tap = written tap f zeros

-- the bank of four lists, told by their places
abbrev pub bank_of_four : ℕ → (ℕ → Float) → (ℕ → Float) → (ℕ → Float) → (ℕ → Float) → Border → Bank Float
bank_of_four f l h sl sh b = held_in (array_of f l) (array_of f h) (array_of f sl) (array_of f sh) f b

-- the bank of two lists, the high one told by its places: the same pair twice
abbrev pub bank_of : List Float → (ℕ → Float) → Border → Bank Float
bank_of l h b = bank_of_four (length l) (at l) h (at l) h b

-- the bank beside a refusal: no taps
abbrev pub no_bank : Border → Bank Float
no_bank b = held_in zeros zeros zeros zeros 0 b

pub record BankMade (low high : List Float) (b : Border) (r : Making) (bank : Bank Float) : Type 0 where
  pub answer : r ≡ answer_of (length low) (length high)
  pub made : bank ≡ when_done (number_of r) (bank_of low (at high) b) (no_bank b)

pub record MirrorMade (low : List Float) (b : Border) (r : Making) (bank : Bank Float) : Type 0 where
  pub answer : r ≡ answer_of (length low) (length low)
  pub made : bank ≡ when_done (number_of r) (bank_of low (mirror low) b) (no_bank b)

pub record PairsMade (low high sl sh : List Float) (b : Border) (r : Making) (bank : Bank Float) : Type 0 where
  pub answer : r ≡ answer_of_four (length low) (length high) (length sl) (length sh)
  pub made : bank ≡ when_done (number_of r) (bank_of_four (length low) (at low) (at high) (at sl) (at sh) b) (no_bank b)

-- the high taps by themselves, into a list that has to be as long as the low one
pub record Mirrored (low high : List Float) (r : Making) (high' : List Float) : Type 0 where
  pub answer : r ≡ answer_of (length low) (length high)
  pub mirrored : high' ≡ when_done (number_of r) (tab (mirror low) (length low)) high
