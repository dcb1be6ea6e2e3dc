-- What `bands` reads: a border and three lists of whole numbers, and the one text that stands for them. Definitions only.
use Rattle.std.specs.Prelude.{◌≡◌, cond, List, [], ◌∷◌, ◌++◌, ℕ, zero, suc, ◌+◌, ◌/◌, ◌%◌, ◌≤◌, ltb, length, ℤ, pos, negsuc, nat_abs}
use Rattle.border.specs.declared.Border.{Border}
use Rattle.border.specs.declared.Border.TheVariants.{Clamp, Wrap, Reflect, Zeros, Reflect101, Mirror, Mirror101}

-- bytes by their names
abbrev pub newline : ℕ
newline = 10

abbrev pub space : ℕ
space = 32

abbrev pub minus : ℕ
minus = 45

-- a digit below 10
abbrev pub digit : ℕ → ℕ
digit d = 48 + d

-- the decimal digits of n, of which there are at most k: the first is 0 where n is 0, and nowhere else
unfoldable pub digits_of : ℕ → ℕ → List ℕ
digits_of zero n = []
digits_of (suc k) n = cond (ltb n 10) (digit n ∷ []) (digits_of k (n / 10) ++ (digit (n % 10) ∷ []))

-- no number of 64 bits has more than 20
abbrev pub decimal : ℕ → List ℕ
decimal n = digits_of 20 n

-- a whole number: a minus stands before one below zero, and nothing before another
abbrev pub numeral : ℤ → List ℕ
numeral (pos n) = decimal n
numeral (negsuc n) = minus ∷ decimal (suc n)

-- what follows the first number of a line: the others, each behind one space, and the newline
abbrev pub others_text : List ℤ → List ℕ
others_text [] = newline ∷ []
others_text (z ∷ zs) = space ∷ (numeral z ++ others_text zs)

-- a line: an empty one is an empty list
abbrev pub line_text : List ℤ → List ℕ
line_text [] = newline ∷ []
line_text (z ∷ zs) = numeral z ++ others_text zs

-- the names of the borders, letter by letter
abbrev pub name_of : Border → List ℕ
name_of Clamp = 67 ∷ 108 ∷ 97 ∷ 109 ∷ 112 ∷ []
name_of Wrap = 87 ∷ 114 ∷ 97 ∷ 112 ∷ []
name_of Reflect = 82 ∷ 101 ∷ 102 ∷ 108 ∷ 101 ∷ 99 ∷ 116 ∷ []
name_of Zeros = 90 ∷ 101 ∷ 114 ∷ 111 ∷ 115 ∷ []
name_of Reflect101 = 82 ∷ 101 ∷ 102 ∷ 108 ∷ 101 ∷ 99 ∷ 116 ∷ 49 ∷ 48 ∷ 49 ∷ []
name_of Mirror = 77 ∷ 105 ∷ 114 ∷ 114 ∷ 111 ∷ 114 ∷ []
name_of Mirror101 = 77 ∷ 105 ∷ 114 ∷ 114 ∷ 111 ∷ 114 ∷ 49 ∷ 48 ∷ 49 ∷ []

-- what a text asks for
pub record Request : Type 0 where
  pub border : Border
  pub low : List ℤ
  pub high : List ℤ
  pub samples : List ℤ

-- the three lists, a line each
abbrev pub lists_text : List ℤ → List ℤ → List ℤ → List ℕ
lists_text low high samples = line_text low ++ (line_text high ++ line_text samples)

-- its text: the mode's line, then theirs, and nothing after
abbrev pub text_of : Request → List ℕ
text_of q = name_of q.border ++ (newline ∷ lists_text q.low q.high q.samples)

-- the largest number, and the longest text
abbrev pub greatest : ℕ
greatest = 1000000

abbrev pub longest_text : ℕ
longest_text = 4096

-- numbers from -1,000,000 to 1,000,000
pub data InRange : List ℤ → Type 0 where
  none : InRange []
  also : {z : ℤ} {zs : List ℤ} → nat_abs z ≤ greatest → InRange zs → InRange (z ∷ zs)

-- the text stands for the request: it is the request's, no longer than may be read, and its numbers are in range
pub record Stands (q : Request) (text : List ℕ) : Type 0 where
  pub same : text ≡ text_of q
  pub size : length text ≤ longest_text
  pub lows : InRange q.low
  pub highs : InRange q.high
  pub all : InRange q.samples
