-- What the code does to a line and to three, and what its functions promise. Complete and Sound tie it to the texts. Definitions only.
use Rattle.std.specs.Prelude.{◌≡◌, Bool, true, false, cond, ◌&&◌, ◌||◌, List, [], ◌∷◌, ◌++◌, ℕ, ◌+◌, ◌≤◌, eqb, length, drop, set, Result, Float}
use Rattle.std.specs.Result.{is_ok, MatchResult}
use Rattle.texts.specs.Laying.{laid}
use Rattle.texts.specs.Texts.{newline, space}
use Rattle.phases.specs.declared.Phase.{Phase}
use Rattle.phases.specs.declared.Phase.TheVariants.{Fresh, Next, Minus, Number, Closed, Broken}
use Rattle.phases.specs.Phases.{stepped, closed_at, value_of}
use Rattle.parsing.specs.declared.line.Line.{Line}
use Rattle.parsing.specs.declared.lists.Lists.{Lists}

-- the number that a byte ends, if it ends one
abbrev pub separates : ℕ → Bool
separates c = eqb c space || eqb c newline

abbrev pub number_by : Bool → ℕ → ℕ → List Float
number_by negative size c = cond (separates c) (value_of negative size ∷ []) []

abbrev pub ended_by : Phase → ℕ → List Float
ended_by Fresh c = []
ended_by Next c = []
ended_by Minus c = []
ended_by (Number negative size) c = number_by negative size c
ended_by Closed c = []
ended_by Broken c = []

-- a buffer with that number at its place
abbrev pub kept_on : List Float → List Float → ℕ → List Float
kept_on [] out count = out
kept_on (x ∷ l) out count = set out count x

-- what came of a line: whether it was closed, its numbers, and the text behind it
pub record Got : Type 0 where
  pub closed : Bool
  pub numbers : List Float
  pub rest : List ℕ

abbrev pub got : Bool → List Float → List ℕ → Got
got c z t = record { closed = c; numbers = z; rest = t }

-- the text from a phase on, after the numbers z
unfoldable pub line_from : List Float → Phase → List ℕ → Got
line_from z p [] = got (closed_at p) z []
line_from z p (c ∷ t) = cond (closed_at p) (got true z (c ∷ t)) (line_from (z ++ ended_by p c) (stepped p c) t)

abbrev pub got_of : List ℕ → Got
got_of t = line_from [] Fresh t

-- where a line that came to g ends, and how many numbers it has
pub record LineEnds (text : List ℕ) (from : ℕ) (g : Got) (l : Line) : Type 0 where
  pub counted : l.count ≡ length g.numbers
  pub left : drop l.next text ≡ g.rest
  pub inside : l.next ≤ length text
  pub fewer : from + l.count ≤ l.next

-- a line is done where it was closed; where it ends and its numbers are said either way
pub record LineRead (text : List ℕ) (from : ℕ) (out : List Float) (r : Result Line Line) (out' : List Float) : Type 0 where
  pub whole : is_ok r ≡ (got_of (drop from text)).closed
  pub ends : MatchResult r (LineEnds text from (got_of (drop from text))) (LineEnds text from (got_of (drop from text)))
  pub put : out' ≡ laid (got_of (drop from text)).numbers out

-- three lines one behind another
pub record Three : Type 0 where
  pub readable : Bool
  pub low : List Float
  pub high : List Float
  pub samples : List Float

abbrev pub emptied : List ℕ → Bool
emptied [] = true
emptied (c ∷ t) = false

abbrev pub three : Bool → List Float → List Float → List Float → Three
three whole l h s = record { readable = whole; low = l; high = h; samples = s }

abbrev pub three_of : List ℕ → Three
three_of t =
    let low = got_of t in
    let high = got_of low.rest in
    let samples = got_of high.rest in
    three (low.closed && high.closed && samples.closed && emptied samples.rest) low.numbers high.numbers samples.numbers

-- all their numbers
abbrev pub all_of : Three → List Float
all_of lists = lists.low ++ (lists.high ++ lists.samples)

abbrev pub counts : ℕ → ℕ → ℕ → Lists
counts l h s = record { low = l; high = h; samples = s }

-- how many numbers each has
pub record Counts (text : List ℕ) (lists : Three) (r : Lists) : Type 0 where
  pub lows : r.low ≡ length lists.low
  pub highs : r.high ≡ length lists.high
  pub all : r.samples ≡ length lists.samples
  pub few : r.low + r.high + r.samples ≤ length text

-- they are done where they are three lines and nothing after; how many there are and their numbers are said either way
pub record ListsRead (text : List ℕ) (from : ℕ) (out : List Float) (r : Result Lists Lists) (out' : List Float) : Type 0 where
  pub whole : is_ok r ≡ (three_of (drop from text)).readable
  pub counted : MatchResult r (Counts text (three_of (drop from text))) (Counts text (three_of (drop from text)))
  pub put : out' ≡ laid (all_of (three_of (drop from text))) out
