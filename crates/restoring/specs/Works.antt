-- What the functions that entries share ask for, and what one join leaves. Definitions only.
use Rattle.std.specs.Prelude.{◌≡◌, cond, List, ℕ, ◌+◌, ◌%◌, ◌≤◌, eqb, take, Float}
use Rattle.std.specs.Float.{Format}
use Rattle.std.specs.Borrow.{MutBor}
use Rattle.numbers.specs.Words.{longest, headed}
use Rattle.bank.specs.Lengths.{GoodTaps, line_length, Analysable}
use Rattle.packed.specs.Lengths.{levels_of, restoring_length}
use Rattle.packed.specs.Works.{Filled}
use Rattle.restoring.specs.Lines.{level_join}

-- where join j finds its approximations: in the packed buffer, then in the buffer that the join before wrote
abbrev pub line_held : List Float → List Float → List Float → ℕ → List Float
line_held deepest first second j = cond (eqb j 0) deepest (cond (eqb (j % 2) 0) second first)

-- what join j leaves of either buffer
abbrev pub turn_first : Format → ℕ → List Float → List Float → List Float → List Float → ℕ → List Float → List Float
turn_first g F low high line detail j x = cond (eqb (j % 2) 0) (headed (level_join g F low high line detail) x) x

abbrev pub turn_second : Format → ℕ → List Float → List Float → List Float → List Float → ℕ → List Float → List Float
turn_second g F low high line detail j x = cond (eqb (j % 2) 0) x (headed (level_join g F low high line detail) x)

-- what join j leaves of either buffer, with `done` done to the joined line
abbrev pub turn_first_by : (List Float → List Float) → Format → ℕ → List Float → List Float → List Float → List Float → ℕ → List Float → List Float
turn_first_by done g F low high line detail j x = cond (eqb (j % 2) 0) (headed (done (level_join g F low high line detail)) x) x

abbrev pub turn_second_by : (List Float → List Float) → Format → ℕ → List Float → List Float → List Float → List Float → ℕ → List Float → List Float
turn_second_by done g F low high line detail j x = cond (eqb (j % 2) 0) x (headed (done (level_join g F low high line detail)) x)

-- a line and m details by f taps, whose joined line is no shorter than they are, and an output with room for it
pub record Joining (f line m out : ℕ) : Type 0 where
  pub taps : GoodTaps f
  pub few : m ≤ longest
  pub trimmed : m ≤ line
  pub grown : f ≤ m + 2
  pub room : line_length m f ≤ out

-- the same for join j between two buffers
pub record Turning (f deepest m j first second : ℕ) : Type 0 where
  pub taps : GoodTaps f
  pub few : m ≤ longest
  pub deep : j ≡ 0 → m ≤ deepest
  pub grown : f ≤ m + 2
  pub room : line_length m f ≤ first
  pub space : line_length m f ≤ second

-- n samples, f taps, one level or more, a packed buffer of p and work buffers of a and b that pass every test
pub record Restoring (n f levels p a b : ℕ) : Type 0 where
  pub packs : Filled n f levels p
  pub room : restoring_length n f ≤ a
  pub space : restoring_length n f ≤ b

-- work buffers of a and b that hold n samples' line
pub record Fronted (n f a b : ℕ) : Type 0 where
  pub ready : Analysable n f
  pub room : restoring_length n f ≤ a
  pub space : restoring_length n f ≤ b

-- the front of the buffer that holds the line: its numbers, and where it lies
pub record Front (n f levels : ℕ) (first second part : MutBor (List Float)) : Type 0 where
  pub numbers : part.now ≡ take (restoring_length n f) (cond (eqb (levels_of levels % 2) 0) second.now first.now)
  pub lies : part.ref_ptr ≡ cond (eqb (levels_of levels % 2) 0) second.ref_ptr first.ref_ptr
