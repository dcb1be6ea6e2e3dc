-- Restoring several levels, each joined line divided by s: the answers with their numbers, and what both buffers and the part handed out then hold. Definitions only.
use Rattle.std.specs.Prelude.{◌≡◌, cond, List, [], ℕ, ◌%◌, eqb, length, Result, Ok, Err, ⊤, Float}
use Rattle.std.specs.Float.{Format, binary64}
use Rattle.std.specs.Borrow.{MutBor}
use Rattle.numbers.specs.Words.{when_done}
use Rattle.bank.specs.Lengths.{bad_taps}
use Rattle.packed.specs.declared.LevelsError.TheVariants as levels_error
use Rattle.packed.specs.Lengths.{levels_of}
use Rattle.packed.specs.Answers as Answers
use Rattle.dividing.specs.Divisions.{bad_divisor, divided}
use Rattle.restoring.specs.declared.divided.DividedError.{DividedError}
use Rattle.restoring.specs.declared.divided.DividedError.TheVariants.{Divisor, Refused}
use Rattle.restoring.specs.Lines.{joined_by, first_by, second_by}
use Rattle.restoring.specs.Restorings as Restorings

-- the number of an answer, and the values that it carries (RULES, Numbers)
abbrev pub number_of : Result ⊤ DividedError → ℕ
number_of (Ok done) = 0
number_of (Err Divisor) = 25
number_of (Err (Refused e)) = Answers.number_of (Err e)

abbrev pub values_of : Result ⊤ DividedError → List ℕ
values_of (Ok done) = []
values_of (Err Divisor) = []
values_of (Err (Refused e)) = Answers.values_of (Err e)

-- the first test that fails: 12, 25 for s, then those of restoring that are left
unfoldable pub answer_of : ℕ → ℕ → Float → ℕ → ℕ → ℕ → ℕ → Result ⊤ DividedError
answer_of n f s levels p a b =
    cond (bad_taps f) (Err (Refused levels_error.Taps))
    (cond (bad_divisor binary64 s) (Err Divisor)
    (Answers.when_ok (Restorings.answer_of n f levels p a b) (Ok tt) (λ e. Err (Refused e))))

-- the whole line, each joined line divided by s
abbrev pub restored_divided : Format → Float → ℕ → List Float → List Float → List Float → ℕ → ℕ → List Float
restored_divided g s F low high packed n levels = joined_by (divided g s) g F low high packed n levels levels

-- by the first f of either tap list: of a bank its arrays and count
pub record DividedBack (low high : List Float) (f : ℕ) (s : Float) (packed : List Float) (n levels : ℕ) (first second : List Float) (r : Result ⊤ DividedError) (first' second' : List Float) : Type 0 where
  pub answer : r ≡ answer_of n f s levels (length packed) (length first) (length second)
  pub firsts : first' ≡ when_done (number_of r) (first_by (divided binary64 s) binary64 f low high packed n (levels_of levels) (levels_of levels) first) first
  pub seconds : second' ≡ when_done (number_of r) (second_by (divided binary64 s) binary64 f low high packed n (levels_of levels) (levels_of levels) second) second

-- the line, and the empty part on a refusal: its numbers, and that it lies at the front of the buffer that holds the line, of the first on a refusal
pub record DividedOut (low high : List Float) (f : ℕ) (s : Float) (packed : List Float) (n levels : ℕ) (first second part : MutBor (List Float)) : Type 0 where
  pub handed : part.now ≡ when_done (number_of (answer_of n f s levels (length packed) (length first.now) (length second.now)))
      (restored_divided binary64 s f low high packed n (levels_of levels)) []
  pub lies : part.ref_ptr ≡ when_done (number_of (answer_of n f s levels (length packed) (length first.now) (length second.now)))
      (cond (eqb (levels_of levels % 2) 0) second.ref_ptr first.ref_ptr) first.ref_ptr
