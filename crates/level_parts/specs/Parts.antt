-- Parts of the packed buffer: the answers with their numbers, and what each entry promises. Definitions only.
use Rattle.std.specs.Prelude.{◌≡◌, cond, List, [], ◌∷◌, ℕ, ◌+◌, ◌*◌, ltb, leb, length, Result, Ok, Err, ⊤, Float}
use Rattle.std.specs.Borrow.{Bor}
use Rattle.numbers.specs.Words.{at, when_done}
use Rattle.packed.specs.declared.PartError.{PartError}
use Rattle.packed.specs.declared.PartError.TheVariants.{NoSuchLevel, Refused}
use Rattle.packed.specs.Lengths.{levels_of, level_start, level_count}
use Rattle.packed.specs.Answers.{number_of, values_of, when_ok, held_of, part_at}
use Rattle.level_parts.specs.declared.Reading.{Reading}
use Rattle.level_parts.specs.declared.Reading.TheVariants as reading

-- the number of an answer, and the values that it carries (RULES, Numbers)
abbrev pub handing_number : Result ⊤ PartError → ℕ
handing_number (Ok done) = 0
handing_number (Err (NoSuchLevel level)) = 22
handing_number (Err (Refused e)) = number_of (Err e)

abbrev pub handing_values : Result ⊤ PartError → List ℕ
handing_values (Ok done) = []
handing_values (Err (NoSuchLevel level)) = level ∷ []
handing_values (Err (Refused e)) = values_of (Err e)

abbrev pub reading_number : Reading → ℕ
reading_number (reading.Value x) = 0
reading_number (reading.NoSuchLevel level) = 22
reading_number (reading.NoSuchPlace place) = 23
reading_number (reading.Refused e) = number_of (Err e)

-- the float of a value is a float and no number of this list
abbrev pub reading_values : Reading → List ℕ
reading_values (reading.Value x) = []
reading_values (reading.NoSuchLevel level) = level ∷ []
reading_values (reading.NoSuchPlace place) = place ∷ []
reading_values (reading.Refused e) = values_of (Err e)

-- handing out a level of a packed buffer of p: as levels up to 10, then 22
unfoldable pub handing_of : ℕ → ℕ → ℕ → ℕ → ℕ → Result ⊤ PartError
handing_of n f levels p level = when_ok (held_of n f levels p) (cond (ltb (levels_of levels) level) (Err (NoSuchLevel level)) (Ok tt)) (λ e. Err (Refused e))

-- where number k lies of a buffer that begins at an address, a block and how many bytes into it: a float has eight
abbrev pub address_of : ℕ × ℕ → ℕ → ℕ × ℕ
address_of first k = (first.0, k * 8 + first.1)

-- that level's part, and the empty one on a refusal: its numbers, and that it lies where they do in the packed buffer itself
pub record HandedOut (n f levels level : ℕ) (packed part : Bor (List Float)) : Type 0 where
  pub handed : part.now ≡ when_done (handing_number (handing_of n f levels (length packed.now) level)) (part_at n f levels packed.now level) []
  pub lies : part.ref_ptr ≡ address_of packed.ref_ptr (when_done (handing_number (handing_of n f levels (length packed.now) level)) (level_start n f levels level) 0)

-- reading a place of a level: as levels up to 10, then 22, then 23
abbrev pub reading_of : ℕ → ℕ → ℕ → ℕ → ℕ → List Float → Reading
reading_of n f levels level place packed =
    when_ok (held_of n f levels (length packed))
    (cond (ltb (levels_of levels) level) (reading.NoSuchLevel level)
    (cond (leb (level_count n f levels level) place) (reading.NoSuchPlace place)
    (reading.Value (at packed (level_start n f levels level + place)))))
    reading.Refused

pub record Read (n f levels level place : ℕ) (packed : List Float) (r : Reading) : Type 0 where
  pub answer : r ≡ reading_of n f levels level place packed
