-- Lengths over levels: the answers with their numbers, and what each entry promises. Definitions only.
use Rattle.std.specs.Prelude.{◌≡◌, cond, List, [], ◌∷◌, ℕ, ltb, Result, Ok, Err}
use Rattle.packed.specs.declared.LevelsError.{LevelsError}
use Rattle.packed.specs.declared.PartError.{PartError}
use Rattle.packed.specs.declared.PartError.TheVariants.{NoSuchLevel, Refused}
use Rattle.packed.specs.declared.depth.Part.{Part}
use Rattle.packed.specs.Lengths.{levels_of, packed_length, level_start, level_count, levels_scratch, restoring_length, most_levels}
use Rattle.packed.specs.Answers.{number_of, values_of, when_ok, asked_of}

-- the number of an answer, and the values that it carries (RULES, Numbers)
abbrev pub size_number : Result ℕ LevelsError → ℕ
size_number (Ok l) = 0
size_number (Err e) = number_of (Err e)

abbrev pub size_values : Result ℕ LevelsError → List ℕ
size_values (Ok l) = l ∷ []
size_values (Err e) = values_of (Err e)

abbrev pub part_number : Result Part PartError → ℕ
part_number (Ok part) = 0
part_number (Err (NoSuchLevel level)) = 22
part_number (Err (Refused e)) = number_of (Err e)

abbrev pub part_values : Result Part PartError → List ℕ
part_values (Ok part) = part.start ∷ part.count ∷ []
part_values (Err (NoSuchLevel level)) = level ∷ []
part_values (Err (Refused e)) = values_of (Err e)

-- a length that so many levels have, after 12, 11 and 1 or 9
abbrev pub size_of : ℕ → ℕ → ℕ → ℕ → Result ℕ LevelsError
size_of n f levels l = when_ok (asked_of n f levels) (Ok l) Err

pub record PackedSized (n f levels : ℕ) (r : Result ℕ LevelsError) : Type 0 where
  pub answer : r ≡ size_of n f levels (packed_length n f levels)

pub record ScratchSized (n f levels : ℕ) (r : Result ℕ LevelsError) : Type 0 where
  pub answer : r ≡ size_of n f levels (levels_scratch n f)

pub record RestoringSized (n f levels : ℕ) (r : Result ℕ LevelsError) : Type 0 where
  pub answer : r ≡ size_of n f levels (restoring_length n f)

pub record MostSized (n f : ℕ) (r : Result ℕ LevelsError) : Type 0 where
  pub answer : r ≡ size_of n f 1 (most_levels n f)

-- a part, after 12, 11, 1 or 9, and 22
abbrev pub part_of : ℕ → ℕ → ℕ → ℕ → Result Part PartError
part_of n f levels level =
    when_ok (asked_of n f levels)
    (cond (ltb (levels_of levels) level) (Err (NoSuchLevel level)) (Ok (record { start = level_start n f levels level; count = level_count n f levels level })))
    (λ e. Err (Refused e))

pub record PartSized (n f levels level : ℕ) (r : Result Part PartError) : Type 0 where
  pub answer : r ≡ part_of n f levels level
