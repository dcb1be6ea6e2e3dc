-- Levels, for C: what each entry promises, told. Definitions only.
-- Taps stand in the caller's own lists, and their count is that of both.
use Rattle.std.specs.Prelude.{◌≡◌, cond, List, [], ◌∷◌, ℕ, ◌%◌, eqb, length, Result, ⊤, Float}
use Rattle.numbers.specs.Words.{when_done}
use Rattle.bank.specs.Banks.{taps_of}
use Rattle.packed.specs.declared.LevelsError.{LevelsError}
use Rattle.packed.specs.Lengths.{levels_of, restoring_length}
use Rattle.packed.specs.Answers.{number_of, values_of}
use Rattle.level_sizes.specs.Sizes.{size_number, size_values, PackedSized, ScratchSized, RestoringSized, MostSized, part_number, part_values, PartSized}
use Rattle.level_parts.specs.Parts.{reading_number, reading_values, Read}
use Rattle.levels.specs.Analyses.{Analysed}
use Rattle.restoring.specs.Restorings.{Restored}
use Rattle.restoring.specs.Dividings as Dividings
use Rattle.restoring.specs.Dividings.{DividedBack}
use Rattle.telling.specs.Told.{ToldOf}
use Rattle.telling.specs.Borders.{ToldUnder}
use Rattle.level_telling.specs.Readings.{value_from}

abbrev pub PackedLengthTold : ℕ → ℕ → ℕ → List ℕ → ℕ → List ℕ → Type 0
PackedLengthTold n f levels words r words' = ToldOf size_number size_values (PackedSized n f levels) words r words'

abbrev pub LevelsScratchTold : ℕ → ℕ → ℕ → List ℕ → ℕ → List ℕ → Type 0
LevelsScratchTold n f levels words r words' = ToldOf size_number size_values (ScratchSized n f levels) words r words'

abbrev pub RestoringLengthTold : ℕ → ℕ → ℕ → List ℕ → ℕ → List ℕ → Type 0
RestoringLengthTold n f levels words r words' = ToldOf size_number size_values (RestoringSized n f levels) words r words'

abbrev pub MostLevelsTold : ℕ → ℕ → List ℕ → ℕ → List ℕ → Type 0
MostLevelsTold n f words r words' = ToldOf size_number size_values (MostSized n f) words r words'

abbrev pub LevelPartTold : ℕ → ℕ → ℕ → ℕ → List ℕ → ℕ → List ℕ → Type 0
LevelPartTold n f levels level words r words' = ToldOf part_number part_values (PartSized n f levels level) words r words'

-- a float that was read stands in the lent value
abbrev pub PlaceTold : ℕ → ℕ → ℕ → ℕ → ℕ → List Float → List Float → List ℕ → ℕ → List Float → List ℕ → Type 0
PlaceTold n f levels level place packed value words r value' words' =
    ToldOf reading_number reading_values (λ a. Read n f levels level place packed a × (value' ≡ value_from a value)) words r words'

abbrev pub LevelsTold : ℕ → List Float → List Float → List Float → ℕ → List Float → List Float → List ℕ → ℕ → List Float → List Float → List ℕ → Type 0
LevelsTold border low high line levels packed scratch words r packed' scratch' words' =
    ToldUnder border number_of values_of (λ b a. Analysed low high (taps_of (length low) (length high)) b line levels packed scratch a packed' scratch')
    ((packed' ≡ packed) × (scratch' ≡ scratch)) words r words'

-- the buffer that a restored line comes to stand in: the first of two for an odd number of levels, else the second
abbrev pub holder : ℕ → ℕ
holder levels = cond (eqb (levels_of levels % 2) 0) 2 1

-- which and how long the line is are carried where restoring is done
abbrev pub values_back : ℕ → ℕ → ℕ → Result ⊤ LevelsError → List ℕ
values_back n f levels a = when_done (number_of a) (holder levels ∷ restoring_length n f ∷ []) (values_of a)

abbrev pub RestoringTold : List Float → List Float → List Float → ℕ → ℕ → List Float → List Float → List ℕ → ℕ → List Float → List Float → List ℕ → Type 0
RestoringTold low high packed n levels first second words r first' second' words' =
    let f = taps_of (length low) (length high) in
    ToldOf number_of (values_back n f levels) (λ a. Restored low high f packed n levels first second a first' second') words r words'

-- ---- the same, each joined line divided by s
-- what is carried, of any answer with its number and values
abbrev pub back_from : {A : Type 0} → (A → ℕ) → (A → List ℕ) → ℕ → ℕ → ℕ → A → List ℕ
back_from number values n f levels a = when_done (number a) (holder levels ∷ restoring_length n f ∷ []) (values a)

abbrev pub DividingTold : List Float → List Float → Float → List Float → ℕ → ℕ → List Float → List Float → List ℕ → ℕ → List Float → List Float → List ℕ → Type 0
DividingTold low high s packed n levels first second words r first' second' words' =
    let f = taps_of (length low) (length high) in
    ToldOf Dividings.number_of (back_from Dividings.number_of Dividings.values_of n f levels) (λ a. DividedBack low high f s packed n levels first second a first' second') words r words'
