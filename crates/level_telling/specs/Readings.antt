-- How a reading is told to C: its number and words, and the float in a lent place. Definitions only.
use Rattle.std.specs.Prelude.{◌≡◌, List, ℕ, set, Float}
use Rattle.level_parts.specs.declared.Reading.{Reading}
use Rattle.level_parts.specs.declared.Reading.TheVariants.{Value, NoSuchLevel, NoSuchPlace, Refused}
use Rattle.level_parts.specs.Parts.{reading_number, reading_values}
use Rattle.telling.specs.Told.{Told}

-- the lent value: the float that was read stands in it; on a refusal it is as it was
abbrev pub value_from : Reading → List Float → List Float
value_from (Value x) value = set value 0 x
value_from (NoSuchLevel level) value = value
value_from (NoSuchPlace place) value = value
value_from (Refused e) value = value

-- a reading, told
pub record ReadingTold (a : Reading) (value : List Float) (words : List ℕ) (r : ℕ) (value' : List Float) (words' : List ℕ) : Type 0 where
  pub told : Told (reading_number a) (reading_values a) words r words'
  pub valued : value' ≡ value_from a value
