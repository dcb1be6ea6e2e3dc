-- Laws of telling a reading: what is told of it holds by any name of it.
use Rattle.std.specs.Prelude.{◌≡◌, List, ℕ, Float}
use Rattle.level_parts.specs.declared.Reading.{Reading}
use Rattle.level_telling.specs.Readings.{ReadingTold}

pub reading_as : {a b : Reading} {value value' : List Float} {words words' : List ℕ} {r : ℕ}
    → a ≡ b → ReadingTold b value words r value' words' → ReadingTold a value words r value' words'
reading_as e t = rw e t
