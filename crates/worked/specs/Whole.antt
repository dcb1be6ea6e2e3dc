-- Whole numbers as binary64 floats, and the numbers of P8, for the examples. Definitions only.
use Rattle.std.specs.Prelude.{List, [], ◌∷◌, ℤ, pos, negsuc, Float}
use Rattle.std.specs.Float.{binary64}
use Rattle.whole.specs.Floats as Floats

abbrev pub floats : List ℤ → List Float
floats l = Floats.floats binary64 l

-- P8's low taps, its high taps, and its samples
abbrev pub eight : List ℤ
eight = pos 3 ∷ pos 6 ∷ pos 2 ∷ negsuc 0 ∷ []

abbrev pub eight_high : List ℤ
eight_high = negsuc 0 ∷ negsuc 1 ∷ pos 6 ∷ negsuc 2 ∷ []

abbrev pub tens : List ℤ
tens = pos 10 ∷ pos 20 ∷ pos 30 ∷ pos 40 ∷ []
