-- A line divided by a whole number, place by place, and which floats are such numbers. Definitions only.
use Rattle.std.specs.Prelude.{Bool, not, ◌&&◌, List, length, Float}
use Rattle.std.specs.Float.{Format}
use Rattle.std.specs.Float.Ieee.{whole, lt, div}
use Rattle.numbers.specs.Words.{plus_zero, at, tab}
use Rattle.dividing.specs.declared.Finish.{Finish}
use Rattle.dividing.specs.declared.Finish.TheVariants.{Kept, DividedBy}

-- not a positive whole float of at most 2^prec, which is 2^53 for binary64: NaN, an infinity, a fraction, either zero or below zero
abbrev pub bad_divisor : Format → Float → Bool
bad_divisor g s = not (whole g s && lt plus_zero s)

-- each place divided by s
abbrev pub divided : Format → Float → List Float → List Float
divided g s l = tab (λ i. div g (at l i) s) (length l)

-- what is done to a joined line before it is trimmed and used
abbrev pub finished : Format → Finish → List Float → List Float
finished g Kept l = l
finished g (DividedBy s) l = divided g s l
