-- Floats that are whole numbers, one by one and in lists. Definitions only.
use Rattle.std.specs.Prelude.{◌≡◌, Bool, true, false, List, map, ℕ, ◌*◌, ◌≤◌, ◌<◌, length, get_or, ℤ, pos, neg_ℤ, nat_abs, Float}
use Rattle.std.specs.Float.{nan, inf, fin, Format}
use Rattle.std.specs.Float.Ieee.{up, down, of_int}
use Rattle.numbers.specs.Words.{at}

-- n, or -n where the sign is true
abbrev pub signed : Bool → ℕ → ℤ
signed false n = pos n
signed true n = neg_ℤ (pos n)

-- x is finite and is the whole number z: its size m 2^e is that of z, and its sign is that of z, or either where z is 0
abbrev pub Whole : Float → ℤ → Type 0
Whole nan z = ⊥
Whole (inf s) z = ⊥
Whole (fin s m e) z = (z ≡ signed s (nat_abs z)) × (m * up e ≡ nat_abs z * down e)

-- x is z, and no larger in size than n
abbrev pub Within : Float → ℤ → ℕ → Type 0
Within x z n = Whole x z × (nat_abs z ≤ n)

-- the whole number at a place of a list, 0 past its end
abbrev pub at_ℤ : List ℤ → ℕ → ℤ
at_ℤ z i = get_or z i (pos 0)

-- the first floats of l are the whole numbers z; l may go on
pub record Holds (l : List Float) (z : List ℤ) : Type 0 where
  pub whole : (i : ℕ) → i < length z → Whole (at l i) (at_ℤ z i)

-- whole numbers as floats
abbrev pub floats : Format → List ℤ → List Float
floats f z = map (of_int f) z
