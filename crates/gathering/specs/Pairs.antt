-- What one pair adds in a format f: each product is rounded, then each sum. Definitions only.
use Rattle.std.specs.Prelude.{ℕ, Float}
use Rattle.std.specs.Float.{Format}
use Rattle.std.specs.Float.Ieee.{add, mul}

-- adds tap j of one pair onto z: first high tap times detail, then low tap times approximation
abbrev pub onto : Format → (ℕ → Float) → (ℕ → Float) → ℕ → Float → Float → Float → Float
onto f low high j a d z = add f (add f z (mul f (high j) d)) (mul f (low j) a)
