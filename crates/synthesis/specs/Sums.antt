-- The sum of synthesis in a format f: each product is rounded, then each sum. Definitions only.
-- Taps, lines and bands are functions from a place to a float; a list is read so by `at`.
use Rattle.std.specs.Prelude.{ℕ, zero, suc, ◌+◌, ◌-◌, ◌*◌, Bool, cond, ◌&&◌, leb, ltb, Float}
use Rattle.std.specs.Float.{Format}
use Rattle.gathering.specs.Pairs.{onto}

-- pair i reaches padded place P by its tap P - 2 i, if that lies in 0 .. F - 1
abbrev pub meets : ℕ → ℕ → ℕ → Bool
meets F P i = leb (2 * i) P && ltb P (2 * i + F)

-- what padded place P holds after n pairs, rising, onto what it held
unfoldable pub joined : Format → ℕ → (ℕ → Float) → (ℕ → Float) → (ℕ → Float) → (ℕ → Float) → ℕ → Float → ℕ → Float
joined f F low high a d P held zero = held
joined f F low high a d P held (suc i) =
    let z = joined f F low high a d P held i in
    cond (meets F P i) (onto f low high (P - 2 * i) (a i) (d i) z) z
