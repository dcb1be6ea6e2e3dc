-- A band in a format f, place by place. Definitions only.
-- Taps, lines and bands are functions from a place to a float; a list is read so by `at`.
use Rattle.std.specs.Prelude.{ℕ, ◌+◌, ◌*◌, Float}
use Rattle.std.specs.Float.{Format}
use Rattle.summing.specs.Sums.{dot}

-- place i of the band of F taps: tap j times padded sample 2 i + j
unfoldable pub analysed : Format → ℕ → (ℕ → Float) → (ℕ → Float) → ℕ → Float
unfolding dot
analysed f F tap x i = dot f tap (λ j. x (2 * i + j)) F
