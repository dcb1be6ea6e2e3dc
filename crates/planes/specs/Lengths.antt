-- The lengths of a plane of w by h numbers and f taps. Definitions only.
use Rattle.std.specs.Prelude.{ℕ, ◌+◌, ◌*◌, max}
use Rattle.bank.specs.Lengths.{pairs, padded_length}

-- a band has as many columns as a row has pairs, and as many places in each as a column has
abbrev pub band_length : ℕ → ℕ → ℕ → ℕ
band_length w h f = pairs w f * pairs h f

-- 4 m(width) height, and the longer padded line
abbrev pub plane_scratch : ℕ → ℕ → ℕ → ℕ
plane_scratch w h f = 4 * (pairs w f * h) + max (padded_length w f) (padded_length h f)
