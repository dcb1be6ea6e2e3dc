-- The line that two bands give, on lists. Definitions only.
-- The taps are the first F of their list, since a bank keeps them in an array of 64.
use Rattle.std.specs.Prelude.{List, ℕ, ◌+◌, ◌-◌, length, Float}
use Rattle.std.specs.Float.{Format}
use Rattle.numbers.specs.Words.{at, tab, cleared}
use Rattle.synthesis.specs.Sums.{joined}

-- what synthesis makes of an output: place p of it is padded place p + F - 2
unfoldable pub synthesised : Format → ℕ → List Float → List Float → List Float → List Float → List Float → List Float
unfolding joined
synthesised f F low high a d out =
    tab (λ p. joined f F (at low) (at high) (at a) (at d) (p + (F - 2)) (at out p) (length a)) (length out)

-- two bands joined into n places from +0, as every join of levels and of planes starts
abbrev pub join_of : Format → ℕ → List Float → List Float → ℕ → List Float → List Float → List Float
join_of f F low high n a d = synthesised f F low high a d (cleared n)
