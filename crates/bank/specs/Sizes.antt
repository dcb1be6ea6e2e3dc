-- The sizes that a user asks for: the answers with their numbers. Definitions only.
use Rattle.std.specs.Prelude.{◌≡◌, cond, List, [], ◌∷◌, ℕ, ◌+◌, ◌*◌, ltb, leb, Result, Ok, Err}
use Rattle.numbers.specs.Words.{longest}
use Rattle.bank.specs.declared.sizes.SizeError.{SizeError}
use Rattle.bank.specs.declared.sizes.SizeError.TheVariants.{MinFilterSize, ZeroedBaseSize, Limit, Taps}
use Rattle.bank.specs.Lengths.{bad_taps, pairs, padded_length, line_length}

-- the number of an answer, and the values that it carries (RULES, Numbers)
abbrev pub number_of : Result ℕ SizeError → ℕ
number_of (Ok l) = 0
number_of (Err (MinFilterSize n f)) = 1
number_of (Err ZeroedBaseSize) = 7
number_of (Err Limit) = 11
number_of (Err Taps) = 12

abbrev pub values_of : Result ℕ SizeError → List ℕ
values_of (Ok l) = l ∷ []
values_of (Err (MinFilterSize n f)) = n ∷ f ∷ []
values_of (Err ZeroedBaseSize) = []
values_of (Err Limit) = []
values_of (Err Taps) = []

-- a length that n samples and f taps have, after 12, 11 and 1
abbrev pub of_samples : ℕ → ℕ → ℕ → Result ℕ SizeError
of_samples n f l =
    cond (bad_taps f) (Err Taps)
    (cond (ltb longest n) (Err Limit)
    (cond (ltb n f) (Err (MinFilterSize n f))
    (Ok l)))

-- a length that m pairs and f taps have, after 12, 11 and 7
abbrev pub of_pairs : ℕ → ℕ → ℕ → Result ℕ SizeError
of_pairs m f l =
    cond (bad_taps f) (Err Taps)
    (cond (ltb longest m) (Err Limit)
    (cond (leb (2 * m + 2) f) (Err ZeroedBaseSize)
    (Ok l)))

pub record BandSized (n f : ℕ) (r : Result ℕ SizeError) : Type 0 where
  pub answer : r ≡ of_samples n f (pairs n f)

pub record LineSized (m f : ℕ) (r : Result ℕ SizeError) : Type 0 where
  pub answer : r ≡ of_pairs m f (line_length m f)

pub record ScratchSized (n f : ℕ) (r : Result ℕ SizeError) : Type 0 where
  pub answer : r ≡ of_samples n f (padded_length n f)
