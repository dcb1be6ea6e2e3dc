-- The scratch that a user asks for: the answers with their numbers. Definitions only.
use Rattle.std.specs.Prelude.{◌≡◌, cond, List, [], ◌∷◌, ℕ, eqb, ℤ, Result, Ok, Err}
use Rattle.convolution.specs.declared.pads.ScratchError.{ScratchError}
use Rattle.convolution.specs.declared.pads.ScratchError.TheVariants.{ZeroedBaseSize, Limit}
use Rattle.convolution.specs.Pads.{beyond, needed}

-- the number of an answer, and the values that it carries (RULES, Numbers)
abbrev pub number_of : Result ℕ ScratchError → ℕ
number_of (Ok l) = 0
number_of (Err ZeroedBaseSize) = 7
number_of (Err Limit) = 11

abbrev pub values_of : Result ℕ ScratchError → List ℕ
values_of (Ok l) = l ∷ []
values_of (Err ZeroedBaseSize) = []
values_of (Err Limit) = []

-- the length, after 11 and 7; an empty kernel needs none
abbrev pub size_of : ℕ → ℕ → ℤ → Result ℕ ScratchError
size_of n f c =
    cond (beyond n f c) (Err Limit)
    (cond (eqb n 0) (Err ZeroedBaseSize)
    (cond (eqb f 0) (Ok 0)
    (Ok (needed n f c))))

pub record ScratchSized (n f : ℕ) (c : ℤ) (r : Result ℕ ScratchError) : Type 0 where
  pub answer : r ≡ size_of n f c
