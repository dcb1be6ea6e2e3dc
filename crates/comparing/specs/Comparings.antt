-- Comparing two bands: which place is the first that differs, the answers with their numbers, and what the entry promises. Definitions only.
use Rattle.std.specs.Prelude.{◌≡◌, Bool, true, false, cond, not, ◌||◌, List, [], ◌∷◌, ℕ, zero, suc, ◌+◌, ◌*◌, ◌/◌, ◌%◌, ◌<◌, ltb, eqb, length, ⊤, Result, Ok, Err, Float}
use Rattle.std.specs.Float.Ieee.{is_nan, to_bits}
use Rattle.std.specs.Float.{binary64}
use Rattle.numbers.specs.Words.{at}
use Rattle.tables.specs.Tables.{too_large}
use Rattle.comparing.specs.declared.Compared.{Compared}
use Rattle.comparing.specs.declared.Compared.TheVariants.{Equal, Differs}
use Rattle.comparing.specs.declared.ComparingError.{ComparingError}
use Rattle.comparing.specs.declared.ComparingError.TheVariants.{ZeroedBaseSize, InputSize, Limit}

-- the bits of two floats differ; a NaN is a NaN
abbrev pub differs : Float → Float → Bool
differs x y = cond (is_nan x) (not (is_nan y)) (cond (is_nan y) true (not (eqb (to_bits binary64 x) (to_bits binary64 y))))

-- two bands differ at a place
abbrev pub differ_at : List Float → List Float → ℕ → Bool
differ_at first second k = differs (at first k) (at second k)

-- the first of 0 .. n - 1 that passes, or n
unfoldable pub first_of : (ℕ → Bool) → ℕ → ℕ
first_of passes zero = 0
first_of passes (suc n) = cond (passes 0) 0 (suc (first_of (λ k. passes (suc k)) n))

-- equal, or the column and the row of the first place that differs, of two bands of w columns of h; place r of column c is at c h + r
unfoldable pub found_in : List Float → List Float → ℕ → ℕ → Compared
unfolding first_of
found_in first second w h = let k = first_of (differ_at first second) (w * h) in cond (ltb k (w * h)) (Differs (k / h) (k % h)) Equal

-- the bands agree at the places below n
abbrev pub Agree : List Float → List Float → ℕ → Type 0
Agree first second n = (k : ℕ) → k < n → differ_at first second k ≡ false

-- what is meant: row r of column c is the first place that differs
pub record FirstAt (first second : List Float) (w h c r : ℕ) : Type 0 where
  pub column : c < w
  pub row : r < h
  pub here : differ_at first second (c * h + r) ≡ true
  pub earlier : Agree first second (c * h + r)

-- the number of an answer, and the values that it carries (RULES, Numbers)
abbrev pub number_of : {A : Type 0} → Result A ComparingError → ℕ
number_of (Ok found) = 0
number_of (Err ZeroedBaseSize) = 7
number_of (Err (InputSize need have)) = 10
number_of (Err Limit) = 11

abbrev pub values_of : Result Compared ComparingError → List ℕ
values_of (Ok Equal) = []
values_of (Ok (Differs column row)) = column ∷ row ∷ []
values_of (Err ZeroedBaseSize) = []
values_of (Err (InputSize need have)) = need ∷ have ∷ []
values_of (Err Limit) = []

-- the first test that fails, of w columns of h and bands of a and b; done where none does
unfoldable pub tests_of : ℕ → ℕ → ℕ → ℕ → Result ⊤ ComparingError
tests_of w h a b =
    cond (eqb w 0 || eqb h 0) (Err ZeroedBaseSize)
    (cond (too_large w h) (Err Limit)
    (cond (not (eqb a (w * h))) (Err (InputSize (w * h) a))
    (cond (not (eqb b (w * h))) (Err (InputSize (w * h) b))
    (Ok tt))))

-- what is found, or the refusal of the tests before it
abbrev pub found_by : Result ⊤ ComparingError → Compared → Result Compared ComparingError
found_by (Ok done) found = Ok found
found_by (Err refusal) found = Err refusal

-- where no test fails, what is found
abbrev pub answer_of : List Float → List Float → ℕ → ℕ → Result Compared ComparingError
answer_of first second w h = found_by (tests_of w h (length first) (length second)) (found_in first second w h)

pub record BandsCompared (first second : List Float) (width height : ℕ) (r : Result Compared ComparingError) : Type 0 where
  pub answer : r ≡ answer_of first second width height
