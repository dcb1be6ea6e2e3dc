-- The packed buffer: the tests' answers with their numbers, and a level's part. Definitions only.
use Rattle.std.specs.Prelude.{cond, not, List, [], ◌∷◌, ℕ, ltb, eqb, take, drop, Result, Ok, Err, ⊤, Float}
use Rattle.numbers.specs.Words.{longest, and_then}
use Rattle.bank.specs.Lengths.{bad_taps}
use Rattle.packed.specs.declared.LevelsError.{LevelsError}
use Rattle.packed.specs.declared.LevelsError.TheVariants.{MinFilterSize, ScratchSize, BufferWasTooSmallForLevel, InputSize, Limit, Taps}
use Rattle.packed.specs.Lengths.{levels_of, too_short, packed_length, level_start, level_count}

-- the number of an answer, and the values that it carries (RULES, Numbers)
abbrev pub number_of : Result ⊤ LevelsError → ℕ
number_of (Ok done) = 0
number_of (Err (MinFilterSize n f)) = 1
number_of (Err (ScratchSize need have)) = 5
number_of (Err BufferWasTooSmallForLevel) = 9
number_of (Err (InputSize need have)) = 10
number_of (Err Limit) = 11
number_of (Err Taps) = 12

abbrev pub values_of : Result ⊤ LevelsError → List ℕ
values_of (Ok done) = []
values_of (Err (MinFilterSize n f)) = n ∷ f ∷ []
values_of (Err (ScratchSize need have)) = need ∷ have ∷ []
values_of (Err BufferWasTooSmallForLevel) = []
values_of (Err (InputSize need have)) = need ∷ have ∷ []
values_of (Err Limit) = []
values_of (Err Taps) = []

-- after tests: what comes where they are done, or their refusal in the words of an answer
abbrev pub when_ok : {A B E : Type 0} → Result A E → B → (E → B) → B
when_ok (Ok x) new refused = new
when_ok (Err e) new refused = refused e

-- 12, 11, then 1 for one level or 9 for more
unfoldable pub asked_of : ℕ → ℕ → ℕ → Result ⊤ LevelsError
asked_of n f levels =
    cond (bad_taps f) (Err Taps)
    (cond (ltb longest n) (Err Limit)
    (cond (too_short n f (levels_of levels)) (cond (ltb 1 levels) (Err BufferWasTooSmallForLevel) (Err (MinFilterSize n f)))
    (Ok tt)))

-- and 10 for a packed buffer of p
unfoldable pub held_of : ℕ → ℕ → ℕ → ℕ → Result ⊤ LevelsError
held_of n f levels p = and_then number_of (asked_of n f levels) (cond (not (eqb p (packed_length n f levels))) (Err (InputSize (packed_length n f levels) p)) (Ok tt))

-- a level's part of a packed buffer
abbrev pub part_at : ℕ → ℕ → ℕ → List Float → ℕ → List Float
part_at n f levels packed level = take (level_count n f levels level) (drop (level_start n f levels level) packed)
