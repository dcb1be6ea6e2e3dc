-- Comparing two bands (RULES, Comparing): the first place that differs, zeros and NaN, and every refusal in turn: each is computed.
use Rattle.std.specs.Prelude.{◌≡◌, refl, true, List, [], ◌∷◌, ℕ, pos, Result, Ok, Float}
use Rattle.std.specs.Float.{fin, nan}
use Rattle.std.specs.Float.Ieee.{of_int, to_bits, is_nan}
use Rattle.numbers.specs.Words.{plus_zero}
use Rattle.worked.specs.Whole.{floats}
use Rattle.tables.specs.Tables.{too_large}
use Rattle.comparing.specs.declared.Compared.{Compared}
use Rattle.comparing.specs.declared.ComparingError.{ComparingError}
use Rattle.comparing.specs.declared.Compared.TheVariants.{Equal, Differs}
use Rattle.comparing.specs.Comparings.{first_of, found_in, tests_of, answer_of, number_of, values_of}

-- two columns of three, and the same with two places changed
abbrev six : List Float
six = floats (pos 1 ∷ pos 2 ∷ pos 3 ∷ pos 4 ∷ pos 5 ∷ pos 6 ∷ [])

abbrev changed : List Float
changed = floats (pos 1 ∷ pos 2 ∷ pos 9 ∷ pos 4 ∷ pos 5 ∷ pos 9 ∷ [])

same : answer_of six six 2 3 ≡ Ok Equal
unfolding tests_of too_large found_in first_of of_int to_bits is_nan
same = refl

-- the last row of the first column is the first of both; of three columns of two it is the first row of the second
first_of_two : (answer_of six changed 2 3 ≡ Ok (Differs 0 2)) × (answer_of six changed 3 2 ≡ Ok (Differs 1 0))
unfolding tests_of too_large found_in first_of of_int to_bits is_nan
first_of_two = (refl, refl)

-- the last place of all
last : answer_of six (floats (pos 1 ∷ pos 2 ∷ pos 3 ∷ pos 4 ∷ pos 5 ∷ pos 0 ∷ [])) 2 3 ≡ Ok (Differs 1 2)
unfolding tests_of too_large found_in first_of of_int to_bits is_nan
last = refl

-- a NaN is a NaN, and no number; +0 and -0 differ in bits
kinds : (answer_of (nan ∷ []) (nan ∷ []) 1 1 ≡ Ok Equal) × (answer_of (nan ∷ []) (plus_zero ∷ []) 1 1 ≡ Ok (Differs 0 0)) × (answer_of (plus_zero ∷ []) (nan ∷ []) 1 1 ≡ Ok (Differs 0 0))
    × (answer_of (plus_zero ∷ []) (fin true 0 (pos 0) ∷ []) 1 1 ≡ Ok (Differs 0 0))
unfolding tests_of too_large found_in first_of of_int to_bits is_nan
kinds = (refl, refl, refl, refl)

-- ---- what is refused, in its order (RULES, Order of tests): where several tests fail, the first answers
abbrev told : Result Compared ComparingError → List ℕ
told r = number_of r ∷ values_of r

-- 7: no columns, and no rows
zeroed : (told (answer_of six [] 0 1048577) ≡ 7 ∷ []) × (told (answer_of six [] 1048577 0) ≡ 7 ∷ [])
unfolding tests_of too_large found_in first_of of_int to_bits is_nan
zeroed = (refl, refl)

-- 11: the columns, the rows, and their product
limits : (told (answer_of six [] 1048577 1) ≡ 11 ∷ []) × (told (answer_of six [] 1 1048577) ≡ 11 ∷ []) × (told (answer_of six [] 4097 4096) ≡ 11 ∷ [])
unfolding tests_of too_large found_in first_of of_int to_bits is_nan
limits = (refl, refl, refl)

-- 10 for the first band, then 10 for the second, though they differ
lengths : (told (answer_of six [] 2 2) ≡ 10 ∷ 4 ∷ 6 ∷ []) × (told (answer_of six [] 2 3) ≡ 10 ∷ 6 ∷ 0 ∷ []) × (told (answer_of (plus_zero ∷ []) six 1 1) ≡ 10 ∷ 1 ∷ 6 ∷ [])
unfolding tests_of too_large found_in first_of of_int to_bits is_nan
lengths = (refl, refl, refl)

-- what is found carries its column and its row, under 0 as equal does
carried : (told (answer_of six six 2 3) ≡ 0 ∷ []) × (told (answer_of six changed 2 3) ≡ 0 ∷ 0 ∷ 2 ∷ [])
unfolding tests_of too_large found_in first_of of_int to_bits is_nan
carried = (refl, refl)
