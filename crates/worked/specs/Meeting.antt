-- The premises of exact restoring, of either statement and through levels, as one test on whole numbers alone (`meeting`, `pairs_meeting`, `through_meeting`), and what it is to say (`Met`, `PairsMet`, `MetThrough`). Definitions only.
use Rattle.std.specs.Prelude.{Bool, true, not, ◌&&◌, List, ℕ, zero, suc, ◌*◌, ◌^◌, leb, eqb, length, get_or, ℤ, pos, negsuc, nat_abs, ◌-ℤ◌, Float}
use Rattle.std.specs.Float.{Format}
use Rattle.std.specs.Float.Ieee.{prec, of_int}
use Rattle.numbers.specs.Words.{longest, at}
use Rattle.whole.specs.Floats.{at_ℤ, floats}
use Rattle.border.specs.declared.Border.{Border}
use Rattle.border.specs.declared.Border.TheVariants.{Clamp}
use Rattle.border.specs.Rule.{borders}
use Rattle.bank.specs.Lengths.{bad_taps}
use Rattle.bank.specs.Banks as Banks
use Rattle.levels.specs.Lines.{packed_line}
use Rattle.restoring.specs.Dividings.{restored_divided}
use Rattle.exact.specs.Restoring.{squares, sizes, shifted, Premises, weight, largest_sizes, PairPremises}
use Rattle.exact_levels.specs.Through.{whole_line, ThroughPremises}

-- p at every place below n
abbrev pub every : ℕ → (ℕ → Bool) → Bool
every zero p = true
every (suc n) p = every n p && p n

-- p under every border
abbrev pub under_each : (Border → Bool) → Bool
under_each p = every (length borders) (λ k. p (get_or borders k Clamp))

-- taps of a good number whose products at the even distances up to twice that number sum to zero
abbrev pub taps_meet : List ℤ → Bool
taps_meet z = not (bad_taps (length z)) && every (length z) (λ k. eqb (nat_abs (shifted z (2 * suc k))) 0)

-- samples no fewer, at most 1,048,576, none larger than A
abbrev pub samples_meet : List ℤ → List ℤ → ℕ → Bool
samples_meet z v A = leb (length z) (length v) && leb (length v) longest && leb 1 A && every (length v) (λ i. leb (nat_abs (at_ℤ v i)) A)

-- the bound, T being told
abbrev pub within_bound : Format → ℕ → ℕ → Bool
within_bound f T A = leb (2 * A * T * T) (2 ^ prec f)

abbrev pub bound_meets : Format → List ℤ → ℕ → Bool
bound_meets f z A = within_bound f (sizes z) A

-- that the format holds taps and samples, which the bound gives except where every tap is 0
abbrev pub taps_held : Format → List ℤ → Bool
taps_held f z = every (length z) (λ j. leb (nat_abs (at_ℤ z j)) (2 ^ prec f))

abbrev pub held_by : Format → List ℤ → ℕ → Bool
held_by f z A = leb A (2 ^ prec f) && taps_held f z

abbrev pub meeting : Format → List ℤ → List ℤ → ℕ → Bool
meeting f z v A = taps_meet z && samples_meet z v A && bound_meets f z A && held_by f z A

-- the premises, of samples and of the bank that `mirrored` makes of taps
abbrev pub Met : Format → Border → List ℤ → List ℤ → ℕ → Type 0
Met f b z v A = let bank = Banks.bank_of (floats f z) (Banks.mirror (floats f z)) b in Premises f bank.taps bank.low bank.high (floats f v) z v A

-- ---- four lists

abbrev pub same_ℤ : ℤ → ℤ → Bool
same_ℤ x y = eqb (nat_abs (x -ℤ y)) 0

-- all as long as the first, whose length is a good number of taps
abbrev pub long_alike : List ℤ → List ℤ → List ℤ → List ℤ → Bool
long_alike al ah sl sh = not (bad_taps (length al)) && eqb (length ah) (length al) && eqb (length sl) (length al) && eqb (length sh) (length al)

-- by the synthesis taps at even places and by those at odd ones: S at distance zero, 0 at the others up to that length, on and back
abbrev pub weights_meet : List ℤ → List ℤ → List ℤ → List ℤ → ℤ → Bool
weights_meet al ah sl sh S =
    every 2 (λ e. same_ℤ (weight al ah sl sh e (pos 0)) S)
    && every 2 (λ e. every (length al) (λ k. same_ℤ (weight al ah sl sh e (pos (suc k))) (pos 0) && same_ℤ (weight al ah sl sh e (negsuc k)) (pos 0)))

abbrev pub pairs_held : Format → List ℤ → List ℤ → List ℤ → List ℤ → ℕ → Bool
pairs_held f al ah sl sh A = held_by f al A && taps_held f ah && taps_held f sl && taps_held f sh

abbrev pub pairs_bound : Format → List ℤ → List ℤ → List ℤ → List ℤ → ℕ → Bool
pairs_bound f al ah sl sh A = within_bound f (largest_sizes al ah sl sh) A

abbrev pub pairs_meeting : Format → List ℤ → List ℤ → List ℤ → List ℤ → List ℤ → ℤ → ℕ → Bool
pairs_meeting f al ah sl sh v S A = long_alike al ah sl sh && weights_meet al ah sl sh S && samples_meet al v A && pairs_bound f al ah sl sh A && pairs_held f al ah sl sh A

-- the premises, of samples and of the bank that `two_pairs` makes of taps
abbrev pub PairsMet : Format → Border → List ℤ → List ℤ → List ℤ → List ℤ → List ℤ → ℤ → ℕ → Type 0
PairsMet f b al ah sl sh v S A =
    let bank = Banks.bank_of_four (length (floats f al)) (at (floats f al)) (at (floats f ah)) (at (floats f sl)) (at (floats f sh)) b in
    PairPremises f bank.taps bank.low bank.high bank.lowback bank.highback (floats f v) al ah sl sh v S A

-- ---- through levels: As has an A for each, the first line's first

abbrev pub largest_of : List ℕ → ℕ → ℕ
largest_of As k = get_or As k 0

-- a level's line: none of its numbers larger than A, and the bound
abbrev pub line_meets : Format → List ℤ → List ℤ → ℕ → Bool
line_meets f z u A = leb 1 A && every (length u) (λ i. leb (nat_abs (at_ℤ u i)) A) && bound_meets f z A

-- a sum of squares that is not zero and that the format holds
abbrev pub divisor_meets : Format → List ℤ → Bool
divisor_meets f z = not (eqb (nat_abs (squares z)) 0) && leb (nat_abs (squares z)) (2 ^ prec f)

abbrev pub through_meeting : Format → Border → List ℤ → List ℤ → List ℕ → Bool
through_meeting f b z v As = meeting f z v (largest_of As 0) && every (length As) (λ k. line_meets f z (whole_line (length z) z b v k) (largest_of As k)) && divisor_meets f z

-- the premises, of samples, of the bank that `mirrored` makes of taps, and of their sum of squares as the divisor
abbrev pub MetThrough : Format → Border → List ℤ → List ℤ → List ℕ → Type 0
MetThrough f b z v As =
    let bank = Banks.bank_of (floats f z) (Banks.mirror (floats f z)) b in
    ThroughPremises f bank.taps bank.low bank.high b (floats f v) (of_int f (squares z)) (length As) z v (largest_of As)

-- what comes back by that bank and that divisor
abbrev pub back_through : Format → Border → List ℤ → List ℤ → ℕ → List Float
back_through f b z v levels =
    let bank = Banks.bank_of (floats f z) (Banks.mirror (floats f z)) b in
    restored_divided f (of_int f (squares z)) bank.taps bank.low bank.high (packed_line f bank.low bank.high bank.taps b (floats f v) levels) (length (floats f v)) levels
