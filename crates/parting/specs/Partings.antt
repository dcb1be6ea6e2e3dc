-- Two pairs of bands: which place is the first where they part, in the approximations and else in the details, the answers with their numbers, and what the entry promises. Definitions only.
use Rattle.std.specs.Prelude.{◌≡◌, Bool, true, false, cond, List, [], ◌∷◌, ℕ, max, ◌<◌, ltb, length, Float}
use Rattle.comparing.specs.Comparings.{differ_at, first_of}
use Rattle.parting.specs.declared.Parting.{Parting}
use Rattle.parting.specs.declared.Parting.TheVariants.{Same, Approx, Detail}

-- as many places as the longer of two lists has
abbrev pub longer : List Float → List Float → ℕ
longer x y = max (length x) (length y)

-- two lists part at a place: both have it and the bits differ there, or just one of them has it
unfoldable pub parts_at : List Float → List Float → ℕ → Bool
parts_at x y k = cond (ltb k (length x)) (cond (ltb k (length y)) (differ_at x y k) true) (ltb k (length y))

-- the first place where they part, or as many as the longer has
unfoldable pub part_at : List Float → List Float → ℕ
part_at x y = first_of (parts_at x y) (longer x y)

-- they part anywhere
abbrev pub parts : List Float → List Float → Bool
parts x y = ltb (part_at x y) (longer x y)

-- where the bands a and d part from a' and d'
unfoldable pub parting_of : List Float → List Float → List Float → List Float → Parting
parting_of a d a' d' = cond (parts a a') (Approx (part_at a a')) (cond (parts d d') (Detail (part_at d d')) Same)

-- what is meant: two lists are the same at the places below n
abbrev pub SameBelow : List Float → List Float → ℕ → Type 0
SameBelow x y n = (k : ℕ) → k < n → parts_at x y k ≡ false

-- at every place, so that neither is longer
abbrev pub SameLists : List Float → List Float → Type 0
SameLists x y = (k : ℕ) → parts_at x y k ≡ false

-- and place k is the first where they part
pub record PartFirstAt (x y : List Float) (k : ℕ) : Type 0 where
  pub here : parts_at x y k ≡ true
  pub earlier : SameBelow x y k

-- the number of an answer, and the values that it carries: which band, 0 for the approximations and 1 for the details, then the place (RULES, Numbers)
abbrev pub number_of : Parting → ℕ
number_of Same = 0
number_of (Approx k) = 0
number_of (Detail k) = 0

abbrev pub values_of : Parting → List ℕ
values_of Same = []
values_of (Approx k) = 0 ∷ k ∷ []
values_of (Detail k) = 1 ∷ k ∷ []

pub record Parted (a d a' d' : List Float) (r : Parting) : Type 0 where
  pub answer : r ≡ parting_of a d a' d'
