-- P1 to P13 (RULES, Examples) as one list, in that order and by those numbers, and what it means that they hold. Definitions only; judge/examples.py reads this list.
use Rattle.std.specs.Prelude.{◌≡◌, List, [], ◌∷◌, ℕ}
use Rattle.border.specs.declared.Border.{Border}
use Rattle.border.specs.declared.Border.TheVariants.{Clamp, Wrap, Reflect, Zeros, Reflect101, Mirror, Mirror101}
use Rattle.worked.specs.Questions.{Signed, +◌, -◌, floats, Question, Split, Join, Over, Left, Edges, Bands, Approx, Restore, Factor, Convolve, Plane, Answer, Numbers, Line, Lines, Refused, answered}

-- the number of an example, what it asks, and what RULES, Examples answers
pub data Example : Type 0 where
  P : ℕ → Question → Answer → Example

-- the definitions answer as the example says
abbrev pub Holds : Example → Type 0
Holds (P k question answer) = answered question ≡ answer

-- every example of a list holds
infixr 40 ◌&◌
pub data All : List Example → Type 0 where
  none : All []
  ◌&◌ : {e : Example} {l : List Example} → Holds e → All l → All (e ∷ l)

abbrev pub line : List Signed → Answer
line l = Line (floats l)

abbrev pub lines : List Signed → List Signed → Answer
lines first second = Lines (floats first) (floats second)

-- b is any border, where an example names none
abbrev pub examples : Border → List Example
examples b =
    P 1 (Split 4 4) (Numbers (3 ∷ 2 ∷ 2 ∷ []))
    ∷ P 1 (Split 4 5) (Numbers (4 ∷ 2 ∷ 3 ∷ []))
    ∷ P 1 (Join 4 4) (Numbers (6 ∷ []))
    ∷ P 2 (Split 4 3) (Refused 1 (3 ∷ 4 ∷ []))
    ∷ P 2 (Over 4 3 2) (Refused 9 [])
    ∷ P 3 (Over 4 4 2) (Refused 9 [])
    ∷ P 3 (Left 4 4) (Numbers (3 ∷ []))
    ∷ P 4 (Split 2 2) (Numbers (1 ∷ 0 ∷ 0 ∷ []))
    ∷ P 5 (Edges Wrap 4 (+ 10 ∷ + 20 ∷ + 30 ∷ [])) (lines (+ 30 ∷ + 10 ∷ + 20 ∷ + 30 ∷ []) (+ 10 ∷ + 20 ∷ + 30 ∷ + 10 ∷ []))
    ∷ P 6 (Edges Reflect 4 (+ 10 ∷ + 20 ∷ + 30 ∷ [])) (lines (+ 10 ∷ + 30 ∷ + 20 ∷ + 10 ∷ []) (+ 30 ∷ + 20 ∷ + 10 ∷ + 30 ∷ []))
    ∷ P 7 (Edges Reflect101 1 (+ 10 ∷ + 20 ∷ + 30 ∷ [])) (lines (+ 20 ∷ []) (+ 20 ∷ []))
    ∷ P 8 (Bands Clamp (+ 3 ∷ + 6 ∷ + 2 ∷ - 1 ∷ []) (- 1 ∷ - 2 ∷ + 6 ∷ - 3 ∷ []) (+ 10 ∷ + 20 ∷ + 30 ∷ + 40 ∷ [])) (lines (+ 90 ∷ + 170 ∷ + 370 ∷ []) (- 30 ∷ + 10 ∷ + 10 ∷ []))
    ∷ P 8 (Restore (+ 3 ∷ + 6 ∷ + 2 ∷ - 1 ∷ []) (- 1 ∷ - 2 ∷ + 6 ∷ - 3 ∷ []) (+ 90 ∷ + 170 ∷ + 370 ∷ []) (- 30 ∷ + 10 ∷ + 10 ∷ [])) (line (+ 500 ∷ + 1000 ∷ + 1500 ∷ + 2000 ∷ []))
    ∷ P 8 (Factor (+ 3 ∷ + 6 ∷ + 2 ∷ - 1 ∷ [])) (line (+ 50 ∷ []))
    ∷ P 9 (Convolve Zeros (+ 1 ∷ + 2 ∷ + 3 ∷ + 4 ∷ []) (+ 1 ∷ + 10 ∷ + 100 ∷ []) (+ 0)) (line (+ 210 ∷ + 321 ∷ + 432 ∷ + 43 ∷ []))
    ∷ P 9 (Convolve Zeros (+ 1 ∷ + 2 ∷ + 3 ∷ + 4 ∷ []) (+ 1 ∷ + 10 ∷ + 100 ∷ []) (+ 1)) (line (+ 321 ∷ + 432 ∷ + 43 ∷ + 4 ∷ []))
    ∷ P 9 (Convolve Zeros (+ 1 ∷ + 2 ∷ + 3 ∷ + 4 ∷ []) (+ 1 ∷ + 10 ∷ + 100 ∷ []) (- 1)) (line (+ 100 ∷ + 210 ∷ + 321 ∷ + 432 ∷ []))
    ∷ P 9 (Convolve Zeros (+ 1 ∷ + 2 ∷ + 3 ∷ + 4 ∷ []) (+ 1 ∷ + 10 ∷ + 100 ∷ []) (+ 3)) (Refused 8 (3 ∷ 3 ∷ []))
    ∷ P 10 (Over 2 5 2) (Numbers (3 ∷ 2 ∷ 2 ∷ 7 ∷ []))
    ∷ P 11 (Plane b 4 4 (+ 1 ∷ + 1 ∷ []) (+ 1 ∷ - 1 ∷ []) (+ 1 ∷ + 2 ∷ + 3 ∷ + 4 ∷ + 5 ∷ + 6 ∷ + 7 ∷ + 8 ∷ + 9 ∷ + 10 ∷ + 11 ∷ + 12 ∷ + 13 ∷ + 14 ∷ + 15 ∷ + 16 ∷ [])) (line (+ 14 ∷ + 46 ∷ + 22 ∷ + 54 ∷ []))
    ∷ P 12 (Approx b (+ 1 ∷ + 1 ∷ []) (- 0 ∷ - 0 ∷ [])) (line (+ 0 ∷ []))
    ∷ P 12 (Convolve b (- 0 ∷ []) (+ 1 ∷ []) (+ 0)) (line (- 0 ∷ []))
    ∷ P 13 (Edges Mirror 4 (+ 10 ∷ + 20 ∷ + 30 ∷ [])) (lines (+ 30 ∷ + 30 ∷ + 20 ∷ + 10 ∷ []) (+ 30 ∷ + 20 ∷ + 10 ∷ + 10 ∷ []))
    ∷ P 13 (Edges Mirror101 4 (+ 10 ∷ + 20 ∷ + 30 ∷ [])) (lines (+ 10 ∷ + 20 ∷ + 30 ∷ + 20 ∷ []) (+ 20 ∷ + 10 ∷ + 20 ∷ + 30 ∷ []))
    ∷ []
