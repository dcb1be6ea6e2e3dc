-- The border rule (RULES, Borders): for a place of a line of n samples, which sample stands there, or zero. Definitions only.
-- A place left of the line is `Before k`, which is -(k + 1); any other is `At i`.
use Rattle.std.specs.Prelude.{cond, List, [], ◌∷◌, ℕ, ◌+◌, ◌-◌, ◌*◌, ◌%◌, ltb, eqb, length, get_or}
use Rattle.border.specs.declared.Border.{Border}
use Rattle.border.specs.declared.Border.TheVariants.{Clamp, Wrap, Reflect, Zeros, Reflect101, Mirror, Mirror101}
use Rattle.border.specs.declared.rule.Place.{Place}
use Rattle.border.specs.declared.rule.Place.TheVariants.{Before, At}

-- the borders, and the number of each: its place among them
abbrev pub borders : List Border
borders = Clamp ∷ Wrap ∷ Reflect ∷ Zeros ∷ Reflect101 ∷ Mirror ∷ Mirror101 ∷ []

abbrev pub number_of : Border → ℕ
number_of Clamp = 0
number_of Wrap = 1
number_of Reflect = 2
number_of Zeros = 3
number_of Reflect101 = 4
number_of Mirror = 5
number_of Mirror101 = 6

-- what stands at a place: a sample of the line, or zero
pub data Source : Type 0 where
  Sample : ℕ → Source
  Zero : Source

-- the nearest end, of a place outside the line
abbrev pub nearest : Place → ℕ → ℕ
nearest (Before k) n = 0
nearest (At i) n = n - 1

-- the place modulo n, never negative
abbrev pub modulo : Place → ℕ → ℕ
modulo (Before k) n = n - 1 - k % n
modulo (At i) n = i % n

-- -i on the left, 2(n - 1) - i on the right
abbrev pub across : Place → ℕ → ℕ
across (Before k) n = k + 1
across (At i) n = 2 * (n - 1) - i

-- there and back: q below `turn`, top - q from there on
abbrev pub turned : ℕ → ℕ → ℕ → ℕ
turned turn top q = cond (ltb q turn) q (top - q)

-- there and back, each end twice: the period is 2n
abbrev pub folded : Place → ℕ → ℕ
folded p n = turned n (2 * n - 1) (modulo p (2 * n))

-- there and back, each end once: the period is 2(n - 1)
abbrev pub folded101 : Place → ℕ → ℕ
folded101 p n = turned n (2 * (n - 1)) (modulo p (2 * (n - 1)))

-- what stands outside the line
abbrev pub outside : Border → Place → ℕ → Source
outside Clamp p n = Sample (nearest p n)
outside Wrap p n = Sample (modulo p n)
outside Reflect p n = Sample (n - 1 - modulo p n)
outside Zeros p n = Zero
outside Reflect101 p n = Sample (cond (eqb n 1) 0 (across p n))
outside Mirror p n = Sample (folded p n)
outside Mirror101 p n = Sample (cond (eqb n 1) 0 (folded101 p n))

-- what stands at any place: within the line, the sample itself
unfoldable pub source : Border → Place → ℕ → Source
source b (Before k) n = outside b (Before k) n
source b (At i) n = cond (ltb i n) (Sample i) (outside b (At i) n)

-- what a source gives, of samples of any kind whose zero is z
abbrev pub value_of : {A : Type 0} → A → List A → Source → A
value_of z s (Sample k) = get_or s k z
value_of z s Zero = z

-- place q of a line that has `left` places in front
abbrev pub place_in : ℕ → ℕ → Place
place_in left q = cond (ltb q left) (Before (left - 1 - q)) (At (q - left))

-- place q of the samples s padded by `left` places in front and as many behind as are asked for
unfoldable pub padded : {A : Type 0} → A → Border → List A → ℕ → ℕ → A
unfolding source
padded z b s left q = value_of z s (source b (place_in left q) (length s))
