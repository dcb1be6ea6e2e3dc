-- What one byte more makes of a line of numbers, and the number that it ends. Definitions only.
use Rattle.std.specs.Prelude.{Bool, true, false, cond, ℕ, ◌+◌, ◌*◌, ◌-◌, ltb, eqb, pos, Float}
use Rattle.std.specs.Float.{binary64}
use Rattle.std.specs.Float.Ieee.{of_int, neg}
use Rattle.texts.specs.Texts.{newline, space, minus, greatest}
use Rattle.phases.specs.declared.Phase.{Phase}
use Rattle.phases.specs.declared.Phase.TheVariants.{Fresh, Next, Minus, Number, Closed, Broken}

-- the least first digit
abbrev pub least : Bool → ℕ
least true = 49
least false = 48

abbrev pub firstly : Bool → ℕ → Phase
firstly negative c = cond (ltb c (least negative)) Broken (cond (ltb 57 c) Broken (Number negative (c - 48)))

abbrev pub starting : ℕ → Phase
starting c = cond (eqb c minus) Minus (firstly false c)

abbrev pub freshly : ℕ → Phase
freshly c = cond (eqb c newline) Closed (starting c)

-- a digit more
abbrev pub grown : Bool → ℕ → ℕ → Phase
grown negative size c =
    cond (ltb c 48) Broken
    (cond (ltb 57 c) Broken
    (cond (eqb size 0) Broken
    (cond (ltb greatest (size * 10 + (c - 48))) Broken
    (Number negative (size * 10 + (c - 48))))))

abbrev pub behind : Bool → ℕ → ℕ → Phase
behind negative size c = cond (eqb c space) Next (cond (eqb c newline) Closed (grown negative size c))

abbrev pub stepped : Phase → ℕ → Phase
stepped Fresh c = freshly c
stepped Next c = starting c
stepped Minus c = firstly true c
stepped (Number negative size) c = behind negative size c
stepped Closed c = Broken
stepped Broken c = Broken

abbrev pub closed_at : Phase → Bool
closed_at Fresh = false
closed_at Next = false
closed_at Minus = false
closed_at (Number negative size) = false
closed_at Closed = true
closed_at Broken = false

-- the number itself, which is no minus zero
abbrev pub value_of : Bool → ℕ → Float
value_of true size = neg (of_int binary64 (pos size))
value_of false size = of_int binary64 (pos size)
