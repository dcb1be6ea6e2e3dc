-- Restoring a line from its packed buffer, by recursion over the levels from the deepest up. Definitions only.
-- The taps are the first F of their list, since a bank keeps them in an array of 64. n samples went over `levels` levels, one or more.
use Rattle.std.specs.Prelude.{cond, List, ℕ, zero, suc, ◌-◌, ◌%◌, eqb, length, take, Float}
use Rattle.std.specs.Float.{Format}
use Rattle.numbers.specs.Words.{headed}
use Rattle.bank.specs.Lengths.{line_length}
use Rattle.synthesis.specs.Lines.{join_of}
use Rattle.packed.specs.Answers.{part_at}

-- one join: a line no shorter than the details is trimmed to as many, and the output starts cleared
abbrev pub level_join : Format → ℕ → List Float → List Float → List Float → List Float → List Float
level_join g F low high line detail = join_of g F low high (line_length (length detail) F) (take (length detail) line) detail

-- the line after j joins: the last approximations, then each level's join from the deepest up
unfoldable pub restored_after : Format → ℕ → List Float → List Float → List Float → ℕ → ℕ → ℕ → List Float
restored_after g F low high packed n levels zero = part_at n F levels packed 0
restored_after g F low high packed n levels (suc j) =
    level_join g F low high (restored_after g F low high packed n levels j) (part_at n F levels packed (levels - j))

-- the whole line
abbrev pub restored : Format → ℕ → List Float → List Float → List Float → ℕ → ℕ → List Float
restored g F low high packed n levels = restored_after g F low high packed n levels levels

-- what the two buffers hold after j joins: the deepest goes into the first, and then by turns
unfoldable pub first_after : Format → ℕ → List Float → List Float → List Float → ℕ → ℕ → ℕ → List Float → List Float
unfolding restored_after
first_after g F low high packed n levels zero x = x
first_after g F low high packed n levels (suc j) x =
    let y = first_after g F low high packed n levels j x in
    cond (eqb (j % 2) 0) (headed (restored_after g F low high packed n levels (suc j)) y) y

unfoldable pub second_after : Format → ℕ → List Float → List Float → List Float → ℕ → ℕ → ℕ → List Float → List Float
unfolding restored_after
second_after g F low high packed n levels zero x = x
second_after g F low high packed n levels (suc j) x =
    let y = second_after g F low high packed n levels j x in
    cond (eqb (j % 2) 0) y (headed (restored_after g F low high packed n levels (suc j)) y)

-- ---- the same, with something done to each joined line before it is trimmed and used: `done`
-- the line after j joins: the last approximations, then each level's join from the deepest up, and what is done to it
unfoldable pub joined_by : (List Float → List Float) → Format → ℕ → List Float → List Float → List Float → ℕ → ℕ → ℕ → List Float
joined_by done g F low high packed n levels zero = part_at n F levels packed 0
joined_by done g F low high packed n levels (suc j) =
    done (level_join g F low high (joined_by done g F low high packed n levels j) (part_at n F levels packed (levels - j)))

-- what the two buffers hold after j joins: the deepest goes into the first, and then by turns
unfoldable pub first_by : (List Float → List Float) → Format → ℕ → List Float → List Float → List Float → ℕ → ℕ → ℕ → List Float → List Float
unfolding joined_by
first_by done g F low high packed n levels zero x = x
first_by done g F low high packed n levels (suc j) x =
    let y = first_by done g F low high packed n levels j x in
    cond (eqb (j % 2) 0) (headed (joined_by done g F low high packed n levels (suc j)) y) y

unfoldable pub second_by : (List Float → List Float) → Format → ℕ → List Float → List Float → List Float → ℕ → ℕ → ℕ → List Float → List Float
unfolding joined_by
second_by done g F low high packed n levels zero x = x
second_by done g F low high packed n levels (suc j) x =
    let y = second_by done g F low high packed n levels j x in
    cond (eqb (j % 2) 0) y (headed (joined_by done g F low high packed n levels (suc j)) y)
