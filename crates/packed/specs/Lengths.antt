-- The lengths of levels, for n samples and f taps: each level splits the approximations of the one before. Definitions only.
use Rattle.std.specs.Prelude.{Bool, false, cond, ◌||◌, ℕ, zero, suc, ◌+◌, ◌*◌, max, ltb}
use Rattle.bank.specs.Lengths.{pairs, padded_length, line_length}

-- levels 0 and 1 mean one
abbrev pub levels_of : ℕ → ℕ
levels_of levels = max levels 1

-- the line that k levels leave: their last approximations
unfoldable pub line_after : ℕ → ℕ → ℕ → ℕ
line_after n f zero = n
line_after n f (suc k) = pairs (line_after n f k) f

-- whether any of k levels has a line shorter than f
unfoldable pub too_short : ℕ → ℕ → ℕ → Bool
unfolding line_after
too_short n f zero = false
too_short n f (suc k) = too_short n f k || ltb (line_after n f k) f

-- how many details k levels have together; a level has as many as approximations
unfoldable pub details_to : ℕ → ℕ → ℕ → ℕ
unfolding line_after
details_to n f zero = 0
details_to n f (suc k) = details_to n f k + line_after n f (suc k)

-- details 1, details 2 and so on, then the last approximations
abbrev pub packed_length : ℕ → ℕ → ℕ → ℕ
packed_length n f levels = details_to n f (levels_of levels) + line_after n f (levels_of levels)

-- where a level's details begin and how many they are; level 0 names the last approximations
abbrev pub level_start : ℕ → ℕ → ℕ → ℕ → ℕ
level_start n f levels zero = details_to n f (levels_of levels)
level_start n f levels (suc k) = details_to n f k

abbrev pub level_count : ℕ → ℕ → ℕ → ℕ → ℕ
level_count n f levels zero = line_after n f (levels_of levels)
level_count n f levels (suc k) = line_after n f (suc k)

-- the padded length of the first line, and 2 m of the first level
abbrev pub levels_scratch : ℕ → ℕ → ℕ
levels_scratch n f = padded_length n f + 2 * pairs n f

-- the first level's synthesis length
abbrev pub restoring_length : ℕ → ℕ → ℕ
restoring_length n f = line_length (pairs n f) f

-- how many of the first k levels have a line to split
unfoldable pub long_lines : ℕ → ℕ → ℕ → ℕ
unfolding line_after
long_lines n f zero = 0
long_lines n f (suc k) = cond (ltb (line_after n f k) f) (long_lines n f k) (suc (long_lines n f k))

-- the most levels that a line allows: each takes a sample at least, so none comes after n of them
abbrev pub most_levels : ℕ → ℕ → ℕ
most_levels n f = long_lines n f n
