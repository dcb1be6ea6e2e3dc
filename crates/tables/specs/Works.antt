-- What the functions of a crossing ask for, and what they leave of a part of the work. Definitions only.
use Rattle.std.specs.Prelude.{◌≡◌, ◌⊎◌, List, ℕ, ◌+◌, ◌*◌, ◌≤◌, ◌<◌, length, Float}
use Rattle.numbers.specs.Words.{at}

-- so many numbers, n apart from `from` on, and before `to` where they go
pub record Gatherable (len n from to count : ℕ) : Type 0 where
  pub before : (k : ℕ) → k < count → from + k * n < to
  pub few : n ≤ len
  pub room : to + count ≤ len

-- so many lines of n numbers and room for as many behind them
pub record Crossable (len lines n : ℕ) : Type 0 where
  pub tall : 1 ≤ lines
  pub wide : 1 ≤ n
  pub room : lines * n + lines * n ≤ len

-- the same, and some of the lines and of their places
pub record Strip (len lines n first end left right : ℕ) : Type 0 where
  pub all : Crossable len lines n
  pub rising : first ≤ end
  pub last : end ≤ lines
  pub onward : left ≤ right
  pub inside : right ≤ n

-- the lines from `first` to `end` are crossed from place `left` up to place c; other lines, and places before `left`, are as they were
pub record CrossedTo (lines n first end left c : ℕ) (x s : List Float) : Type 0 where
  pub long : length s ≡ length x
  pub across : (k r : ℕ) → left ≤ k → k < c → first ≤ r → r < end → at s (lines * n + (k * lines + r)) ≡ at x (r * n + k)
  pub others : (k r : ℕ) → r < lines → (r < first) ⊎ (end ≤ r) → at s (lines * n + (k * lines + r)) ≡ at x (lines * n + (k * lines + r))
  pub earlier : (k r : ℕ) → r < lines → k < left → at s (lines * n + (k * lines + r)) ≡ at x (lines * n + (k * lines + r))
  pub before : (j : ℕ) → j < lines * n → at s j ≡ at x j
  pub behind : (j : ℕ) → lines * n + lines * n ≤ j → at s j ≡ at x j
