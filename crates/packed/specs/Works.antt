-- What the functions that entries share ask for, and how far down a line was found to go. Definitions only.
use Rattle.std.specs.Prelude.{◌≡◌, false, ℕ, ◌+◌, ◌≤◌, ◌<◌}
use Rattle.bank.specs.Lengths.{Sound}
use Rattle.packed.specs.declared.depth.Depth.{Depth}
use Rattle.packed.specs.Lengths.{levels_of, line_after, too_short, details_to}

-- n samples and f taps past 12, 11, 1 and 9: each of so many levels has a line to split
pub record Split (n f levels : ℕ) : Type 0 where
  pub sound : Sound n f
  pub long : too_short n f (levels_of levels) ≡ false

-- and past 22
pub record Named (n f levels level : ℕ) : Type 0 where
  pub split : Split n f levels
  pub named : level ≤ levels_of levels

-- one level or more that are as many as they say, and a packed buffer of p that has its length
pub record Filled (n f levels p : ℕ) : Type 0 where
  pub sound : Sound n f
  pub some : 1 ≤ levels
  pub long : too_short n f levels ≡ false
  pub filled : p ≡ details_to n f levels + line_after n f levels

-- so many levels, or as many as the line allows
pub record Down (n f levels : ℕ) (r : Depth) : Type 0 where
  pub most : r.levels ≤ levels
  pub long : too_short n f r.levels ≡ false
  pub last : r.levels < levels → line_after n f r.levels < f
  pub detailed : r.details ≡ details_to n f r.levels
  pub left : r.line ≡ line_after n f r.levels
