-- What each turn of `read_mode` keeps: none of the borders up to here was found, so the rest of them decide.
use mathlib.Core.Path.{◌≡◌}
use lib.ListN.{drop}
use Rattle.border.specs.Rule.{borders}
use Rattle.modes.specs.Names.{found_in, mode_of}
use Rattle.modes.proofs.read_mode.Given as goal

abbrev pub invariant-loop-border : goal.invariant-loop-border
invariant-loop-border l = found_in l.text (drop l.border-index borders) ≡ mode_of l.text
