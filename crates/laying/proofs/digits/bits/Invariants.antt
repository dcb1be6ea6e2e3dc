-- What each turn of `digits::bits` keeps.
use mathlib.Core.Path.{◌≡◌}
use mathlib.Core.List.{[], ◌∷◌, ◌++◌}
use lib.ListN.{length, drop}
use Rattle.texts.specs.Texts.{newline}
use Rattle.texts.specs.Prints.{bits_text, hex_of}
use Rattle.laying.proofs.digits.bits.Given as goal

abbrev pub invariant-loop-i : goal.invariant-loop-i
invariant-loop-i l = (length l.line ≡ 17) × (bits_text l.x ++ (newline ∷ []) ≡ hex_of l.i l.rest ++ drop l.i l.line)
