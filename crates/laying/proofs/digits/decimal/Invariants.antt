-- What each turn of `digits::decimal` keeps, and what falls with each.
use mathlib.Core.Path.{◌≡◌}
use mathlib.Core.List.{[], ◌∷◌, ◌++◌}
use Prim.Native.Nat.{◌<◌, ◌+◌, ◌^◌}
use lib.ListN.{length, drop}
use Rattle.texts.specs.Texts.{newline, digits_of, decimal}
use Rattle.laying.proofs.digits.decimal.Given as goal

abbrev pub invariant-loop-rest : goal.invariant-loop-rest
invariant-loop-rest l = (l.i < 20) × (length l.line ≡ 21) × (l.rest < 10 ^ (l.i + 1)) × (decimal l.n ++ (newline ∷ []) ≡ digits_of (l.i + 1) l.rest ++ drop (l.i + 1) l.line)

abbrev pub decreases-loop-rest : goal.decreases-loop-rest
decreases-loop-rest l = l.i
