-- `laying::digits::decimal` meets its contract: each turn fills in one digit more, from the last before the newline, while there is more than one; the last is then filled in before them. A number of 64 bits has no more than 20.
use mathlib.Core.Path.{◌≡◌, sym, ◌∙◌}
use Prim.Native.Nat.{◌-◌}
use native.Mathlib.Omega.{arith}
use lib.ListN.{take, drop, set, length-drop, length-set}
use lib.Seq.{take_all}
use Rattle.laying.specs.Digits.{place_left, rest_smaller, decimal_turn, decimal_end}
use Rattle.laying.specs.Behind.{lays_as}
use Rattle.laying.proofs.digits.decimal.Goals as goal

pub loop-rest-preserved : goal.loop-rest-preserved
loop-rest-preserved c = let some = place_left c.loop-rest.i c.loop-rest.rest c.loop-rest.invariant.2 (omega arith) in (
  omega arith,
  simp length-set c.loop-rest.invariant.1,
  rest_smaller c.loop-rest.i c.loop-rest.rest c.loop-rest.invariant.2 some,
  decimal_turn c.loop-rest.line c.loop-rest.i c.loop-rest.rest (omega arith) some (omega arith) c.digit.ensures c.loop-rest.invariant.3,
)

pub returns : goal.returns
returns c = let i = c.loop-rest.i in
    let line = set c.loop-rest.line i c.digit-2.result in
    let text = decimal_end c.loop-rest.line i c.loop-rest.rest (omega arith) (omega arith) c.digit-2.ensures c.loop-rest.invariant.3 in
    let all : take (21 - i) (drop i line) ≡ drop i line = take_all (21 - i) (drop i line) (simp (length-drop, length-set) (omega arith)) in
    lays_as (text ∙ sym all) c.bytes.ensures
