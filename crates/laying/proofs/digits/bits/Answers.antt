-- `laying::digits::bits` meets its contract: each turn fills in one digit more of the 16, from the last before the newline, and the rest of the number keeps those that are to come.
use native.Mathlib.Omega.{arith}
use lib.ListN.{length-set}
use Rattle.laying.specs.Digits.{hex_turn, hex_end}
use Rattle.laying.specs.Behind.{lays_as}
use Rattle.laying.proofs.digits.bits.Goals as goal

pub loop-i-preserved : goal.loop-i-preserved
loop-i-preserved c = (
  simp length-set c.loop-i.invariant.0,
  hex_turn c.loop-i.line c.loop-i.i c.loop-i.rest (omega arith) (omega arith) c.digit.ensures c.loop-i.invariant.1,
)

pub returns : goal.returns
returns c = lays_as (hex_end c.loop-i.line c.loop-i.i c.loop-i.rest (omega arith) c.loop-i.invariant.1) c.bytes.ensures
