-- `border::rule::laps` meets its contract: the branch is the definition's, and a lap of more than one sample has a place.
use native.Mathlib.Omega.{arith}
use borrow.Author.Tests.{eq-eqb, ne_eqb}
use Rattle.border.proofs.rule.laps.Goals as goal

pub returns-then-n-eq1 : goal.returns-then-n-eq1
returns-then-n-eq1 c = simp (eq-eqb _ _ c.if-n-eq1.true)

pub overflow_add-period : goal.overflow_add-period
overflow_add-period c = omega (arith, c.requires, c.requires.some c.if-n-eq1.false)

pub overflow_mul-period : goal.overflow_mul-period
overflow_mul-period c = omega (arith, c.requires, c.requires.some c.if-n-eq1.false)

pub overflow_sub-period : goal.overflow_sub-period
overflow_sub-period c = omega (arith, c.requires, c.requires.some c.if-n-eq1.false)

pub overflow_add-result : goal.overflow_add-result
overflow_add-result c = omega (arith, c.requires, c.requires.some c.if-n-eq1.false)

pub overflow_sub-result : goal.overflow_sub-result
overflow_sub-result c = omega (arith, c.requires, c.requires.some c.if-n-eq1.false)

pub returns : goal.returns
returns c = simp (ne_eqb _ _ c.if-n-eq1.false)
