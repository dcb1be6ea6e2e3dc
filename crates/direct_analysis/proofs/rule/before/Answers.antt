-- `direct_analysis::rule::before` meets its contract: each border by its name, and the sample that it gives so near the line.
use mathlib.Core.Path.{refl}
use Prim.Native.Nat.{◌+◌, ◌-◌}
use native.Mathlib.Omega.{arith}
use lib.ListN.{length}
use lib.Ieee.{binary64}
use Rattle.border.specs.declared.rule.Place.TheVariants.{Before}
use Rattle.direct_analysis.specs.Near.{taken, nothing, wrap_before, reflect_before, reflect101_before, mirror_before, mirror101_before}
use Rattle.direct_analysis.proofs.rule.before.Goals as goal

pub returns-in-Clamp : goal.returns-in-Clamp
returns-in-Clamp c = let a = c.args in taken c.in-Clamp.is (Before a.k) a.line.now (omega arith) 0 (omega arith) refl

pub returns-in-Wrap : goal.returns-in-Wrap
returns-in-Wrap c = let a = c.args in taken c.in-Wrap.is (Before a.k) a.line.now (omega arith) (length a.line.now - 1 - a.k) (omega arith) (wrap_before (length a.line.now) a.k c.requires)

pub returns-in-Reflect : goal.returns-in-Reflect
returns-in-Reflect c = let a = c.args in taken c.in-Reflect.is (Before a.k) a.line.now (omega arith) a.k (omega arith) (reflect_before (length a.line.now) a.k c.requires)

pub returns-in-Zeros : goal.returns-in-Zeros
returns-in-Zeros c = let a = c.args in nothing c.in-Zeros.is (Before a.k) a.line.now (omega arith) binary64 refl

pub returns-in-Reflect101 : goal.returns-in-Reflect101
returns-in-Reflect101 c = let a = c.args in taken c.in-Reflect101.is (Before a.k) a.line.now (omega arith) (a.k + 1) (omega arith) (reflect101_before (length a.line.now) a.k c.requires)

pub returns-in-Mirror : goal.returns-in-Mirror
returns-in-Mirror c = let a = c.args in taken c.in-Mirror.is (Before a.k) a.line.now (omega arith) a.k (omega arith) (mirror_before (length a.line.now) a.k c.requires)

pub returns-in-Mirror101 : goal.returns-in-Mirror101
returns-in-Mirror101 c = let a = c.args in taken c.in-Mirror101.is (Before a.k) a.line.now (omega arith) (a.k + 1) (omega arith) (mirror101_before (length a.line.now) a.k c.requires)
