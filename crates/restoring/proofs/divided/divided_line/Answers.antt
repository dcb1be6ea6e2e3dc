-- `restoring::divided::divided_line` meets its contract: where restoring is refused the part is empty, and else it is the front of the buffer that holds the line.
use lib.Ieee.{binary64}
use lib.ListN.{length}
use mathlib.Core.Path.{◌∙◌, ap, refl, sym}
use native.Mathlib.Omega.{arith}
use Rattle.numbers.specs.Tests.{renewed}
use Rattle.packed.specs.Lengths.{levels_of}
use Rattle.dividing.specs.Divisions.{divided}
use Rattle.dividing.specs.Divisors.{length-divided}
use Rattle.restoring.specs.Dividings.{number_of, restored_divided}
use Rattle.restoring.specs.Tested.{restoring}
use Rattle.restoring.specs.Handed.{none_out, line_out, fronted}
use Rattle.restoring.specs.TestedDivided.{divided_done, divided_refused}
use Rattle.restoring.specs.Works.{Restoring}
use Rattle.restoring.proofs.divided.divided_line.Goals as goal
use Rattle.restoring.proofs.divided.divided_line.Goals.{In-Ok}

pub returns-in_default : goal.returns-in_default
returns-in_default c = let a = c.args in
    let e = c.restore_divided-answer.ensures.answer in
    let h = c.in_default.not-Ok tt in
    let o = none_out _ (restored_divided binary64 a.s a.bank.taps a.bank.lowback a.bank.highback a.packed.now a.n (levels_of a.levels)) a.levels a.first a.second
    (divided_refused _ _ _ _ _ _ _ refl (λ q. h (e ∙ q))) in
    record { handed = o.0; lies = o.1 }

-- every test passed
all : (c : In-Ok) → let a = c.args in
    Restoring a.n a.bank.taps (levels_of a.levels) (length a.packed.now) (length a.first.now) (length a.second.now)
all c =
    let a = c.args in
    restoring a.n a.bank.taps a.levels (levels_of a.levels) _ _ _ refl (divided_done a.n a.bank.taps a.s a.levels _ _ _ (sym c.restore_divided-answer.ensures.answer ∙ c.in-Ok.is)).1

pub front-requires : goal.front-requires
front-requires c = let a = c.args in
    let f = fronted a.levels (all (goal.at.front-requires c).In-Ok) in
    record { ready = f.ready; room = omega (arith, f.room, c.restore_divided-answer.auto.first); space = omega (arith, f.space, c.restore_divided-answer.auto.second) }

pub returns : goal.returns
returns c = let a = c.args in
    let p = c.restore_divided-answer.ensures in
    let z = c.in-Ok.is in
    let o = line_out (divided binary64 a.s) (length-divided binary64 a.s) a.bank.lowback a.bank.highback a.bank.taps a.packed.now a.n a.levels a.first a.second (all (goal.at.returns c).In-Ok)
    (renewed _ _ (ap number_of z) p.firsts) (renewed _ _ (ap number_of z) p.seconds) (ap number_of (sym p.answer ∙ z)) c.front.ensures.numbers c.front.ensures.lies in
    record { handed = o.0; lies = o.1 }
