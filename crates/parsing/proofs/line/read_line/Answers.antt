-- `parsing::line::read_line` meets its contract: each turn goes one byte further on the way that the definition takes.
use mathlib.Core.Path.{◌≡◌, refl, sym, ◌∙◌}
use lib.ListN.{length}
use mathlib.Core.Logic.{inl, inr}
use native.Mathlib.Omega.{arith}
use Rattle.parsing.specs.Reaching.{started, ended, gone_on}
use Rattle.parsing.proofs.line.read_line.Goals as goal

pub loop-at-init : goal.loop-at-init
loop-at-init c = (started _ _ _ c.requires.0, refl)

pub keep-count-requires : goal.keep-count-requires
keep-count-requires c = omega (arith, c.loop-at.invariant.0.further, c.requires.1)

pub returns-then-closed : goal.returns-then-closed
returns-then-closed c = let l = c.loop-at in
    ended _ _ _ _ _ _ _ (gone_on _ _ _ _ _ _ _ l.invariant.0 0 c.loop-at-test.true l.invariant.1 c.keep-count.ensures c.step-phase.ensures) (sym c.if-closed.true ∙ c.closed.ensures) (inl refl)

pub loop-at-preserved : goal.loop-at-preserved
loop-at-preserved c = let l = c.loop-at in
    (gone_on _ _ _ _ _ _ _ l.invariant.0 0 c.loop-at-test.true l.invariant.1 c.keep-count.ensures c.step-phase.ensures, sym c.closed.ensures ∙ c.if-closed.false)

pub returns : goal.returns
returns c = let l = c.loop-at.invariant in rw (sym at_end) (ended _ _ _ _ _ _ _ l.0 (sym l.1) (inr c.loop-at-test.false))
  where
    at_end : c.loop-at.at ≡ length c.args.text.now
    at_end = omega (arith, c.loop-at.invariant.0.inside, c.loop-at-test.false)
