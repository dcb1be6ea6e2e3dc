-- `bank::work::mirror_to` meets its contract: the loop writes the mirrored taps from the front, one a turn.
use Rattle.std.proofs.Common.{ap, sym, ◌∙◌, ◌-◌, ℕ, arith, length}
use Rattle.numbers.specs.Words.{at}
use Rattle.numbers.specs.Write.{written_start, written_step}
use Rattle.bank.specs.Banks.{signed}
use Rattle.bank.proofs.work.mirror_to.Goals as goal

pub loop-j-init : goal.loop-j-init
loop-j-init g c = written_start _ _

pub loop-j-preserved : goal.loop-j-preserved
loop-j-preserved g c = let r = g.met.R.Real in let x = c.args.low.now in let j = c.loop-j.j in
    simp (r.floats_set)
    (written_step _ _ (g.R.Real.floats c.args.high.now) (omega (arith, r.floats_length c.args.high.now)) c.loop-j.invariant
    (c.signed.ensures ∙ ap (signed j) (ap g.R.Real.float c.index-low-f.is ∙ sym (r.floats_at x (length x - 1 - j) _ (omega arith)) ∙ ap (λ (n : ℕ). at (g.R.Real.floats x) (n - 1 - j)) (sym (r.floats_length x)))))
