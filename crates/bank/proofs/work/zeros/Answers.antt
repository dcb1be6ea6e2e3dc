-- `bank::work::zeros` meets its contract: every place holds +0.
use Rattle.bank.proofs.work.zeros.Goals as goal

pub returns : goal.returns
returns g c = simp (g.met.R.Real.floats_replicate, c.zero.ensures)
