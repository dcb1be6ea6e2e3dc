-- `border::pad::copy_within` meets its contract: the part that is written holds the numbers, and what lies around it stays.
use native.Mathlib.Omega.{arith}
use Rattle.border.specs.Inside.{moved_part}
use Rattle.border.proofs.pad.copy_within.Goals as goal

pub returns : goal.returns
returns g c = let a = c.args in let r = g.met.R.Real in
    simp (c.copy_within.ensures.after, r.floats_append, r.floats_take, r.floats_drop)
    (moved_part (g.R.Real.floats a.s.now) a.from a.n a.to (omega (arith, c.requires.line, r.floats_length a.s.now)))
