-- `agree_run::run_on` has room for every answer.
use native.Mathlib.Omega.{arith}
use Rattle.agreeing.specs.Room.{agreed_whole}
use Rattle.agree_run.proofs.run_on.Goals as goal

pub run_by-requires-clause-whole : goal.run_by-requires-clause-whole
run_by-requires-clause-whole c = λ text x printed y p e.
    let w = agreed_whole p (omega (arith, e)) in (w.0, w.1, omega (arith, e, w.2))
