-- `bands_run::run_on` has room for every answer.
use native.Mathlib.Omega.{arith}
use Rattle.answering.specs.Room.{printed_whole}
use Rattle.bands_run.proofs.run_on.Goals as goal

pub run_by-requires-clause-whole : goal.run_by-requires-clause-whole
run_by-requires-clause-whole c = λ text x printed y p e.
    let w = printed_whole p (omega (arith, e)) in (w.0, w.1, omega (arith, e, w.2))
