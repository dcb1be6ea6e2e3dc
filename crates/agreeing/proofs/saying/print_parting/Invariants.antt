-- The text that `print_parting` has laid.
use Rattle.agreeing.specs.Agreements.{parting_text}
use Rattle.agreeing.proofs.saying.print_parting.Given as goal

abbrev pub ghost-print_by : goal.ghost-print_by
ghost-print_by a = parting_text a.lay.0.now
