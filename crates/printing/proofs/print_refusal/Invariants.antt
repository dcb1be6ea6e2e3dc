-- The text that `print_refusal` has laid.
use Rattle.texts.specs.Prints.{refusal_text}
use Rattle.printing.proofs.print_refusal.Given as goal

abbrev pub ghost-print_by : goal.ghost-print_by
ghost-print_by a = refusal_text a.lay.0.now
