-- The text that `print_bands` has laid.
use Rattle.texts.specs.Prints.{bands_text}
use Rattle.printing.proofs.print_bands.Given as goal

abbrev pub ghost-print_by : goal.ghost-print_by
ghost-print_by a = bands_text a.lay.0.now a.lay.1.now
