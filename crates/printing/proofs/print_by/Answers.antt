-- `printing::print_by` meets its contract: the first laying leaves the buffer as it was and tells the need, and where there is room the second lays the whole text.
use mathlib.Core.Path.{refl}
use Rattle.printing.specs.Tested.{roomy}
use Rattle.printing.proofs.print_by.Goals as goal

pub returns : goal.returns
returns g c = roomy refl (c.requires.1.1 _ _ _ c.lay-need.ensures) c.if-out-need.false (c.requires.1.1 _ _ _ c.lay.ensures)
