-- `packed::asked_answer` meets its contract: the tests are the definition's, in its order, and going down tells whether each level has a line to split.
use Rattle.std.proofs.Common.{◌∙◌, sym}
use Rattle.bank.specs.Tested.{good_taps}
use Rattle.packed.proofs.asked_answer.Goals as goal

pub down-requires : goal.down-requires
down-requires c = record { taps = good_taps _ (sym c.bad_taps.ensures ∙ c.if-bad_taps.false); limit = c.if-n-gt-LONGEST.false }
