-- `agreeing::work::agree_text` meets its contract: a refusal's number is printed, and else the line and the bank are those that the text stands for.
use Rattle.answering.specs.Asking.{refused, banded, said}
use Rattle.agreeing.proofs.work.agree_text.Goals as goal

pub agree_bands-requires : goal.agree_bands-requires
agree_bands-requires c = (banded c.ask.ensures c.in-Ok.is, c.requires.1, c.requires.2)

pub returns-in-Ok : goal.returns-in-Ok
returns-in-Ok c = said c.ask.ensures c.in-Ok.is c.agree_bands.ensures

pub returns-in-Err : goal.returns-in-Err
returns-in-Err c = refused c.ask.ensures c.in-Err.is c.number.ensures c.print_refusal.ensures
