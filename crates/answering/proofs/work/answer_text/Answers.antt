-- `answering::work::answer_text` meets its contract: a refusal's number is printed, and else the line and the bank are those that the text stands for.
use Rattle.answering.specs.Asking.{refused, banded, said}
use Rattle.answering.proofs.work.answer_text.Goals as goal

pub answer_bands-requires : goal.answer_bands-requires
answer_bands-requires c = (banded c.ask.ensures c.in-Ok.is, c.requires.1)

pub returns-in-Ok : goal.returns-in-Ok
returns-in-Ok c = said c.ask.ensures c.in-Ok.is c.answer_bands.ensures

pub returns-in-Err : goal.returns-in-Err
returns-in-Err c = refused c.ask.ensures c.in-Err.is c.number.ensures c.print_refusal.ensures
