-- `answering::asking::ask` meets its contract: what parsing answered tells what the text stands for, and there is always room for its numbers.
use Rattle.std.proofs.lemmas.Result.{err_from_is_err_and}
use Rattle.answering.specs.Answering.{not_parsed, answered}
use Rattle.answering.proofs.asking.ask.Goals as goal

pub returns-in_err-request : goal.returns-in_err-request
returns-in_err-request c =
    let p = err_from_is_err_and c.from_residual.result c.from_residual.ensures.1 in
    rw (p.1, p.2) (not_parsed _ _ _ _ c.parse.ensures c.requires c.in_err-request.was)

pub returns : goal.returns
returns c = let e = c.ask_request.ensures in answered _ _ _ _ c.parse.ensures c.requires c.in_ok-request.was e.0 e.1
