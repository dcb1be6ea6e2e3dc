-- `exact_levels::there_and_back_levels` meets its contract by the promises of both entries: a refusal leaves all as it was, and what is done is one way's work after the other's.
use Rattle.std.proofs.Common.{◌∙◌, sym}
use Rattle.std.proofs.lemmas.Result.{err_from_is_err_and}
use Rattle.packed.specs.Tested.{not_ok}
use Rattle.exact_levels.proofs.Calls.{back_kept, went, arrived, back_given}
use Rattle.exact_levels.proofs.there_and_back_levels.Goals as goal

pub returns-in_err-levels_back_answer : goal.returns-in_err-levels_back_answer
returns-in_err-levels_back_answer c =
    let p = err_from_is_err_and c.from_residual.result c.from_residual.ensures.1 in
    rw (p.1, p.2) (back_kept _ _ _ _ _ _ _ _ _ _ _ _ _ (sym c.in_err-levels_back_answer.was ∙ c.levels_back_answer.ensures) not_ok)

-- past the tests neither way refuses
pub returns-in_err-analyse_levels : goal.returns-in_err-analyse_levels
returns-in_err-analyse_levels c =
    absurd (not_ok (sym c.in_err-analyse_levels.was ∙ went _ _ c.args.bank.lowback c.args.bank.highback _ _ _ _ _ _ _ _ _ c.levels_back_answer.ensures c.in_ok-levels_back_answer.was c.analyse_levels.ensures))

pub returns-in_err-restore_divided : goal.returns-in_err-restore_divided
returns-in_err-restore_divided c =
    absurd (not_ok (sym c.in_err-restore_divided.was
    ∙ arrived _ _ _ _ _ _ _ _ _ _ _ _ _ c.levels_back_answer.ensures c.in_ok-levels_back_answer.was c.analyse_levels.ensures c.restore_divided.ensures))

pub returns : goal.returns
returns c = back_given _ _ _ _ _ _ _ _ _ _ _ _ _ c.levels_back_answer.ensures c.in_ok-levels_back_answer.was c.analyse_levels.ensures c.restore_divided.ensures
