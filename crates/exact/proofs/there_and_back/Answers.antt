-- `exact::there_and_back` meets its contract by the promises of both ways over lists: a refusal leaves all as it was, and what is done is one way's work after the other's, which neither refuses.
use Rattle.std.proofs.lemmas.Result.{err_from_is_err_and}
use Rattle.std.proofs.Math.Path.{refl}
use Rattle.exact.proofs.Calls.{no_refusal, returned_refused, not_refused_there, not_refused_back, returned_done}
use Rattle.exact.proofs.there_and_back.Goals as goal

pub returns-in_err-back_answer : goal.returns-in_err-back_answer
returns-in_err-back_answer g c =
    let p = err_from_is_err_and c.from_residual.result c.from_residual.ensures.1 in
    rw (p.1, p.2) (returned_refused g.R.Real.format _ _ _ _ _ _ _ _ _ _ _ (simp g.met.R.Real.floats_length c.in_err-back_answer.ensures) (λ q. no_refusal q refl))

pub returns-in_err-analyse : goal.returns-in_err-analyse
returns-in_err-analyse g c = not_refused_there g.R.Real.format _ _ _ _ _ _ _ _ _ _ _ (simp g.met.R.Real.floats_length c.in_ok-back_answer.ensures) refl c.analyse.ensures c.in_err-analyse.was

pub returns-in_err-synthesise : goal.returns-in_err-synthesise
returns-in_err-synthesise g c =
    not_refused_back g.R.Real.format _ _ _ _ _ _ _ _ _ _ _ (simp g.met.R.Real.floats_length c.in_ok-back_answer.ensures) refl c.analyse.ensures (simp g.met.R.Real.floats_length c.clear.ensures) c.synthesise.ensures c.in_err-synthesise.was

pub returns : goal.returns
returns g c = returned_done g.R.Real.format _ _ _ _ _ _ _ _ _ _ _ (simp g.met.R.Real.floats_length c.in_ok-back_answer.ensures) refl c.analyse.ensures (simp g.met.R.Real.floats_length c.clear.ensures) c.synthesise.ensures
