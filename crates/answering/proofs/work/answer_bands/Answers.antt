-- `answering::work::answer_bands` meets its contract: the parts are as long as the bands, so the analysis is done and each part holds its band when it is printed.
use Rattle.answering.specs.Banding.{lent_fronts, bands_printed}
use Rattle.answering.proofs.work.answer_bands.Goals as goal

pub returns : goal.returns
returns c = let a = c.args in
    bands_printed a.bank a.line.now _ _ a.scratch.now (lent_fronts a.approx.now a.detail.now c.requires.0 c.requires.1) _ _ c.requires.0
    c.analyse.ensures c.print_bands.ensures
