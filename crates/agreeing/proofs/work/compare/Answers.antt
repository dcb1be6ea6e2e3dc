-- `agreeing::work::compare` meets its contract: both engines' analyses are done, and what is compared are the bands of the definition.
use Rattle.agreeing.specs.Agreeing.{compared}
use Rattle.agreeing.proofs.work.compare.Goals as goal

pub returns : goal.returns
returns c = let a = c.args in
    compared a.bank a.line.now a.approx.now a.detail.now a.scratch.now a.approx2.now a.detail2.now c.requires.0 c.requires.1 c.requires.2 c.analyse.ensures c.analyse-2.ensures c.parting.ensures
