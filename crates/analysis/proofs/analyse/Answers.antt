-- `analysis::analyse` meets its contract: it is that of its lists, which are a bank's arrays with their count.
use Rattle.bank.specs.Tested.{counted_all}
use borrow.Author.Rules.{rules}
use Rattle.analysis.proofs.analyse.Goals as goal

pub analyse-requires : goal.analyse-requires
analyse-requires g c = counted_all (search rules) (search rules)

pub returns : goal.returns
returns g c = c.analyse.ensures
