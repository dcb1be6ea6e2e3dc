-- `synthesis::synthesise` meets its contract: it is that of its lists, which are a bank's arrays with their count.
use Rattle.bank.specs.Tested.{counted_all}
use borrow.Author.Rules.{rules}
use Rattle.synthesis.proofs.synthesise.Goals as goal

pub synthesise-requires : goal.synthesise-requires
synthesise-requires g c = counted_all (search rules) (search rules)

pub returns : goal.returns
returns g c = c.synthesise.ensures
