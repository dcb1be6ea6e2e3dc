-- `border::rule::way_of` meets its contract: as far as Reflect101 goes it is Mirror101.
use Rattle.border.specs.Ways.{goes_by, reflect101_way, mirror101_way}
use borrow.Author.Rules.{rules}
use Rattle.border.proofs.rule.way_of.Goals as goal

pub returns-in-Reflect101 : goal.returns-in-Reflect101
returns-in-Reflect101 c = (goes_by c.in-Reflect101.is (reflect101_way c.args.n c.requires.0 c.requires.1 _ (mirror101_way c.args.n c.requires.0 c.requires.1 _ c.laps-in-Reflect101.ensures)), search rules)
