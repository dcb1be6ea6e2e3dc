-- `parsing::parse_lists` meets its contract: the first look tells whether the lists are a request's and how many numbers there are, and writes nowhere; the second lays them.
use Rattle.parsing.specs.Decides.{mode_inside}
use Rattle.parsing.specs.Parsing.{not_lists, no_room, all_read}
use Rattle.parsing.proofs.parse_lists.Goals as goal

pub read_lists-requires : goal.read_lists-requires
read_lists-requires c = (mode_inside _ _ c.requires.1, c.requires.0)

pub returns-in-Err : goal.returns-in-Err
returns-in-Err c = not_lists _ _ _ c.requires.0 c.requires.1 c.read_lists.ensures c.in-Err.is

pub returns-then-have-need : goal.returns-then-have-need
returns-then-have-need c = no_room _ _ _ c.requires.0 c.requires.1 c.read_lists.ensures c.in-Ok.is c.if-have-need.true

pub read_lists-requires-2 : goal.read_lists-requires-2
read_lists-requires-2 c = (mode_inside _ _ c.requires.1, c.requires.0)

pub returns : goal.returns
returns c = all_read _ _ _ c.requires.0 c.requires.1 c.read_lists.ensures c.read_lists-2.ensures c.in-Ok.is c.if-have-need.false
