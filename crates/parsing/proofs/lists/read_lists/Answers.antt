-- `parsing::lists::read_lists` meets its contract: each line is read where the one before ended, and laid onto the part behind it.
use Rattle.parsing.specs.Threes.{low_open, high_open, samples_open, more_behind, lists_read}
use Rattle.parsing.proofs.lists.read_lists.Goals as goal

pub returns-in-Err : goal.returns-in-Err
returns-in-Err c = rw c.three.ensures (low_open _ _ _ c.read_line.ensures c.in-Err.is)

pub returns-in-Err-read_line : goal.returns-in-Err-read_line
returns-in-Err-read_line c = rw c.three-in-Err-read_line.ensures (high_open _ _ _ c.read_line.ensures c.in-Ok.is c.min-a.ensures c.read_line-2.ensures c.in-Err-read_line.is)

pub returns-in-Err-read_line-2 : goal.returns-in-Err-read_line-2
returns-in-Err-read_line-2 c = rw c.three-in-Err-read_line-2.ensures (samples_open _ _ _ c.read_line.ensures c.in-Ok.is c.min-a.ensures c.read_line-2.ensures c.in-Ok-read_line.is c.min-b.ensures c.read_line-3.ensures c.in-Err-read_line-2.is)

pub returns-then-samples-text : goal.returns-then-samples-text
returns-then-samples-text c = rw c.three-read.ensures (more_behind _ _ _ c.read_line.ensures c.in-Ok.is c.min-a.ensures c.read_line-2.ensures c.in-Ok-read_line.is c.min-b.ensures c.read_line-3.ensures c.in-Ok-read_line-2.is c.if-samples-text.true)

pub returns : goal.returns
returns c = rw c.three-read.ensures (lists_read _ _ _ c.read_line.ensures c.in-Ok.is c.min-a.ensures c.read_line-2.ensures c.in-Ok-read_line.is c.min-b.ensures c.read_line-3.ensures c.in-Ok-read_line-2.is c.if-samples-text.false)
