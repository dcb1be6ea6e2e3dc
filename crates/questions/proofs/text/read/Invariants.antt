-- `read` ends: each turn leaves less of the text.
use Rattle.std.proofs.Common.{length}
use Rattle.questions.proofs.text.read.Given as goal

abbrev pub decreases-loop-c : goal.decreases-loop-c
decreases-loop-c l = length l.rest
