-- `analysis::lists::analyse` meets its contract. Where the answer is done every test passed, which gives the work what it asks for; on any other answer nothing was written.
use Rattle.analysis.specs.Tested.{analysing}
use mathlib.Core.Path.{sym}
use Rattle.analysis.proofs.lists.analyse.Goals as goal

pub line_bands-requires : goal.line_bands-requires
line_bands-requires g c = let p = analysing _ _ _ _ _ (sym c.in_ok-analysis_answer.ensures) in
    (c.requires p.ready.taps, p)
