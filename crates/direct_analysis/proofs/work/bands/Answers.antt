-- `direct_analysis::work::bands` meets its contract: three runs of places, one behind another, are both bands.
use lib.Ieee.{binary64}
use Rattle.direct_analysis.specs.Runs.{three_runs}
use Rattle.direct_analysis.proofs.work.bands.Goals as goal

pub returns : goal.returns
returns c = let a = c.args in (
  three_runs binary64 a.low.now a.f a.border a.line.now c.within-i.result _ a.approx.now c.requires.ready c.within-i.ensures.0 c.within-i.ensures.1 c.requires.approxed c.requires.approxed c.ruled.ensures.0 c.within-i.ensures.2 c.ruled-2.ensures.0,
  three_runs binary64 a.high.now a.f a.border a.line.now c.within-i.result _ a.detail.now c.requires.ready c.within-i.ensures.0 c.within-i.ensures.1 c.requires.approxed c.requires.detailed c.ruled.ensures.1 c.within-i.ensures.3 c.ruled-2.ensures.1,
)
