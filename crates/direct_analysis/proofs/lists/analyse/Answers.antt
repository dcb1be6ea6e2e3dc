-- `direct_analysis::lists::analyse` meets its contract. Where the answer is done every test passed, which gives the work what it asks for; on any other answer nothing was written.
use Rattle.direct_analysis.specs.Tested.{direct, passed_taps}
use mathlib.Core.Path.{sym}
use Rattle.direct_analysis.proofs.lists.analyse.Goals as goal

pub bands-requires : goal.bands-requires
bands-requires c = let d = sym c.in_ok-direct_answer.ensures in
    direct _ _ _ _ _ _ (c.requires (passed_taps _ _ _ _ d)) d
