-- `bank::sizes::analysis_scratch` meets its contract: a length of the bands passed the tests, and so it is within the limit.
use Rattle.std.proofs.Common.{sym, ◌∙◌}
use Rattle.bank.specs.Lengths.{pairs}
use Rattle.bank.specs.Tested.{sized, sound_pairs}
use Rattle.bank.proofs.sizes.analysis_scratch.Goals as goal

pub padded_length-requires : goal.padded_length-requires
padded_length-requires c = let a = c.args in let s = sized a.n a.f (pairs a.n a.f) _ (sym c.band_length.ensures.answer ∙ c.in_ok-m.was) in
    sound_pairs (record { taps = s.ready.taps; limit = s.ready.limit }) s.given
