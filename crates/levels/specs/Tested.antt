-- Laws of the tests: an answer is done where every test passed, which gives the work what it asks for.
use Rattle.std.specs.Prelude.{◌≡◌, refl, ℕ, ltb, Ok}
use Rattle.std.proofs.Common.{ltb-false, lit<}
use Rattle.numbers.specs.Tests.{passed}
use Rattle.packed.specs.Lengths.{levels_of, levels_scratch}
use Rattle.packed.specs.Answers.{number_of, held_of}
use Rattle.packed.specs.Tested.{both_done, filled}
use Rattle.levels.specs.Analyses.{answer_of}
use Rattle.levels.specs.Works.{Splitting}

-- k is the number of levels by another name
pub splitting : (n f levels k p s : ℕ) → k ≡ levels_of levels → answer_of n f levels p s ≡ Ok tt → Splitting n f k p s
unfolding answer_of
splitting n f levels k p s z e =
    let q = both_done (held_of n f levels p) _ e in
    let t = passed number_of (ltb s (levels_scratch n f)) q.1 (lit< tt) refl in
    record { packs = filled n f levels k p z q.0; room = ltb-false s (levels_scratch n f) t.0 }
