-- `packed::depth::part_of` meets its contract: the deepest level leaves the last approximations, and a level's details come after those of the levels above it.
use Rattle.bank.specs.Lengths.{pairs}
use Rattle.packed.specs.Tested.{deepest_part, level_part}
use mathlib.Core.Path.{◌≡◌, sym, ap, ◌∙◌}
use native.Mathlib.Omega.{arith}
use Prim.Native.Nat.{◌≤◌}
use Rattle.packed.specs.Lengths.{level_start, level_count}
use Rattle.packed.proofs.depth.part_of.Goals as goal
use Rattle.packed.proofs.depth.part_of.Goals.{After-down-above}

pub returns-then-level-eq0 : goal.returns-then-level-eq0
returns-then-level-eq0 c = let a = c.args in
    let w = deepest_part a.n a.f a.levels c.max.result c.down-deepest.result c.requires.split c.max.ensures c.down-deepest.ensures in
    let z : 0 ≡ a.level = sym c.if-level-eq0.true in
    (w.0 ∙ ap (level_start a.n a.f a.levels) z, w.1 ∙ ap (level_count a.n a.f a.levels) z)

-- the level above
found : (c : After-down-above) → let a = c.args in
    (c.down-above.result.details ≡ level_start a.n a.f a.levels a.level) × (pairs c.down-above.result.line a.f ≡ level_count a.n a.f a.levels a.level) × (c.down-above.result.line ≤ a.n)
found c = let a = c.args in level_part a.n a.f a.levels a.level c.down-above.result c.requires (omega (arith, c.if-level-eq0.false)) c.down-above.ensures

pub dwt_length-requires : goal.dwt_length-requires
dwt_length-requires c = let s = c.requires.split.sound in record { taps = s.taps; limit = omega (arith, (found (goal.at.dwt_length-requires c).After-down-above).2, s.limit) }

pub returns : goal.returns
returns c = let w = found (goal.at.returns c).After-down-above in (w.0, c.dwt_length.ensures ∙ w.1)
