-- A level's part lies in the packed buffer, where the tests are done.
use Rattle.std.specs.Prelude.{Ok}
use Rattle.std.proofs.Common.{◌≡◌, ℕ, ◌+◌, ◌≤◌, arith}
use Rattle.packed.specs.Answers.{held_of}
use Rattle.packed.specs.Lengths.{levels_of, level_start, level_count}
use Rattle.packed.specs.Follow.{inside}
use Rattle.packed.specs.Tested.{held_done}
use Rattle.level_parts.specs.Parts.{handing_of}
use Rattle.level_parts.specs.Tested.{handing_done}

pub held_within : (n f levels level p : ℕ) → held_of n f levels p ≡ Ok tt → level ≤ levels_of levels → level_start n f levels level + level_count n f levels level ≤ p
held_within n f levels level p e h =
    let d = held_done n f levels p e in
    omega (arith, inside n f levels level d.0.sound.taps.two h, d.1)

pub handed_within : (n f levels level p : ℕ) → handing_of n f levels p level ≡ Ok tt → level_start n f levels level + level_count n f levels level ≤ p
handed_within n f levels level p e =
    let d = handing_done n f levels p level e in
    omega (arith, inside n f levels level d.0.split.sound.taps.two d.0.named, d.1)
