-- Laws of a plane's lengths: its sides are short enough for every product of two of them.
use Rattle.std.specs.Prelude.{◌≡◌, ℕ, ◌*◌, ◌≤◌}
use Rattle.std.proofs.Common.{mul-le-mul, arith}
use Rattle.bank.specs.Lengths.{pairs}
use Rattle.planes.specs.Works.{Sided}

-- a side has no more pairs than half a line and 32
pub few_pairs : {w h f : ℕ} → Sided w h f → (pairs w f ≤ 524320) × (pairs h f ≤ 524320)
few_pairs s = (omega (arith, s.across, s.taps.most), omega (arith, s.down, s.taps.most))

-- m pairs of a row, and so many columns
pub row_area : {w h f m : ℕ} → Sided w h f → m ≡ pairs w f → (m ≤ 524320) × (m * h ≤ 524320 * 1048576)
row_area {m = m} s e = let few : m ≤ 524320 = omega (arith, e, few_pairs s) in (few, mul-le-mul few s.down)
