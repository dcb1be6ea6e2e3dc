-- Two arrays of eight fit into memory, since no number is larger than eight bytes.
use Rattle.std.specs.Prelude.{ℕ, ◌+◌, ◌*◌, ◌-◌, ◌%◌, ◌<◌, ◌≤◌, max}
use Rattle.std.proofs.Common.{arith}
use Rattle.std.proofs.Math.Nat.{mod-le}
use prog.Memory.{up}

up_le : (k e : ℕ) → up k e ≤ e + k
up_le k e = omega (arith, mod-le (k - e % k) k)

pub bands_fit : (a n : ℕ) → a ≤ 8 → n ≤ 8 → up (max a (max a 1)) (up a (up a 0 + 8 * n) + 8 * n) < 9223372036854775808
bands_fit a n h k = omega (arith, up_le a 0, up_le a (up a 0 + 8 * n), up_le (max a (max a 1)) (up a (up a 0 + 8 * n) + 8 * n))
