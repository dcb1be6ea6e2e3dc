-- Laws of which pairs reach a place: those whose F places hold it, each by one of F taps.
use Rattle.std.specs.Prelude.{◌≡◌, true, false, ℕ, ◌+◌, ◌-◌, ◌*◌, ◌≤◌, ◌<◌, leb, ltb}
use Rattle.std.proofs.Common.{arith, le-leb, lt-ltb, le-ltb, leb-true, ltb-true}
use Rattle.std.proofs.lemmas.Bool.{lt-leb}
use Rattle.numbers.specs.Tests.{both}
use Rattle.synthesis.specs.Sums.{meets}

pub meets_yes : (F P i : ℕ) → 2 * i ≤ P → P < 2 * i + F → meets F P i ≡ true
meets_yes F P i h k = simp (le-leb (2 * i) P h, lt-ltb P (2 * i + F) k)

pub meets_before : (F P i : ℕ) → P < 2 * i → meets F P i ≡ false
meets_before F P i h = simp (lt-leb (2 * i) P h)

pub meets_past : (F P i : ℕ) → 2 * i + F ≤ P → meets F P i ≡ false
meets_past F P i h = simp (le-leb (2 * i) P (omega arith), le-ltb P (2 * i + F) h)

-- the tap by which a pair reaches a place is one of F
pub reached : (F P i : ℕ) → meets F P i ≡ true → P - 2 * i < F
reached F P i e =
    let p = both (leb (2 * i) P) (ltb P (2 * i + F)) e in
    let h = leb-true (2 * i) P p.0 in
    let k = ltb-true P (2 * i + F) p.1 in
    omega arith
