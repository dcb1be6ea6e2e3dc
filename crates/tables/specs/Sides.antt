-- Laws of a table's sides: one that is not too large keeps to each limit.
use Rattle.std.specs.Prelude.{◌≡◌, false, ◌||◌, ℕ, ◌*◌, ◌≤◌, ltb}
use Rattle.std.proofs.Common.{ltb-false}
use Rattle.numbers.specs.Words.{longest, largest}
use Rattle.numbers.specs.Tests.{neither}
use Rattle.tables.specs.Tables.{too_large}

pub within_limits : (w h : ℕ) → too_large w h ≡ false → (w ≤ longest) × (h ≤ longest) × (w * h ≤ largest)
unfolding too_large
within_limits w h e =
    let p = neither (ltb longest w) (ltb longest h || ltb largest (w * h)) e in
    let q = neither (ltb longest h) (ltb largest (w * h)) p.1 in
    (ltb-false longest w p.0, ltb-false longest h q.0, ltb-false largest (w * h) q.1)
