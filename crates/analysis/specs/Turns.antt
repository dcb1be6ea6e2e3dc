-- Laws of eight places a turn: the sums of places from i on are places of the band.
use Rattle.std.specs.Prelude.{◌≡◌, List, ℕ, ◌+◌, ◌*◌, ◌≤◌, ◌<◌, length, Float}
use Rattle.std.proofs.Common.{ap, ◌∙◌, arith}
use Rattle.std.specs.Float.{Format, nan}
use Rattle.numbers.specs.Words.{at, tab, written, placed}
use Rattle.numbers.specs.Write.{get_or-tab}
use Rattle.numbers.specs.Runs.{written_run}
use Rattle.summing.specs.Sums.{tap_sum}
use Rattle.summing.specs.Works.{sums_at}
use Rattle.analysis.specs.Works.{band_of}

pub sums_at_lem : (f : Format) (taps line : List Float) (F i n : ℕ) {r : List Float} → r ≡ tab (sums_at f taps line (2 * i) F) n → (q : ℕ) → q < n → at r q ≡ band_of f taps F line (i + q)
sums_at_lem f taps line F i n e q l =
    let s : 2 * i + 2 * q ≡ 2 * (i + q) = omega arith in
    ap (λ (z : List Float). at z q) e ∙ get_or-tab (sums_at f taps line (2 * i) F) n q nan l ∙ ap (λ (k : ℕ). tap_sum f taps line k F) s

-- eight places more of a band, the k-th eight of it
pub turn_run : (f : Format) (taps line : List Float) (F k : ℕ) (x : List Float) {l l' sums : List Float} → 8 * k + 8 ≤ length x
    → l ≡ written (band_of f taps F line) (8 * k) x → sums ≡ tab (sums_at f taps line (2 * (8 * k)) F) 8 → l' ≡ placed (at sums) (8 * k) 8 l
    → l' ≡ written (band_of f taps F line) (8 * (k + 1)) x
turn_run f taps line F k x {sums = sums} room was e h =
    let on : 8 * k + 8 ≡ 8 * (k + 1) = omega arith in
    written_run (band_of f taps F line) (8 * k) 8 x (at sums) room was (sums_at_lem f taps line F (8 * k) 8 e) h
    ∙ ap (λ (m : ℕ). written (band_of f taps F line) m x) on
