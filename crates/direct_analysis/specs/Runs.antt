-- Laws of the runs of places: two places more, and three runs one behind another, which are the whole band.
use Rattle.std.specs.Prelude.{◌≡◌, refl, List, ℕ, ◌+◌, ◌-◌, ◌*◌, ◌/◌, ◌≤◌, ◌<◌, length, set, Float}
use Rattle.std.proofs.Common.{ap, ◌∙◌, arith}
use Rattle.std.specs.Float.{Format}
use Rattle.numbers.specs.Words.{tab, written, replaced}
use Rattle.numbers.specs.Write.{written_start, written_full, replaced_step}
use Rattle.numbers.specs.Runs.{written_run}
use Rattle.border.specs.declared.Border.{Border}
use Rattle.bank.specs.Lengths.{pairs, Analysable}
use Rattle.analysis.specs.Sums.{analysed}
use Rattle.analysis.specs.Lines.{band}
use Rattle.direct_analysis.specs.Works.{ruled_at, line_sum, line_at}
use Rattle.direct_analysis.specs.Sums.{lies_in}

-- places i and i + 1
pub two_more : {A : Type 0} (g : ℕ → A) (s i : ℕ) (x : List A) {l : List A} {u v : A} → s ≤ i → i + 1 < length x → l ≡ replaced g s (i - s) x → u ≡ g i → v ≡ g (i + 1)
    → set (set l i u) (i + 1) v ≡ replaced g s (i + 2 - s) x
two_more g s i x h room e eu ev =
    let q : i + 1 + 1 - s ≡ i + 2 - s = omega arith in
    replaced_step g s (i + 1) x (omega arith) room (replaced_step g s i x h (omega arith) e eu) ev ∙ ap (λ (n : ℕ). replaced g s n x) q

-- two samples further on is the next place
pub next_place : (w : Format) (taps : List Float) (f : ℕ) (line : List Float) (i : ℕ) → f ≤ 2 * i + 2 → line_sum w taps line (2 * i + 2 - f + 2) f ≡ line_at w taps f line (i + 1)
next_place w taps f line i h = let q : 2 * i + 2 - f + 2 ≡ 2 * (i + 1) + 2 - f = omega arith in ap (λ (k : ℕ). line_sum w taps line k f) q

-- a run behind those before it
on : {A : Type 0} (g : ℕ → A) (s e : ℕ) (x : List A) (h : ℕ → A) {l r : List A} → s ≤ e → e ≤ length x → ((i : ℕ) → s ≤ i → i < e → h i ≡ g i) → l ≡ written g s x
    → r ≡ replaced h s (e - s) l → r ≡ written g e x
on g s e x h low room same before run =
    let q : s + (e - s) ≡ e = omega arith in
    written_run g s (e - s) x (λ k. h (s + k)) (omega arith) before (λ k l. same (s + k) (omega arith) (omega arith)) run ∙ ap (λ (n : ℕ). written g n x) q

-- the places that reach in front of the line, those that lie in it, and those behind them
pub three_runs : (w : Format) (taps : List Float) (f : ℕ) (b : Border) (line : List Float) (i m : ℕ) (x : List Float) {y z r : List Float} → Analysable (length line) f
    → f / 2 - 1 ≤ i → 2 * i ≤ length line → m ≡ pairs (length line) f → length x ≡ pairs (length line) f
    → y ≡ replaced (ruled_at w taps f b line) 0 (f / 2 - 1 - 0) x → z ≡ replaced (line_at w taps f line) (f / 2 - 1) (i - (f / 2 - 1)) y → r ≡ replaced (ruled_at w taps f b line) i (m - i) z
    → r ≡ band w taps f b line
unfolding band analysed
three_runs w taps f b line i m x ready front end many long ey ez er =
    let g = ruled_at w taps f b line in
    let s = f / 2 - 1 in
    let two = ready.taps.two in
    let even = ready.taps.even in
    let enough = ready.enough in
    let first = on g 0 s x g (omega arith) (omega (arith, long)) (λ i h l. refl) (written_start g x) ey in
    let second = on g s i x (line_at w taps f line) front (omega (arith, long)) (λ i h l. lies_in w taps f b line i two (omega (arith, even)) (omega arith)) first ez in
    written_full g m x (on g i m x g (omega (arith, many)) (omega (arith, many, long)) (λ i h l. refl) second er) (omega (arith, many, long)) (omega (arith, many, long))
    ∙ ap (tab g) long
