-- The law of both loops over taps: where a place's samples all lie in the line, the border has no say, and the sum over the samples is the band's.
use Rattle.std.specs.Prelude.{◌≡◌, refl, List, ℕ, ◌+◌, ◌-◌, ◌*◌, ◌≤◌, length, Float}
use Rattle.std.proofs.Common.{ap, ◌∙◌, arith}
use Rattle.std.specs.Float.{Format}
use Rattle.numbers.specs.Words.{at}
use Rattle.border.specs.declared.Border.{Border}
use Rattle.analysis.specs.Lines.{padded_at}
use Rattle.analysis.specs.Taps.{dot_same}
use Rattle.direct_analysis.specs.Works.{ruled_at, line_at}
use Rattle.direct_analysis.specs.Near.{in_line}

pub lies_in : (w : Format) (taps : List Float) (f : ℕ) (b : Border) (line : List Float) (i : ℕ) → 2 ≤ f → f ≤ 2 * i + 2 → 2 * i + 2 ≤ length line
    → line_at w taps f line i ≡ ruled_at w taps f b line i
lies_in w taps f b line i two front end =
    dot_same w (at taps) (at taps) (λ j. at line (2 * i + 2 - f + j)) (λ j. padded_at f b line (2 * i + j)) f (λ j l. refl)
    (λ j l.
    let e : 2 * i + 2 - f + j ≡ 2 * i + j - (f - 2) = omega arith in
    ap (at line) e ∙ in_line b line (f - 2) (2 * i + j) (omega arith) (omega arith))
