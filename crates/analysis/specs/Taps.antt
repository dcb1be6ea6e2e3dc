-- Laws of bands: taps and lines that agree where they are in use have one band, and over a padded line the sum over taps is the band's.
use Rattle.std.specs.Prelude.{◌≡◌, refl, List, ℕ, zero, suc, ◌+◌, ◌*◌, ◌<◌, length, Float}
use Rattle.std.proofs.Common.{ap, ◌∙◌, arith}
use Rattle.std.specs.Float.{nan, Format}
use Rattle.std.specs.Float.Ieee.{add, mul}
use Rattle.numbers.specs.Words.{at, tab}
use Rattle.numbers.specs.Write.{length-tab}
use Rattle.numbers.specs.Places.{tab_same, get_or-written_in}
use Rattle.border.specs.declared.Border.{Border}
use Rattle.summing.specs.Sums.{dot, tap_sum}
use Rattle.analysis.specs.Sums.{analysed}
use Rattle.analysis.specs.Lines.{padded_at, padded_into, band}
use Rattle.analysis.specs.Works.{band_of}
use Rattle.bank.specs.Lengths.{pairs, padded_length}

-- taps and lines that agree at every place in use have one sum
pub dot_same : (f : Format) (tap tap' x y : ℕ → Float) (n : ℕ) → ((j : ℕ) → j < n → tap j ≡ tap' j) → ((j : ℕ) → j < n → x j ≡ y j)
    → dot f tap x n ≡ dot f tap' y n
unfolding dot
dot_same f tap tap' x y zero g h = refl
dot_same f tap tap' x y (suc n) g h =
    ap (λ (v : Float). add f v (mul f (tap n) (x n))) (dot_same f tap tap' x y n (λ j l. g j (omega arith)) (λ j l. h j (omega arith)))
    ∙ ap (λ (t : Float). add f (dot f tap' y n) (mul f t (x n))) (g n (omega arith))
    ∙ ap (λ (v : Float). add f (dot f tap' y n) (mul f (tap' n) v)) (h n (omega arith))

-- a band reads no tap but the first F
pub band_same : (f : Format) (taps taps' : List Float) (F : ℕ) (b : Border) (s : List Float) → ((j : ℕ) → j < F → at taps j ≡ at taps' j)
    → band f taps F b s ≡ band f taps' F b s
unfolding band analysed
band_same f taps taps' F b s g =
    tab_same (analysed f F (at taps) (padded_at F b s)) (analysed f F (at taps') (padded_at F b s)) (pairs (length s) F)
    (λ i l. dot_same f (at taps) (at taps') (λ j. padded_at F b s (2 * i + j)) (λ j. padded_at F b s (2 * i + j)) F g (λ j k. refl))

pub length-band : (f : Format) (taps : List Float) (F : ℕ) (b : Border) (s : List Float) → length (band f taps F b s) ≡ pairs (length s) F
unfolding band
length-band f taps F b s = length-tab (analysed f F (at taps) (padded_at F b s)) (pairs (length s) F)

-- the bands of the padded line at the front of the scratch are the bands of the samples
pub of_samples_lem : (f : Format) (b : Border) (taps s line scratch : List Float) (F : ℕ) → line ≡ padded_into F b s scratch
    → tab (band_of f taps F line) (pairs (length s) F) ≡ band f taps F b s
unfolding band tap_sum analysed
of_samples_lem f b taps s line scratch F e =
    tab_same (band_of f taps F line) (analysed f F (at taps) (padded_at F b s)) (pairs (length s) F)
    (λ i l. dot_same f (at taps) (at taps) (λ j. at line (2 * i + j)) (λ j. padded_at F b s (2 * i + j)) F (λ j k. refl)
    (λ j k. ap (λ (y : List Float). at y (2 * i + j)) e
    ∙ get_or-written_in (padded_at F b s) (padded_length (length s) F) scratch (2 * i + j) nan (omega arith)))
