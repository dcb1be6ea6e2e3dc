-- Laws of a loop over the taps, for one sum and for those of several places: as it begins, one tap more, and as it ends it has the sum.
use Rattle.std.specs.Prelude.{◌≡◌, List, ℕ, ◌+◌, ◌*◌, ◌≤◌, replicate, Float}
use Rattle.std.proofs.Math.Path.{refl, sym, ap}
use Rattle.std.proofs.Common.{◌∙◌, add-one, arith}
use Rattle.std.specs.Float.{Format, nan}
use Rattle.std.specs.Float.Ieee.{add, mul, of_bits}
use Rattle.numbers.specs.Words.{at, plus_zero, tab}
use Rattle.numbers.specs.Write.{get_or-tab}
use Rattle.numbers.specs.Places.{tab_same}
use Rattle.numbers.specs.Tests.{literal_zero}
use Rattle.summing.specs.Sums.{dot, tap_sum}
use Rattle.summing.specs.Works.{tapped, sums_at}

module _ (f : Format) (tap x : ℕ → Float) where
  pub dot_start : of_bits f 0 ≡ dot f tap x 0
  unfolding dot
  dot_start = literal_zero f

  pub dot_step : (j : ℕ) {sum v r : Float} → sum ≡ dot f tap x j → v ≡ x j → r ≡ add f sum (mul f (tap j) v) → r ≡ dot f tap x (j + 1)
  unfolding dot
  dot_step j {v = v} e q h =
      h ∙ ap (λ (z : Float). add f z (mul f (tap j) v)) e ∙ ap (λ (u : Float). add f (dot f tap x j) (mul f (tap j) u)) q ∙ sym (ap (dot f tap x) (add-one j))

  pub dot_end : (j n : ℕ) {sum : Float} → sum ≡ dot f tap x j → j ≤ n → n ≤ j → sum ≡ dot f tap x n
  dot_end j n e h k = let q : j ≡ n = omega arith in rw (← q) e

-- over a line that holds the samples
module _ (f : Format) (taps line : List Float) (from : ℕ) where
  pub sum_start : of_bits f 0 ≡ tap_sum f taps line from 0
  unfolding tap_sum
  sum_start = dot_start f (at taps) (λ j. at line (from + j))

  -- of no tap it is +0
  pub sum_none : plus_zero ≡ tap_sum f taps line from 0
  unfolding tap_sum dot
  sum_none = refl

  pub sum_step : (j : ℕ) {sum r : Float} → sum ≡ tap_sum f taps line from j → r ≡ add f sum (mul f (at taps j) (at line (from + j))) → r ≡ tap_sum f taps line from (j + 1)
  unfolding tap_sum
  sum_step j e h = dot_step f (at taps) (λ j. at line (from + j)) j e refl h

  pub sum_end : (j n : ℕ) {sum : Float} → sum ≡ tap_sum f taps line from j → j ≤ n → n ≤ j → sum ≡ tap_sum f taps line from n
  unfolding tap_sum
  sum_end j n e h k = dot_end f (at taps) (λ j. at line (from + j)) j n e h k

-- ---- several places
module _ (f : Format) (taps line : List Float) (from : ℕ) where
  -- eight zeros that code writes
  pub sums_start : replicate 8 (of_bits f 0) ≡ tab (sums_at f taps line from 0) 8
  unfolding tab tap_sum dot
  sums_start = ap (replicate 8) (literal_zero f)

  -- eight times +0
  pub sums_none : replicate 8 plus_zero ≡ tab (sums_at f taps line from 0) 8
  unfolding tab tap_sum dot
  sums_none = refl

  pub sums_step : (j n : ℕ) {x y : List Float} → x ≡ tab (sums_at f taps line from j) n → y ≡ tab (tapped f x (at taps j) line (from + j)) n → y ≡ tab (sums_at f taps line from (j + 1)) n
  sums_step j n {x} {y} e h =
      h ∙ tab_same (tapped f x (at taps j) line (from + j)) (sums_at f taps line from (j + 1)) n
      (λ q l.
      let s : from + j + 2 * q ≡ from + 2 * q + j = omega arith in
      let was : at x q ≡ sums_at f taps line from j q = ap (λ (z : List Float). at z q) e ∙ get_or-tab (sums_at f taps line from j) n q nan l in
      sum_step f taps line (from + 2 * q) j was (ap (λ (k : ℕ). add f (at x q) (mul f (at taps j) (at line k))) s))

  -- by a tap that was read
  pub sums_step_by : (j n : ℕ) {x y : List Float} {t : Float} → t ≡ at taps j → x ≡ tab (sums_at f taps line from j) n → y ≡ tab (tapped f x t line (from + j)) n
      → y ≡ tab (sums_at f taps line from (j + 1)) n
  sums_step_by j n {x} q e h = sums_step j n e (h ∙ ap (λ (t : Float). tab (tapped f x t line (from + j)) n) q)

  pub sums_end : (j F n : ℕ) {x : List Float} → x ≡ tab (sums_at f taps line from j) n → j ≤ F → F ≤ j → x ≡ tab (sums_at f taps line from F) n
  sums_end j F n e h k = let q : j ≡ F = omega arith in rw (← q) e
