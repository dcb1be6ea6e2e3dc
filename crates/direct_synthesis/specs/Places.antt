-- Laws of places that are gathered: a sum after so many pairs, all pairs of a place, four places in flight, and places behind those that are done, whose old numbers still stand.
use Rattle.std.specs.Prelude.{◌≡◌, ℕ, ◌+◌, ◌-◌, ◌*◌, ◌/◌, ◌≤◌, ◌<◌, length, set, Float}
use Rattle.std.proofs.Common.{sym, ◌∙◌}
use Rattle.std.proofs.Math.Path.{ap}
use mathlib.Core.List.{List}
use native.Mathlib.Omega.{arith}
use Rattle.std.specs.Float.{Format}
use Rattle.std.specs.Float.Ieee.{nan}
use Rattle.numbers.specs.Words.{at, written, replaced}
use Rattle.numbers.specs.Write.{replaced_start, replaced_step, written_full, get_or-placed_behind}
use Rattle.numbers.specs.Places.{get_or-written_behind}
use Rattle.numbers.specs.Runs.{written_run}
use Rattle.gathering.specs.Pairs.{onto}
use Rattle.gathering.specs.Works.{gathered}
use Rattle.synthesis.specs.Sums.{joined}
use Rattle.synthesis.specs.Lines.{synthesised}
use Rattle.synthesis.specs.Works.{Joinable, place_of}
use Rattle.synthesis.specs.Runs.{all_gathered, one_more}

module _ (f : Format) (F : ℕ) (low high a d : List Float) where
  -- place 2 k + e after the pairs from k to i
  abbrev pub Come : ℕ → ℕ → Float → ℕ → Float → Type 0
  Come k e held i z = z ≡ gathered f (at low) (at high) (at a) (at d) (F - 2 + e) k held (i - k)

  pub come_start : (k e : ℕ) (held : Float) → Come k e held k held
  unfolding gathered
  come_start k e held = let none : 0 ≡ k - k = omega arith in ap (gathered f (at low) (at high) (at a) (at d) (F - 2 + e) k held) none

  pub come_more : (k e i j : ℕ) (held : Float) {z : Float} → k ≤ i → 2 * i + j ≡ 2 * k + F → 2 ≤ j → Come k e held i z
      → {t : ℕ} → t ≡ j - 2 + e → Come k e held (i + 1) (onto f (at low) (at high) t (at a i) (at d i) z)
  come_more k e i j held h l b c {t} q = one_more f F low high a d k e i j t held h l b q c

  -- all of them
  pub come_all : (old : List Float) (k e i j : ℕ) {z : Float} → Joinable F (length a) (length d) (length old) → e < 2 → 2 * k + e < length old → 2 * i + j ≡ 2 * k + F → j < 2
      → {p : ℕ} → p ≡ 2 * k + e → Come k e (at old p) i z → z ≡ place_of f F low high a d old p
  unfolding place_of
  come_all old k e i j jo b l m last {p} here c =
      let half : i - k ≡ F / 2 = omega (arith, jo.even) in
      c
      ∙ ap (gathered f (at low) (at high) (at a) (at d) (F - 2 + e) k (at old p)) half
      ∙ all_gathered f F low high a d (length old) k e (at old p) jo b l
      ∙ ap (λ (q : ℕ). joined f F (at low) (at high) (at a) (at d) (q + (F - 2)) (at old p) (length a)) (sym here)

  module _ (old : List Float) where
    abbrev whole : ℕ → Float
    whole = place_of f F low high a d old

    -- four places from s on
    pub four_placed : (s : ℕ) {x y z u : Float} → s + 4 ≤ length old → x ≡ whole s → y ≡ whole (s + 1) → z ≡ whole (s + 2) → u ≡ whole (s + 3)
        → set (set (set (set old s x) (s + 1) y) (s + 2) z) (s + 3) u ≡ replaced whole s 4 old
    four_placed s room ex ey ez eu =
        let all : s + 3 + 1 - s ≡ 4 = omega arith in
        let one = replaced_step whole s s old (omega arith) (omega arith) (replaced_start whole s old) ex in
        let two = replaced_step whole s (s + 1) old (omega arith) (omega arith) one ey in
        let three = replaced_step whole s (s + 2) old (omega arith) (omega arith) (two ∙ ap (λ (n : ℕ). replaced whole s n old) (step 1)) ez in
        replaced_step whole s (s + 3) old (omega arith) (omega arith) (three ∙ ap (λ (n : ℕ). replaced whole s n old) (step 2)) eu
        ∙ ap (λ (n : ℕ). replaced whole s n old) all
      where
        step : (n : ℕ) → s + n + 1 - s ≡ s + (n + 1) - s
        step n = omega arith

    -- a place behind those that are done has its old number still
    still : (s p : ℕ) {l : List Float} → l ≡ written whole s old → s ≤ p → place_of f F low high a d l p ≡ whole p
    unfolding place_of
    still s p e h = ap (λ (z : Float). joined f F (at low) (at high) (at a) (at d) (p + (F - 2)) z (length a)) (ap (λ (x : List Float). at x p) e ∙ get_or-written_behind whole s old p nan h)

    -- four places behind the first 2 k
    pub four_more : (k : ℕ) {l r : List Float} → 2 * k + 4 ≤ length old → l ≡ written whole (2 * k) old → r ≡ replaced (place_of f F low high a d l) (2 * k) 4 l → r ≡ written whole (2 * (k + 2)) old
    four_more k {l} room e q =
        let s = 2 * k in
        let there : s + 4 ≡ 2 * (k + 2) = omega arith in
        written_run whole s 4 old (λ j. place_of f F low high a d l (s + j)) room e (λ j b. still s (s + j) e (omega arith)) q ∙ ap (λ (n : ℕ). written whole n old) there

    -- one place more of a run from s on
    pub place_more : (s p : ℕ) {l : List Float} {v : Float} → s ≤ p → p < length old → l ≡ replaced whole s (p - s) old → v ≡ place_of f F low high a d l p → set l p v ≡ replaced whole s (p + 1 - s) old
    unfolding place_of
    place_more s p h room e q =
        replaced_step whole s p old h room e
        (q ∙ ap (λ (z : Float). joined f F (at low) (at high) (at a) (at d) (p + (F - 2)) z (length a))
        (ap (λ (x : List Float). at x p) e ∙ get_or-placed_behind (λ k. whole (s + k)) s (p - s) old p nan (omega arith) (omega arith)))

    -- a run to the end, behind the first s places
    pub every_place : (s p : ℕ) {y l : List Float} → y ≡ written whole s old → s ≤ p → p ≤ length old → length old ≤ p → l ≡ replaced (place_of f F low high a d y) s (p - s) y
        → l ≡ synthesised f F low high a d old
    unfolding synthesised place_of
    every_place s p {y} e h b t q =
        let there : s + (p - s) ≡ p = omega arith in
        written_full whole p old
        (written_run whole s (p - s) old (λ j. place_of f F low high a d y (s + j)) (omega arith) e (λ j l. still s (s + j) e (omega arith)) q ∙ ap (λ (n : ℕ). written whole n old) there)
        b t
