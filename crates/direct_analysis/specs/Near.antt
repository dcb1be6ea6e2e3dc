-- Laws of the border rule near a line: k + 1 places in front of n samples, or k behind the last, with k + 3 at most n, each border gives the sample that the code takes, since no remainder is more than one step away.
use Rattle.std.specs.Prelude.{◌≡◌, List, ℕ, ◌+◌, ◌-◌, ◌*◌, ◌%◌, ◌≤◌, ◌<◌, Float}
use Rattle.std.proofs.Common.{sym, ◌∙◌, mod-eq_of_lt, lt-ltb, le-ltb, ne_eqb}
use Rattle.std.proofs.Math.Path.{ap}
use Rattle.std.proofs.Math.Nat.{mod-eq-sub-mod}
use native.Mathlib.Omega.{arith}
use Rattle.std.proofs.Math.ListN.{length}
use Rattle.std.specs.Float.{Format, nan}
use Rattle.std.specs.Float.Ieee.{of_bits}
use Rattle.numbers.specs.Words.{plus_zero, at}
use Rattle.numbers.specs.Places.{get_or_any}
use Rattle.numbers.specs.Tests.{literal_zero}
use Rattle.border.specs.declared.Border.{Border}
use Rattle.border.specs.declared.Border.TheVariants.{Wrap, Reflect, Reflect101, Mirror, Mirror101}
use Rattle.border.specs.declared.rule.Place.{Place}
use Rattle.border.specs.declared.rule.Place.TheVariants.{Before, At}
use Rattle.border.specs.Rule.{Sample, Zero, outside, source, value_of, padded}
use Rattle.border.specs.Reach.{Past}
use Rattle.border.specs.Rules.{source_past, padded_line}
use Rattle.border.specs.Mirrors.{mirror_reflect, mirror101_reflect101}

module _ (n k : ℕ) (h : k + 3 ≤ n) where
  -- ---- in front
  low : k % n ≡ k
  low = mod-eq_of_lt (omega arith)

  pub wrap_before : outside Wrap (Before k) n ≡ Sample (n - 1 - k)
  wrap_before = ap (λ (r : ℕ). Sample (n - 1 - r)) low

  pub reflect_before : outside Reflect (Before k) n ≡ Sample k
  reflect_before = let e : n - 1 - (n - 1 - k % n) ≡ k = omega (arith, low) in ap Sample e

  pub reflect101_before : outside Reflect101 (Before k) n ≡ Sample (k + 1)
  reflect101_before = simp (ne_eqb n 1 (λ e. omega arith))

  pub mirror_before : outside Mirror (Before k) n ≡ Sample k
  mirror_before = mirror_reflect (Before k) n (omega arith) (omega arith) ∙ reflect_before

  pub mirror101_before : outside Mirror101 (Before k) n ≡ Sample (k + 1)
  mirror101_before = mirror101_reflect101 (Before k) n (omega arith) (omega arith) (λ l. h) ∙ reflect101_before

  -- ---- behind
  over : (n + k) % n ≡ k
  over = let e : n + k - n ≡ k = omega arith in mod-eq-sub-mod (omega arith) ∙ ap (λ (r : ℕ). r % n) e ∙ low

  pub wrap_behind : outside Wrap (At (n + k)) n ≡ Sample k
  wrap_behind = ap Sample over

  pub reflect_behind : outside Reflect (At (n + k)) n ≡ Sample (n - 1 - k)
  reflect_behind = ap (λ (r : ℕ). Sample (n - 1 - r)) over

  pub reflect101_behind : outside Reflect101 (At (n + k)) n ≡ Sample (n - 2 - k)
  reflect101_behind = let e : 2 * (n - 1) - (n + k) ≡ n - 2 - k = omega arith in simp (ne_eqb n 1 (λ e. omega arith), e)

  pub mirror_behind : outside Mirror (At (n + k)) n ≡ Sample (n - 1 - k)
  mirror_behind = mirror_reflect (At (n + k)) n (omega arith) (omega arith) ∙ reflect_behind

  pub mirror101_behind : outside Mirror101 (At (n + k)) n ≡ Sample (n - 2 - k)
  mirror101_behind = mirror101_reflect101 (At (n + k)) n (omega arith) (omega arith) (λ l. omega arith) ∙ reflect101_behind

-- ---- what a line has there, by a border's name
module _ {b b' : Border} (named : b ≡ b') (p : Place) (line : List Float) (past : Past p (length line)) where
  there : source b p (length line) ≡ outside b' p (length line)
  there = source_past b p (length line) past ∙ ap (λ (c : Border). outside c p (length line)) named

  pub taken : (j : ℕ) → j < length line → outside b' p (length line) ≡ Sample j → at line j ≡ value_of plus_zero line (source b p (length line))
  taken j l e = get_or_any line j nan plus_zero l ∙ ap (value_of plus_zero line) (sym (there ∙ e))

  pub nothing : (w : Format) → outside b' p (length line) ≡ Zero → of_bits w 0 ≡ value_of plus_zero line (source b p (length line))
  nothing w e = literal_zero w ∙ ap (value_of plus_zero line) (sym (there ∙ e))

-- ---- a place of the padded line, in front of the line, in it, and behind it
module _ (b : Border) (line : List Float) (left q : ℕ) where
  pub in_front : q < left → {r : Float} → r ≡ value_of plus_zero line (source b (Before (left - 1 - q)) (length line)) → r ≡ padded plus_zero b line left q
  unfolding padded
  in_front h e = e ∙ simp (lt-ltb q left h)

  pub in_line : left ≤ q → q - left < length line → at line (q - left) ≡ padded plus_zero b line left q
  in_line h l =
      let e : left + (q - left) ≡ q = omega arith in
      get_or_any line (q - left) nan plus_zero l ∙ sym (padded_line plus_zero b line left (q - left) l) ∙ ap (padded plus_zero b line left) e

  pub behind_line : left ≤ q → length line ≤ q - left → {r : Float} → r ≡ value_of plus_zero line (source b (At (length line + (q - left - length line))) (length line)) → r ≡ padded plus_zero b line left q
  unfolding padded
  behind_line h l e =
      let i : length line + (q - left - length line) ≡ q - left = omega arith in
      e ∙ ap (λ (j : ℕ). value_of plus_zero line (source b (At j) (length line))) i ∙ simp (le-ltb q left h)
