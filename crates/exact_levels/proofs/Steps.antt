-- Laws of restoring through every level: from the deepest level up each joined line, trimmed, is that level's line bit for bit, so the next join is that of one level there and back (`through_exact`).
use Rattle.std.specs.Prelude.{◌≡◌, false, take, ℤ, Float}
use Rattle.std.proofs.Common.{sym, ◌∙◌, length-take-le, get_or-take, ext_get_or}
use Rattle.std.proofs.Math.Path.{ap, subst}
use mathlib.Core.List.{List}
use Prim.Native.Nat.{ℕ, zero, suc, ◌+◌, ◌-◌, ◌≤◌, ◌<◌}
use native.Mathlib.Omega.{arith}
use Rattle.std.proofs.Math.ListN.{length}
use Rattle.std.proofs.Math.Seq.{take_all}
use Rattle.std.specs.Float.{nan, Format}
use Rattle.numbers.specs.Words.{cleared}
use Rattle.border.specs.declared.Border.{Border}
use Rattle.bank.specs.Lengths.{pairs, line_length}
use Rattle.analysis.specs.Lines.{band}
use Rattle.analysis.specs.Taps.{length-band}
use Rattle.synthesis.specs.Lines.{synthesised}
use Rattle.packed.specs.Lengths.{levels_of, line_after, too_short}
use Rattle.packed.specs.Answers.{part_at}
use Rattle.levels.specs.Lines.{line_of, packed_line}
use Rattle.levels.specs.Steps.{length-line}
use Rattle.levels.specs.Handed.{details_there, line_there}
use Rattle.dividing.specs.Divisions.{divided}
use Rattle.restoring.specs.Lines.{level_join, joined_by}
use Rattle.exact_levels.specs.Through.{whole_line, ThroughPremises, Regained, LevelsRestoreExactly}
use Rattle.exact_levels.proofs.Once.{rejoined_line, once}
use Rattle.exact_levels.proofs.Lines.{line_premised, line_floats}

module _ (g : Format) (b : Border) (F : ℕ) (low high s : List Float) (S : Float) (levels : ℕ) (z v : List ℤ) (A : ℕ → ℕ)
    (x : ThroughPremises g F low high b s S levels z v A) (some : 1 ≤ levels) (allowed : too_short (length s) F levels ≡ false) where
  abbrev line : ℕ → List Float
  line k = line_of g low F b s k

  abbrev numbers : ℕ → List ℤ
  numbers k = whole_line F z b v k

  abbrev packed : List Float
  packed = packed_line g low high F b s levels

  -- the line after j joins
  abbrev joins : ℕ → List Float
  joins j = joined_by (divided g S) g F low high packed (length s) levels j

  -- the line that k levels leave, there and back over one more
  abbrev back : ℕ → List Float
  back k = divided g S (rejoined_line g F low high b (line k))

  back_gives : (k : ℕ) → k < levels → Regained g b (numbers k) (back k)
  back_gives k h = once g b F low high (line k) S z (numbers k) (A k) (line_premised g b F low high s S levels z v A x allowed k h) x.divisor x.above

  back_trimmed : (k : ℕ) → suc k < levels → take (line_after (length s) F (suc k)) (back (suc k)) ≡ line (suc k)
  back_trimmed k h =
      let m = line_after (length s) F (suc k) in
      let r = back_gives (suc k) h in
      let e : length (numbers (suc k)) ≡ m = (line_premised g b F low high s S levels z v A x allowed (suc k) h).count ∙ length-line g low F b s (suc k) in
      let t : length (take m (back (suc k))) ≡ m = length-take-le m (back (suc k)) (omega (arith, r.long, e)) in
      ext_get_or nan (take m (back (suc k))) (line (suc k)) (t ∙ sym (length-line g low F b s (suc k)))
      (λ i l.
      let j : i < m = omega (arith, l, t) in
      let inside : i < length (numbers (suc k)) = omega (arith, j, e) in
      get_or-take m (back (suc k)) i nan j ∙ r.each i inside ∙ sym (line_floats g b F low high s S levels z v A x allowed k (omega (arith, h)) i inside))

  -- ---- the packed buffer's parts
  as_many : levels_of levels ≡ levels
  as_many = omega (arith, some)

  last_there : part_at (length s) F levels packed 0 ≡ line levels
  last_there = ap (λ (k : ℕ). part_at (length s) F levels (packed_line g low high F b s k) 0) (sym as_many) ∙ line_there g low high F b s levels ∙ ap line as_many

  part_there : (k : ℕ) → k < levels → part_at (length s) F levels packed (suc k) ≡ band g high F b (line k)
  part_there k h = ap (λ (j : ℕ). part_at (length s) F levels (packed_line g low high F b s j) (suc k)) (sym as_many) ∙ details_there g low high F b s levels k (omega (arith, h))

  -- ---- one join more, of a line that begins with the level's approximations
  join_back : (k : ℕ) (l : List Float) → take (line_after (length s) F (suc k)) l ≡ line (suc k) → level_join g F low high l (band g high F b (line k)) ≡ rejoined_line g F low high b (line k)
  unfolding line_of line_after
  join_back k l e =
      let d = band g high F b (line k) in
      let m : length d ≡ pairs (length (line k)) F = length-band g high F b (line k) in
      let n : length d ≡ line_after (length s) F (suc k) = m ∙ ap (λ (i : ℕ). pairs i F) (length-line g low F b s k) in
      ap (λ (i : ℕ). synthesised g F low high (take i l) d (cleared (line_length (length d) F))) n
      ∙ ap (λ (a : List Float). synthesised g F low high a d (cleared (line_length (length d) F))) e
      ∙ ap (λ (i : ℕ). synthesised g F low high (band g low F b (line k)) d (cleared (line_length i F))) m

  joined_back : (j k : ℕ) → j + suc k ≡ levels → take (line_after (length s) F (suc k)) (joins j) ≡ line (suc k) → joins (suc j) ≡ back k
  unfolding joined_by
  joined_back j k e t =
      let there : levels - j ≡ suc k = omega arith in
      ap (λ (i : ℕ). divided g S (level_join g F low high (joins j) (part_at (length s) F levels packed i))) there
      ∙ ap (λ (d : List Float). divided g S (level_join g F low high (joins j) d)) (part_there k (omega arith))
      ∙ ap (divided g S) (join_back k (joins j) t)

  trimmed : (j k : ℕ) → j + suc k ≡ levels → take (line_after (length s) F (suc k)) (joins j) ≡ line (suc k)
  unfolding joined_by
  trimmed zero k e =
      let q : levels ≡ suc k = omega arith in
      let l = last_there ∙ ap line q in
      ap (take (line_after (length s) F (suc k))) l ∙ take_all (line_after (length s) F (suc k)) (line (suc k)) (omega (arith, length-line g low F b s (suc k)))
  trimmed (suc j) k e =
      ap (take (line_after (length s) F (suc k))) (joined_back j (suc k) (omega arith) (trimmed j (suc k) (omega arith))) ∙ back_trimmed k (omega arith)

  -- ---- the last join is that of the line itself
  all_back : Regained g b v (joins levels)
  unfolding whole_line
  all_back =
      let j = levels - 1 in
      let e : j + 1 ≡ levels = omega arith in
      let q : levels ≡ suc j = omega arith in
      subst (λ (l : List Float). Regained g b v l) (sym (ap joins q ∙ joined_back j 0 e (trimmed j 0 e))) (back_gives 0 some)

pub through_exact : (g : Format) → LevelsRestoreExactly g
through_exact g b F low high s S levels z v A x some allowed = all_back g b F low high s S levels z v A x some allowed
