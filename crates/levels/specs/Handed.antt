-- Laws of what is handed out after analysis: a level's part of the packed buffer is that level's details, and level 0's is the last line, since each band has its part's length.
use Rattle.std.specs.Prelude.{◌≡◌, length, drop, Float}
use Rattle.std.proofs.Math.Path.{refl, sym, ap}
use Rattle.std.proofs.Common.{◌∙◌, eq-or-lt_of_le, le_of_suc-le-suc, arith, take_all, drop_at}
use mathlib.Core.List.{List, ◌++◌, append_assoc}
use Rattle.std.proofs.Math.Logic.{⊎_elim}
use Prim.Native.Nat.{ℕ, zero, suc, ◌<◌}
use Rattle.std.proofs.Math.ListN.{take, length-append}
use Rattle.std.proofs.Math.Seq.{take_at}
use Rattle.std.specs.Float.{Format}
use Rattle.border.specs.declared.Border.{Border}
use Rattle.analysis.specs.Lines.{band}
use Rattle.analysis.specs.Taps.{length-band}
use Rattle.packed.specs.Lengths.{levels_of, line_after, details_to}
use Rattle.packed.specs.Answers.{part_at}
use Rattle.levels.specs.Lines.{line_of, details_of, packed_line}
use Rattle.levels.specs.Steps.{length-line}

module _ (g : Format) (low high : List Float) (F : ℕ) (b : Border) (s : List Float) where
  abbrev line : ℕ → List Float
  line k = line_of g low F b s k

  abbrev details : ℕ → List Float
  details k = details_of g low high F b s k

  length_level : (k : ℕ) → length (band g high F b (line k)) ≡ line_after (length s) F (suc k)
  unfolding line_of
  length_level k = length-band g high F b (line k) ∙ sym (length-band g low F b (line k)) ∙ length-line g low F b s (suc k)

  pub length-details : (k : ℕ) → length (details k) ≡ details_to (length s) F k
  unfolding details_of details_to
  length-details zero = refl
  length-details (suc k) = length-append (details k) (band g high F b (line k)) ∙ omega (arith, length-details k, length_level k)

  -- whatever stands behind the details
  among : (levels k : ℕ) (behind : List Float) → k < levels → take (line_after (length s) F (suc k)) (drop (details_to (length s) F k) (details levels ++ behind)) ≡ band g high F b (line k)
  unfolding details_of
  among zero k behind h = absurd (omega arith)
  among (suc levels) k behind h =
      ap (λ (l : List Float). take (line_after (length s) F (suc k)) (drop (details_to (length s) F k) l)) (append_assoc (details levels) (band g high F b (line levels)) behind)
      ∙ ⊎_elim
      (λ e. ap (λ (j : ℕ). take (line_after (length s) F (suc j)) (drop (details_to (length s) F j) (details levels ++ (band g high F b (line levels) ++ behind)))) e
      ∙ ap (take (line_after (length s) F (suc levels))) (drop_at (details levels) (band g high F b (line levels) ++ behind) (details_to (length s) F levels) (length-details levels))
      ∙ take_at (band g high F b (line levels)) behind (line_after (length s) F (suc levels)) (length_level levels)
      ∙ ap (λ (j : ℕ). band g high F b (line j)) (sym e))
      (λ l. among levels k (band g high F b (line levels) ++ behind) l)
      (eq-or-lt_of_le (le_of_suc-le-suc h))

  pub details_there : (levels k : ℕ) → k < levels_of levels → part_at (length s) F levels (packed_line g low high F b s (levels_of levels)) (suc k) ≡ band g high F b (line k)
  details_there levels k h = among (levels_of levels) k (line (levels_of levels)) h

  pub line_there : (levels : ℕ) → part_at (length s) F levels (packed_line g low high F b s (levels_of levels)) 0 ≡ line (levels_of levels)
  line_there levels =
      let n = levels_of levels in
      ap (take (line_after (length s) F n)) (drop_at (details n) (line n) (details_to (length s) F n) (length-details n))
      ∙ take_all (line_after (length s) F n) (line n) (omega (arith, length-line g low F b s n))
