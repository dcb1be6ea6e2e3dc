-- Four lists of taps, two for the way there and two for the way back, as whole numbers: their sums, and the condition under which they restore. Definitions only.
-- Taps and lines are functions of their place; 2 g taps are in use.
use Rattle.std.specs.Prelude.{◌≡◌, cond, ℕ, ◌+◌, ◌-◌, ◌*◌, ◌<◌, ltb, eqb, ℤ, pos, ◌+ℤ◌, ◌*ℤ◌}
use Rattle.whole.specs.Sums.{integers, sum}
use Rattle.synthesis.specs.Sums.{meets}

-- place i of a band: tap k times place 2 i + k of the line
abbrev pub analysed_ℤ : ℕ → (ℕ → ℤ) → (ℕ → ℤ) → ℕ → ℤ
analysed_ℤ F w x i = sum integers F (λ k. w k *ℤ x (2 * i + k))

-- what pair i brings to padded place P
abbrev pub joins_ℤ : ℕ → (ℕ → ℤ) → (ℕ → ℤ) → (ℕ → ℤ) → (ℕ → ℤ) → ℕ → ℕ → ℤ
joins_ℤ F low high a d P i = cond (meets F P i) (high (P - 2 * i) *ℤ d i +ℤ low (P - 2 * i) *ℤ a i) (pos 0)

-- w moved on by c places, with nothing in front
unfoldable pub moved : (ℕ → ℤ) → ℕ → ℕ → ℤ
moved w c y = cond (ltb y c) (pos 0) (w (y - c))

-- over the synthesis taps s at places e, e + 2 and so on: each times the analysis tap of a that lies y - c further on
abbrev pub share : ℕ → (ℕ → ℤ) → (ℕ → ℤ) → ℕ → ℕ → ℕ → ℤ
share g s a e y c = sum integers g (λ t. s (2 * t + e) *ℤ moved a c (2 * t + e + y))

-- low with low plus high with high
abbrev pub class : ℕ → (ℕ → ℤ) → (ℕ → ℤ) → (ℕ → ℤ) → (ℕ → ℤ) → ℕ → ℕ → ℕ → ℤ
class g sl sh al ah e y c = share g sl al e y c +ℤ share g sh ah e y c

-- over the even places, and again over the odd ones: S at distance zero, and 0 at every other
pub record Restores (g : ℕ) (S : ℤ) (sl sh al ah : ℕ → ℤ) : Type 0 where
  pub classes : (e y c : ℕ) → e < 2 → class g sl sh al ah e y c ≡ cond (eqb y c) S (pos 0)
