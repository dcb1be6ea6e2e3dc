-- Laws of the taps: synthesis reads no tap but the first F, since a pair reaches a place by one of those or not at all.
use Rattle.std.specs.Prelude.{◌≡◌, List, length, Float}
use Rattle.std.proofs.Math.Path.{refl, ap}
use Rattle.std.proofs.Common.{◌∙◌}
use Prim.Native.Nat.{ℕ, zero, suc, ◌+◌, ◌-◌, ◌*◌, ◌<◌}
use Rattle.std.specs.Float.{Format}
use Rattle.std.specs.Float.Ieee.{add, mul}
use Rattle.numbers.specs.Words.{at}
use Rattle.numbers.specs.Places.{tab_same}
use Rattle.numbers.specs.Tests.{cond_same}
use Rattle.gathering.specs.Pairs.{onto}
use Rattle.synthesis.specs.Sums.{meets, joined}
use Rattle.synthesis.specs.Meets.{reached}
use Rattle.synthesis.specs.Lines.{synthesised}

module _ (f : Format) (F : ℕ) (low low' high high' : ℕ → Float)
    (g : (j : ℕ) → j < F → low j ≡ low' j) (h : (j : ℕ) → j < F → high j ≡ high' j) where
  onto_same : (j : ℕ) → j < F → (a d z : Float) → onto f low high j a d z ≡ onto f low' high' j a d z
  onto_same j l a d z =
      ap (λ (t : Float). add f (add f z (mul f t d)) (mul f (low j) a)) (h j l)
      ∙ ap (λ (t : Float). add f (add f z (mul f (high' j) d)) (mul f t a)) (g j l)

  joined_same : (a d : ℕ → Float) (P : ℕ) (held : Float) (n : ℕ) → joined f F low high a d P held n ≡ joined f F low' high' a d P held n
  unfolding joined
  joined_same a d P held zero = refl
  joined_same a d P held (suc i) =
      let z = joined_same a d P held i in
      cond_same (meets F P i)
      (λ e. ap (onto f low high (P - 2 * i) (a i) (d i)) z ∙ onto_same (P - 2 * i) (reached F P i e) (a i) (d i) (joined f F low' high' a d P held i))
      z

pub synthesised_same : (f : Format) (F : ℕ) (low low' high high' a d out : List Float)
    → ((j : ℕ) → j < F → at low j ≡ at low' j) → ((j : ℕ) → j < F → at high j ≡ at high' j)
    → synthesised f F low high a d out ≡ synthesised f F low' high' a d out
unfolding synthesised
synthesised_same f F low low' high high' a d out g h =
    tab_same _ _ (length out) (λ p l. joined_same f F (at low) (at low') (at high) (at high') g h (at a) (at d) (p + (F - 2)) (at out p) (length a))
