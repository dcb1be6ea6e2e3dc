-- Laws of the tests with a divisor: an answer is done where the divisor and restoring pass, and every other answer is a refusal.
use Rattle.std.specs.Prelude.{◌≡◌, Result, Ok, Err, ⊤, Float}
use Rattle.std.proofs.Math.Path.{refl, ap}
use Rattle.std.proofs.Common.{sym, arith}
use Rattle.std.proofs.Math.Bool.{false}
use Prim.Native.Nat.{ℕ, ◌<◌}
use Rattle.std.proofs.Math.Dec.{lit<}
use Rattle.std.specs.Float.Ieee.{binary64}
use Rattle.numbers.specs.Tests.{passed, refused}
use Rattle.bank.specs.Lengths.{bad_taps}
use Rattle.packed.specs.declared.LevelsError.{LevelsError}
use Rattle.packed.specs.Answers.{when_ok}
use Rattle.packed.specs.Tested.{not_ok, done_alone}
use Rattle.dividing.specs.Divisions.{bad_divisor}
use Rattle.restoring.specs.declared.divided.DividedError.{DividedError}
use Rattle.restoring.specs.declared.divided.DividedError.TheVariants.{Divisor, Refused}
use Rattle.restoring.specs.Restorings.{answer_of}
use Rattle.restoring.specs.Dividings as Dividings

-- 0 is the number of done alone
pub divided_done_alone : (r : Result ⊤ DividedError) → Dividings.number_of r ≡ 0 → r ≡ Ok tt
divided_done_alone (Ok done) z = refl
divided_done_alone (Err Divisor) z = absurd (omega arith)
divided_done_alone (Err (Refused x)) z = absurd (not_ok (done_alone (Err x) z))

module _ (n f : ℕ) (s : Float) (levels p a b : ℕ) where
  abbrev lengths : Result ⊤ LevelsError
  lengths = answer_of n f levels p a b

  -- done where restoring is, by a divisor that is none of the bad ones
  pub divided_done : Dividings.answer_of n f s levels p a b ≡ Ok tt → (bad_divisor binary64 s ≡ false) × (lengths ≡ Ok tt)
  unfolding Dividings.answer_of
  divided_done e =
      let t = passed Dividings.number_of (bad_taps f) e (lit< tt) refl in
      let u = passed Dividings.number_of (bad_divisor binary64 s) t.1 (lit< tt) refl in
      (u.0, go lengths u.1)
    where
      go : (r : Result ⊤ LevelsError) → when_ok {B = Result ⊤ DividedError} r (Ok tt) (λ e. Err (Refused e)) ≡ Ok tt → r ≡ Ok tt
      go (Ok done) e = refl
      go (Err x) e = absurd (not_ok e)

  -- every other answer has a number above 0
  pub divided_refused : {r : Result ⊤ DividedError} → r ≡ Dividings.answer_of n f s levels p a b → (r ≡ Ok tt → ⊥) → 0 < Dividings.number_of r
  divided_refused e h = refused Dividings.number_of divided_done_alone _ h

  -- so that 0 is the number of done alone
  pub divided_alone : (r : Result ⊤ DividedError) → r ≡ Dividings.answer_of n f s levels p a b → Dividings.number_of r ≡ 0 → r ≡ Ok tt
  divided_alone r e z = divided_done_alone r z
