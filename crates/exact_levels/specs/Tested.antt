-- Laws of the tests: where every test passes both ways are done; the answer is that of the first way that refuses, and done where neither does.
use Rattle.std.specs.Prelude.{◌≡◌, false, ◌⊎◌, ℕ, ◌≤◌, ◌<◌, Result, Ok, Err, ⊤, Float}
use Rattle.std.proofs.Math.Path.{refl}
use Rattle.std.proofs.Common.{sym}
use Rattle.std.proofs.Math.Logic.{inl, inr}
use borrow.Author.Tests.{eq-eqb, le-ltb}
use Rattle.std.specs.Float.{binary64}
use Rattle.numbers.specs.Words.{longest}
use Rattle.numbers.specs.Tests.{refused}
use Rattle.bank.specs.Lengths.{GoodTaps}
use Rattle.bank.specs.Tested.{taps_pass}
use Rattle.packed.specs.declared.LevelsError.{LevelsError}
use Rattle.packed.specs.Lengths.{levels_of, too_short, packed_length, levels_scratch, restoring_length}
use Rattle.packed.specs.Answers as Answers
use Rattle.packed.specs.Tested.{not_ok, done_alone}
use Rattle.levels.specs.Analyses as Analyses
use Rattle.dividing.specs.Divisions.{bad_divisor}
use Rattle.restoring.specs.declared.divided.DividedError.{DividedError}
use Rattle.restoring.specs.Restorings as Restorings
use Rattle.restoring.specs.Dividings as Dividings
use Rattle.restoring.specs.TestedDivided.{divided_done_alone}
use Rattle.exact_levels.specs.declared.LevelsBackError.{LevelsBackError}
use Rattle.exact_levels.specs.declared.LevelsBackError.TheVariants.{Analysis, Restoring}
use Rattle.exact_levels.specs.Backs.{number_of, answer_of, Ruled}

-- ---- where every test passes
module _ (n f levels : ℕ) (taps : GoodTaps f) (limit : n ≤ longest) (allowed : too_short n f (levels_of levels) ≡ false) where
  asked : Answers.asked_of n f levels ≡ Ok tt
  unfolding Answers.asked_of
  asked = simp (taps_pass f taps, le-ltb longest n limit, allowed)

  held : (p : ℕ) → p ≡ packed_length n f levels → Answers.held_of n f levels p ≡ Ok tt
  unfolding Answers.held_of
  held p e = simp (asked, eq-eqb p (packed_length n f levels) e)

  there_done : (p c : ℕ) → p ≡ packed_length n f levels → levels_scratch n f ≤ c → Analyses.answer_of n f levels p c ≡ Ok tt
  unfolding Analyses.answer_of
  there_done p c e room = simp (held p e, le-ltb c (levels_scratch n f) room)

  back_done : (s : Float) (p a b : ℕ) → bad_divisor binary64 s ≡ false → p ≡ packed_length n f levels → restoring_length n f ≤ a → restoring_length n f ≤ b
      → Dividings.answer_of n f s levels p a b ≡ Ok tt
  unfolding Dividings.answer_of Restorings.answer_of
  back_done s p a b good e room space = simp (taps_pass f taps, good, held p e, le-ltb a (restoring_length n f) room, le-ltb b (restoring_length n f) space)

-- ---- both ways
-- a refusal of either has a number above 0
above : (e : LevelsBackError) → 0 < number_of (Err e)
above (Analysis x) = refused Answers.number_of done_alone (Err x) not_ok
above (Restoring x) = refused Dividings.number_of divided_done_alone (Err x) not_ok

module _ (n f : ℕ) (s : Float) (levels p c a b : ℕ) where
  pub there_refused : {e : LevelsError} → Err e ≡ Analyses.answer_of n f levels p c → Err (Analysis e) ≡ answer_of n f s levels p c a b
  unfolding answer_of
  there_refused e = rw (← e) refl

  pub back_refused : {e : DividedError} → Ok tt ≡ Analyses.answer_of n f levels p c → Err e ≡ Dividings.answer_of n f s levels p a b → Err (Restoring e) ≡ answer_of n f s levels p c a b
  unfolding answer_of
  back_refused q e = rw (← q, ← e) refl

  pub both_done : Ok tt ≡ Analyses.answer_of n f levels p c → Ok tt ≡ Dividings.answer_of n f s levels p a b → Ok tt ≡ answer_of n f s levels p c a b
  unfolding answer_of
  both_done p q = rw (← p, ← q) refl

  -- both ways are done, or the answer is a refusal
  pub decided : ((Analyses.answer_of n f levels p c ≡ Ok tt) × (Dividings.answer_of n f s levels p a b ≡ Ok tt)) ⊎ (0 < number_of (answer_of n f s levels p c a b))
  unfolding answer_of
  decided = go (Analyses.answer_of n f levels p c) (Dividings.answer_of n f s levels p a b)
    where
      go : (there : Result ⊤ LevelsError) (back : Result ⊤ DividedError)
          → ((there ≡ Ok tt) × (back ≡ Ok tt)) ⊎ (0 < number_of (Answers.when_ok there (Answers.when_ok back (Ok tt) (λ e. Err (Restoring e))) (λ e. Err (Analysis e))))
      go (Ok done) (Ok also) = inl (refl, refl)
      go (Ok done) (Err e) = inr (above (Restoring e))
      go (Err e) back = inr (above (Analysis e))

  -- what passes every test is taken
  pub met : GoodTaps f → n ≤ longest → bad_divisor binary64 s ≡ false → Ruled n f levels p c a b → answer_of n f s levels p c a b ≡ Ok tt
  met taps limit good q =
      sym (both_done
      (sym (there_done n f levels taps limit q.allowed p c q.packs q.scratched))
      (sym (back_done n f levels taps limit q.allowed s p a b good q.packs q.room q.space)))
