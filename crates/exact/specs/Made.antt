-- Laws of banks that are made of whole taps: their arrays begin with them, and the high taps that `mirrored` makes are theirs by the mirror rule.
use Rattle.std.specs.Prelude.{◌≡◌, Bool, true, false, cond, List, ℕ, ◌-◌, ◌%◌, ◌<◌, eqb, length, ℤ, neg_ℤ, Float}
use Rattle.std.proofs.Common.{sym, subst, arith}
use Rattle.std.specs.Float.{nan}
use Rattle.std.specs.Float.Ieee.{neg}
use Rattle.numbers.specs.Words.{at}
use Rattle.numbers.specs.Places.{get_or-written_in}
use Rattle.whole.specs.Floats.{Whole, at_ℤ, Holds}
use Rattle.whole.specs.Exact.{neg_whole}
use Rattle.border.specs.declared.Border.{Border}
use Rattle.bank.specs.Banks as Banks
use Rattle.exact.specs.Restoring.{mirror}

-- an array begins with the taps that were put there
pub made_taps : (n : ℕ) (l : List Float) (z : List ℤ) → Holds l z → n ≡ length z → Holds (Banks.array_of n (at l)) z
made_taps n l z h e = record { whole = λ j k. subst (λ (x : Float). Whole x (at_ℤ z j)) (sym (get_or-written_in (at l) n Banks.zeros j nan (omega arith))) (h.whole j k) }

module _ (l : List Float) (z : List ℤ) (h : Holds l z) (e : length l ≡ length z) (b : Border) where
  signed_whole : (t : Bool) (x : Float) (y : ℤ) → Whole x y → Whole (cond t x (neg x)) (cond t y (neg_ℤ y))
  signed_whole true x y w = w
  signed_whole false x y w = neg_whole x y w

  pub made_highs : (j : ℕ) → j < length z → Whole (at (Banks.bank_of l (Banks.mirror l) b).high j) (mirror z j)
  made_highs j k =
      rw (get_or-written_in (Banks.mirror l) (length l) Banks.zeros j nan (omega arith), e)
      (signed_whole (eqb (j % 2) 0) (at l (length z - 1 - j)) (at_ℤ z (length z - 1 - j)) (h.whole (length z - 1 - j) (omega arith)))
