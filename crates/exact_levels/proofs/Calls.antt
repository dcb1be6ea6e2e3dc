-- Laws of there and back over levels: where neither way refuses, the two entries' promises are this one's, and where the premises hold neither does.
use Rattle.std.specs.Prelude.{◌≡◌, refl, false, cond, List, ℕ, ◌+◌, ◌%◌, ◌<◌, eqb, length, take, Result, Ok, ⊤, ℤ, Float}
use Rattle.std.proofs.Common.{sym, ap, ◌∙◌, subst, ⊎_elim, arith, length-append}
use Rattle.std.specs.Float.{binary64}
use Rattle.numbers.specs.Tests.{kept, renewed}
use Rattle.border.specs.declared.Border.{Border}
use Rattle.bank.specs.Lengths.{GoodTaps}
use Rattle.packed.specs.declared.LevelsError.{LevelsError}
use Rattle.packed.specs.Lengths.{levels_of, too_short, restoring_length}
use Rattle.packed.specs.Answers as Answers
use Rattle.levels.specs.Lines.{line_of, details_of, packed_line}
use Rattle.levels.specs.Steps.{length-line}
use Rattle.levels.specs.Handed.{length-details}
use Rattle.levels.specs.Analyses as Analyses
use Rattle.levels.specs.Tested.{splitting}
use Rattle.dividing.specs.Divisions.{divided}
use Rattle.restoring.specs.declared.divided.DividedError.{DividedError}
use Rattle.restoring.specs.Lines.{joined_by, first_by, second_by}
use Rattle.restoring.specs.Dividings as Dividings
use Rattle.restoring.specs.Joins.{whole_front}
use Rattle.exact_levels.specs.declared.LevelsBackError.{LevelsBackError}
use Rattle.exact_levels.specs.Through.{ThroughPremises, Regained}
use Rattle.exact_levels.specs.Backs.{number_of, answer_of, ThereAndBack}
use Rattle.exact_levels.specs.Squares.{divisor_good}
use Rattle.exact_levels.proofs.Steps.{through_exact}
use Rattle.exact_levels.specs.Tested.{both_done, decided, met}

-- an even number of taps gives as many places as there are samples, or one more
places : (n f : ℕ) → GoodTaps f → restoring_length n f ≡ n + n % 2
places n f g = omega (arith, g.even, g.two)

module _ (al ah sl sh : List Float) (f : ℕ) (border : Border) (s : Float) (line : List Float) (levels : ℕ) (packed scratch first second : List Float) where
  abbrev n : ℕ
  n = length line

  abbrev count : ℕ
  count = levels_of levels

  abbrev lengths : Result ⊤ LevelsBackError
  lengths = answer_of n f s levels (length packed) (length scratch) (length first) (length second)

  -- a refusal leaves everything as it was, and nothing that meets the premises is refused
  pub back_kept : {r : Result ⊤ LevelsBackError} → r ≡ lengths → (r ≡ Ok tt → ⊥) → ThereAndBack al ah sl sh f border s line levels packed scratch first second r packed scratch first second
  back_kept {r} e h = record {
    answer = e;
    packs = kept (number_of r) above _ packed;
    scratched = kept (number_of r) above _ scratch;
    firsts = kept (number_of r) above _ first;
    seconds = kept (number_of r) above _ second;
    exact = λ _ _ z v A x q.
        absurd (h (e ∙ met n f s levels _ _ _ _ x.first.taps x.first.limit (divisor_good binary64 s z (A 0) x.divisor x.above x.first.one x.first.bound) q));
  }
    where
      above : 0 < number_of r
      above =
          subst (λ (k : Result ⊤ LevelsBackError). 0 < number_of k) (sym e)
          (⊎_elim (λ p. absurd (h (e ∙ sym (both_done n f s levels _ _ _ _ (sym p.0) (sym p.1))))) (λ k. k)
          (decided n f s levels (length packed) (length scratch) (length first) (length second)))

  -- what analysis packs
  abbrev filled : List Float
  filled = packed_line binary64 al ah f border line count

  module _ {first' second' : List Float} (firsts : first' ≡ first_by (divided binary64 s) binary64 f sl sh filled n count count first)
      (seconds : second' ≡ second_by (divided binary64 s) binary64 f sl sh filled n count count second) where
    -- the line comes back at the front of the buffer that holds it
    gives_back : sl ≡ al → sh ≡ ah → (z v : List ℤ) (A : ℕ → ℕ) → ThroughPremises binary64 f al ah border line s count z v A → too_short n f count ≡ false
        → Regained binary64 border v (take (restoring_length n f) (cond (eqb (count % 2) 0) second' first'))
    gives_back e e' z v A x allowed =
        let whole : List Float = joined_by (divided binary64 s) binary64 f sl sh filled n count count in
        let out : Regained binary64 border v whole = rw (e, e') (through_exact binary64 border f al ah line s count z v A x (omega arith) allowed) in
        let m : restoring_length n f ≡ length whole = omega (arith, places n f x.first.taps, out.long, x.first.count) in
        subst (λ (l : List Float). Regained binary64 border v l)
        (sym (rw (firsts, seconds) (whole_front (divided binary64 s) binary64 f sl sh filled n count (restoring_length n f) first second (omega arith) m))) out

  -- where the tests pass, so do those of both ways
  module _ {r : Result ⊤ LevelsBackError} {there : Result ⊤ LevelsError} {p c : List Float} (e : r ≡ lengths) (z : r ≡ Ok tt)
      (u : Analyses.Analysed al ah f border line levels packed scratch there p c) where
    passed : (Analyses.answer_of n f levels (length packed) (length scratch) ≡ Ok tt) × (Dividings.answer_of n f s levels (length packed) (length first) (length second) ≡ Ok tt)
    passed = ⊎_elim (λ t. t) (λ k. let q = ap number_of (sym z ∙ e) in absurd (omega arith)) (decided n f s levels (length packed) (length scratch) (length first) (length second))

    pub went : there ≡ Ok tt
    went = u.answer ∙ passed.0

    packs : p ≡ filled
    packs = renewed _ _ (ap Answers.number_of went) u.packs

    long : length p ≡ length packed
    long =
        ap length packs ∙ length-append (details_of binary64 al ah f border line count) (line_of binary64 al f border line count)
        ∙ omega (
          arith,
          length-details binary64 al ah f border line count,
          length-line binary64 al f border line count,
          (splitting n f levels count (length packed) (length scratch) refl passed.0).packs.filled,
        )

    pub arrived : {came : Result ⊤ DividedError} {a b : List Float} → Dividings.DividedBack sl sh f s p n levels first second came a b → came ≡ Ok tt
    arrived w = w.answer ∙ ap (λ (k : ℕ). Dividings.answer_of n f s levels k (length first) (length second)) long ∙ passed.1

  -- the two promises, one after the other
  pub back_given : {r : Result ⊤ LevelsBackError} {there : Result ⊤ LevelsError} {came : Result ⊤ DividedError} {p c a b : List Float} → r ≡ lengths → r ≡ Ok tt
      → Analyses.Analysed al ah f border line levels packed scratch there p c → Dividings.DividedBack sl sh f s p n levels first second came a b
      → ThereAndBack al ah sl sh f border s line levels packed scratch first second (Ok tt) p c a b
  back_given {r} {there} {came} {p} {c} {a} {b} e z u w = record {
    answer = sym z ∙ e;
    packs = packs e z u;
    scratched = renewed _ _ (ap Answers.number_of (went e z u)) u.scratched;
    firsts = firsts;
    seconds = seconds;
    exact = λ k k' z v A x q. (refl, gives_back firsts seconds k k' z v A x q.allowed);
  }
    where
      firsts : a ≡ first_by (divided binary64 s) binary64 f sl sh filled n count count first
      firsts = renewed _ _ (ap Dividings.number_of (arrived e z u w)) w.firsts ∙ ap (λ (l : List Float). first_by (divided binary64 s) binary64 f sl sh l n count count first) (packs e z u)

      seconds : b ≡ second_by (divided binary64 s) binary64 f sl sh filled n count count second
      seconds = renewed _ _ (ap Dividings.number_of (arrived e z u w)) w.seconds ∙ ap (λ (l : List Float). second_by (divided binary64 s) binary64 f sl sh l n count count second) (packs e z u)
