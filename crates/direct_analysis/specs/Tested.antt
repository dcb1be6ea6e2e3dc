-- Laws of the tests: with room for any padded line the first engine's tests are these, 5 is never answered, and done is answered where every test passed, and nowhere else, which gives the work what it asks for.
use Rattle.std.specs.Prelude.{◌≡◌, refl, Bool, true, false, not, ℕ, ◌*◌, ◌≤◌, ltb, eqb, Result, ⊤, Ok, Err}
use Rattle.std.proofs.Common.{sym, ap, ◌∙◌, arith, ltb-false, le-ltb}
use Rattle.numbers.specs.Words.{longest}
use Rattle.bank.specs.Lengths.{bad_taps, pairs, padded_length, GoodTaps, Lent, Analysable}
use Rattle.bank.specs.Tested.{good_taps}
use Rattle.analysis.specs.declared.AnalysisError.{AnalysisError}
use Rattle.analysis.specs.declared.AnalysisError.TheVariants.{MinFilterSize, ApproxDetailsSize, ScratchSize, Limit, Taps}
use Rattle.analysis.specs.Analyses as First
use Rattle.analysis.specs.Analyses.{number_of}
use Rattle.analysis.specs.Tested as FirstTested
use Rattle.direct_analysis.specs.Analyses.{answer_of}
use Rattle.direct_analysis.specs.Works.{Direct}

-- a scratch that is long enough is as good as one that just is
fits : (f n a d s : ℕ) → padded_length n f ≤ s → First.answer_of f n a d s ≡ answer_of f n a d
unfolding First.answer_of
fits f n a d s h = simp (le-ltb s (padded_length n f) h, le-ltb (padded_length n f) (padded_length n f) (omega arith))

-- twice the longest line is long enough, wherever the scratch is tested at all
pub roomy : (f n a d : ℕ) → First.answer_of f n a d (2 * longest) ≡ answer_of f n a d
unfolding First.answer_of
roomy f n a d = go (bad_taps f) refl (ltb longest n) refl
  where
    go : (p : Bool) → bad_taps f ≡ p → (q : Bool) → ltb longest n ≡ q → First.answer_of f n a d (2 * longest) ≡ answer_of f n a d
    go true e q g = simp e
    go false e true g = simp (e, g)
    go false e false g = fits f n a d (2 * longest) (omega (arith, ltb-false longest n g, (good_taps f e).most))

-- test by test, in their order: the first engine's answer, unless that is 5
pub as_first : (f n a d s : ℕ) → (number_of (First.answer_of f n a d s) ≡ 5 → ⊥) → First.answer_of f n a d s ≡ answer_of f n a d
unfolding First.answer_of
as_first f n a d s other = go (bad_taps f) refl (ltb longest n) refl (ltb n f) refl (not (eqb a (pairs n f))) refl (not (eqb d (pairs n f))) refl (ltb s (padded_length n f)) refl
  where
    go : (p : Bool) → bad_taps f ≡ p → (q : Bool) → ltb longest n ≡ q → (r : Bool) → ltb n f ≡ r → (x : Bool) → not (eqb a (pairs n f)) ≡ x → (y : Bool) → not (eqb d (pairs n f)) ≡ y
        → (t : Bool) → ltb s (padded_length n f) ≡ t → First.answer_of f n a d s ≡ answer_of f n a d
    go true e q eq r er x ex y ey t et = simp e
    go false e true eq r er x ex y ey t et = simp (e, eq)
    go false e false eq true er x ex y ey t et = simp (e, eq, er)
    go false e false eq false er true ex y ey t et = simp (e, eq, er, ex)
    go false e false eq false er false ex true ey t et = simp (e, eq, er, ex, ey)
    go false e false eq false er false ex false ey true et =
        let five : First.answer_of f n a d s ≡ Err (ScratchSize (padded_length n f) s) = simp (e, eq, er, ex, ey, et) in
        absurd (other (ap number_of five))
    go false e false eq false er false ex false ey false et = fits f n a d s (ltb-false s (padded_length n f) et)

-- and 5 never
pub never_5 : (f n a d : ℕ) → number_of (answer_of f n a d) ≡ 5 → ⊥
unfolding First.answer_of
never_5 f n a d e = go (bad_taps f) refl (ltb longest n) refl (ltb n f) refl (not (eqb a (pairs n f))) refl (not (eqb d (pairs n f))) refl
  where
    is : {r : Result ⊤ AnalysisError} → answer_of f n a d ≡ r → number_of r ≡ 5
    is q = ap number_of (sym q) ∙ e

    go : (p : Bool) → bad_taps f ≡ p → (q : Bool) → ltb longest n ≡ q → (r : Bool) → ltb n f ≡ r → (x : Bool) → not (eqb a (pairs n f)) ≡ x → (y : Bool) → not (eqb d (pairs n f)) ≡ y → ⊥
    go true ep q eq r er x ex y ey = let z : answer_of f n a d ≡ Err Taps = simp ep in absurd (omega (arith, is z))
    go false ep true eq r er x ex y ey = let z : answer_of f n a d ≡ Err Limit = simp (ep, eq) in absurd (omega (arith, is z))
    go false ep false eq true er x ex y ey = let z : answer_of f n a d ≡ Err (MinFilterSize n f) = simp (ep, eq, er) in absurd (omega (arith, is z))
    go false ep false eq false er true ex y ey = let z : answer_of f n a d ≡ Err (ApproxDetailsSize a) = simp (ep, eq, er, ex) in absurd (omega (arith, is z))
    go false ep false eq false er false ex true ey = let z : answer_of f n a d ≡ Err (ApproxDetailsSize d) = simp (ep, eq, er, ex, ey) in absurd (omega (arith, is z))
    go false ep false eq false er false ex false ey =
        let z : answer_of f n a d ≡ Ok tt = simp (ep, eq, er, ex, ey, le-ltb (padded_length n f) (padded_length n f) (omega arith)) in absurd (omega (arith, is z))

-- where every test passed
pub passed_taps : (f n a d : ℕ) → answer_of f n a d ≡ Ok tt → GoodTaps f
passed_taps f n a d e = (FirstTested.analysing f n a d (padded_length n f) e).ready.taps

pub direct : (f l h n a d : ℕ) → Lent f l h → answer_of f n a d ≡ Ok tt → Direct f l h n a d
direct f l h n a d lent e = let p = FirstTested.analysing f n a d (padded_length n f) e in record { lent = lent; ready = p.ready; approxed = p.approxed; detailed = p.detailed }

pub analysed_done : (f n a d : ℕ) → Analysable n f → a ≡ pairs n f → d ≡ pairs n f → answer_of f n a d ≡ Ok tt
analysed_done f n a d ready ea ed = FirstTested.analysed_done f n a d (padded_length n f) (record { ready = ready; approxed = ea; detailed = ed; room = omega arith })
