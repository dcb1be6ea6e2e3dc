-- Laws of the tests: an answer is done where every test passed, and nowhere else, which gives the work what it asks for.
use Rattle.std.specs.Prelude.{◌≡◌, refl, ℕ, ◌+◌, ◌-◌, eqb, ltb, not, Result, ⊤, Ok, Err}
use Rattle.analysis.specs.declared.AnalysisError.{AnalysisError}
use Rattle.analysis.specs.declared.AnalysisError.TheVariants.{MinFilterSize, ApproxDetailsSize, ScratchSize, Limit, Taps}
use Rattle.analysis.specs.Analyses.{answer_of, number_of}
use Rattle.analysis.specs.Works.{Analysing}
use Rattle.numbers.specs.Tests.{passed}
use Rattle.numbers.specs.Words.{longest}
use Rattle.std.proofs.Common.{eqb-true, ltb-false, eq-eqb, le-ltb, lit<, arith}
use Rattle.std.proofs.lemmas.Bool.{not-false}
use Rattle.border.specs.declared.Border.{Border}
use Rattle.border.specs.Reach.{Paddable}
use Rattle.bank.specs.Lengths.{bad_taps, padded_length, pairs, right_pad, Analysable}
use Rattle.bank.specs.Tested.{good_taps, taps_pass, right_rest}

pub analysing : (f n a d s : ℕ) → answer_of f n a d s ≡ Ok tt → Analysing f n a d s
unfolding answer_of
analysing f n a d s e =
    let p1 = passed number_of (bad_taps f) e (lit< tt) refl in
    let p2 = passed number_of (ltb longest n) p1.1 (lit< tt) refl in
    let p3 = passed number_of (ltb n f) p2.1 (lit< tt) refl in
    let p4 = passed number_of (not (eqb a (pairs n f))) p3.1 (lit< tt) refl in
    let p5 = passed number_of (not (eqb d (pairs n f))) p4.1 (lit< tt) refl in
    let p6 = passed number_of (ltb s (padded_length n f)) p5.1 (lit< tt) refl in
    record {
      ready = record { taps = good_taps f p1.0; limit = ltb-false longest n p2.0; enough = ltb-false n f p3.0 };
      approxed = eqb-true a (pairs n f) (not-false _ p4.0);
      detailed = eqb-true d (pairs n f) (not-false _ p5.0);
      room = ltb-false s (padded_length n f) p6.0;
    }

-- and where it has that, the answer is done
pub analysed_done : (f n a d s : ℕ) → Analysing f n a d s → answer_of f n a d s ≡ Ok tt
unfolding answer_of
analysed_done f n a d s p =
    simp (
      taps_pass f p.ready.taps,
      le-ltb longest n p.ready.limit,
      le-ltb n f p.ready.enough,
      eq-eqb a (pairs n f) p.approxed,
      eq-eqb d (pairs n f) p.detailed,
      le-ltb s (padded_length n f) p.room,
    )

-- 0 is the number of done alone
pub done_alone : (r : Result ⊤ AnalysisError) → number_of r ≡ 0 → r ≡ Ok tt
done_alone (Ok done) e = refl
done_alone (Err (MinFilterSize n f)) e = absurd (omega arith)
done_alone (Err (ApproxDetailsSize l)) e = absurd (omega arith)
done_alone (Err (ScratchSize need have)) e = absurd (omega arith)
done_alone (Err Limit) e = absurd (omega arith)
done_alone (Err Taps) e = absurd (omega arith)

-- the pads of a line: they may be asked for, and with the line they fill the padded length
pub pads : (b : Border) (n f : ℕ) {right : ℕ} → right ≡ right_pad n f → Analysable n f → Paddable b n (f - 2) right
pads b n f e p = record {
  some = omega (arith, p.taps.two, p.enough);
  few = p.limit;
  near = λ q h. (omega (arith, p.taps.two, p.enough), omega (arith, e, right_rest n f p.taps, p.taps.two, p.enough, p.taps.even));
}

pub whole : (n f : ℕ) {right : ℕ} → right ≡ right_pad n f → Analysable n f → f - 2 + n + right ≡ padded_length n f
whole n f e p = omega (arith, e, right_rest n f p.taps, p.taps.two)
