-- Laws of the tests: an answer is done where every test passed, and nowhere else, which gives the work what it asks for.
use Rattle.std.specs.Prelude.{◌≡◌, refl, ℕ, ◌*◌, ◌+◌, ◌<◌, eqb, ltb, leb, ◌||◌, not, Result, ⊤, Ok, Err}
use Rattle.std.proofs.Common.{sym, eqb-true, ltb-false, leb-false, eq-eqb, le-ltb, lit<, arith}
use Rattle.synthesis.specs.declared.SynthesisError.{SynthesisError}
use Rattle.synthesis.specs.declared.SynthesisError.TheVariants.{ApproxDetailsNotMatches, OutputSizeIsNotValid, ZeroedBaseSize, Limit, Taps}
use Rattle.synthesis.specs.Syntheses.{answer_of, number_of}
use Rattle.numbers.specs.Tests.{neither, passed}
use Rattle.numbers.specs.Words.{longest}
use Rattle.std.proofs.lemmas.Bool.{not-false, lt-leb}
use Rattle.synthesis.specs.Works.{Joinable}
use Rattle.bank.specs.Lengths.{bad_taps, line_length}
use Rattle.bank.specs.Tested.{good_taps, taps_pass}

-- 0 is the number of done alone
pub done_alone : (r : Result ⊤ SynthesisError) → number_of r ≡ 0 → r ≡ Ok tt
done_alone (Ok done) e = refl
done_alone (Err (ApproxDetailsNotMatches a d)) e = absurd (omega arith)
done_alone (Err (OutputSizeIsNotValid have need)) e = absurd (omega arith)
done_alone (Err ZeroedBaseSize) e = absurd (omega arith)
done_alone (Err Limit) e = absurd (omega arith)
done_alone (Err Taps) e = absurd (omega arith)

pub joinable : (f a d o : ℕ) → answer_of f a d o ≡ Ok tt → Joinable f a d o
unfolding answer_of
joinable f a d o e =
    let p1 = passed number_of (bad_taps f) e (lit< tt) refl in
    let p2 = passed number_of (ltb longest a || ltb longest d) p1.1 (lit< tt) refl in
    let p3 = passed number_of (not (eqb a d)) p2.1 (lit< tt) refl in
    let p4 = passed number_of (leb (2 * a + 2) f) p3.1 (lit< tt) refl in
    let p5 = passed number_of (not (eqb o (line_length a f))) p4.1 (lit< tt) refl in
    let g = good_taps f p1.0 in
    let l = leb-false (2 * a + 2) f p4.0 in
    let z = eqb-true o (line_length a f) (not-false _ p5.0) in
    record {
      two = g.two;
      most = g.most;
      even = g.even;
      few = ltb-false longest a (neither _ _ p2.0).0;
      both = sym (eqb-true a d (not-false _ p3.0));
      ruled = omega arith;
    }

-- and where it has that, with a place to write, the answer is done
pub joined_done : (f a d o : ℕ) → Joinable f a d o → 0 < o → answer_of f a d o ≡ Ok tt
unfolding answer_of
joined_done f a d o p h =
    let same : a ≡ d = sym p.both in
    let rule : o ≡ line_length a f = omega (arith, p.ruled) in
    simp (
      taps_pass f (record { even = p.even; two = p.two; most = p.most }),
      le-ltb longest a p.few,
      le-ltb longest d (omega (arith, p.both, p.few)),
      eq-eqb a d same,
      lt-leb (2 * a + 2) f (omega (arith, p.ruled)),
      eq-eqb o (line_length a f) rule,
    )
