-- Laws of the tests: an answer is done where every test passed, which gives the work what it asks for; tests that follow others speak where those are done.
use Rattle.std.specs.Prelude.{◌≡◌, refl, not, ◌||◌, ℕ, ◌*◌, eqb, ltb, length, drop, ⊤, Result, Ok, Err, Float, List}
use Rattle.std.proofs.Common.{arith, eqb-true, ltb-false, lit<}
use Rattle.std.proofs.lemmas.Bool.{eqb-false, not-false}
use Rattle.numbers.specs.Words.{when_done, and_then}
use Rattle.numbers.specs.Tests.{passed, neither, stopped_by, went_on_by, both_done_by}
use Rattle.tables.specs.Tables.{too_large}
use Rattle.tables.specs.Sides.{within_limits}
use Rattle.bank.specs.Lengths.{bad_taps}
use Rattle.bank.specs.Tested.{good_taps}
use Rattle.planes.specs.declared.PlanesError.{PlanesError}
use Rattle.planes.specs.declared.PlanesError.TheVariants.{MinFilterSize, ApproxDetailsSize, OutputSizeIsNotValid, ZeroedBaseSize, InputSize, Limit, Taps}
use Rattle.planes.specs.Lengths.{plane_scratch}
use Rattle.planes.specs.Answers.{number_of, asked_of, held_of, bands_of, Scratched}
use Rattle.planes.specs.Works.{Sided, Held, Banded}

-- 0 is the number of done alone
pub done_alone : (r : Result ⊤ PlanesError) → number_of r ≡ 0 → r ≡ Ok tt
done_alone (Ok tt) e = refl
done_alone (Err (MinFilterSize n f)) e = absurd (omega arith)
done_alone (Err (ApproxDetailsSize l)) e = absurd (omega arith)
done_alone (Err (OutputSizeIsNotValid have need)) e = absurd (omega arith)
done_alone (Err ZeroedBaseSize) e = absurd (omega arith)
done_alone (Err (InputSize need have)) e = absurd (omega arith)
done_alone (Err Limit) e = absurd (omega arith)
done_alone (Err Taps) e = absurd (omega arith)

-- tests that follow others, by another name of their answer
pub stopped : {A : Type 0} {x : Result ⊤ PlanesError} (a : Result ⊤ PlanesError) (new : A) (old : Result ⊤ PlanesError → A) → a ≡ x → (a ≡ Ok tt → ⊥) → old a ≡ when_done (number_of x) new (old x)
stopped = stopped_by number_of done_alone

pub went_on : {A : Type 0} {x : Result ⊤ PlanesError} {y : A} (new old : A) → x ≡ Ok tt → y ≡ new → y ≡ when_done (number_of x) new old
went_on = went_on_by number_of refl

pub both_done : (a b : Result ⊤ PlanesError) → and_then number_of a b ≡ Ok tt → (a ≡ Ok tt) × (b ≡ Ok tt)
both_done = both_done_by number_of done_alone refl

-- ---- tests that passed
pub asked_done : (w h f : ℕ) → asked_of w h f ≡ Ok tt → Sided w h f
unfolding asked_of
asked_done w h f e =
    let p1 = passed number_of (bad_taps f) e (lit< tt) refl in
    let p2 = passed number_of (eqb w 0 || eqb h 0) p1.1 (lit< tt) refl in
    let p3 = passed number_of (too_large w h) p2.1 (lit< tt) refl in
    let some = neither (eqb w 0) (eqb h 0) p2.0 in
    let limits = within_limits w h p3.0 in
    let wz = eqb-false w 0 some.0 in
    let hz = eqb-false h 0 some.1 in
    record {
      taps = good_taps f p1.0;
      wide = omega (arith, wz);
      high = omega (arith, hz);
      across = limits.0;
      down = limits.1;
      product = limits.2;
    }

pub held_done : (w h f p s : ℕ) → held_of w h f p s ≡ Ok tt → Held w h f p s
unfolding held_of
held_done w h f p s e =
    let q = both_done (asked_of w h f) _ e in
    let t = passed number_of (not (eqb p (w * h))) q.1 (lit< tt) refl in
    let u = passed number_of (ltb s (plane_scratch w h f)) t.1 (lit< tt) refl in
    record { sides = asked_done w h f q.0; filled = eqb-true p (w * h) (not-false _ t.0); room = ltb-false s (plane_scratch w h f) u.0 }

pub bands_done : (l ll lh hl hh : ℕ) → bands_of l ll lh hl hh ≡ Ok tt → Banded l ll lh hl hh
unfolding bands_of
bands_done l ll lh hl hh e =
    let p1 = passed number_of (not (eqb ll l)) e (lit< tt) refl in
    let p2 = passed number_of (not (eqb lh l)) p1.1 (lit< tt) refl in
    let p3 = passed number_of (not (eqb hl l)) p2.1 (lit< tt) refl in
    let p4 = passed number_of (not (eqb hh l)) p3.1 (lit< tt) refl in
    record {
      first = eqb-true ll l (not-false _ p1.0);
      second = eqb-true lh l (not-false _ p2.0);
      third = eqb-true hl l (not-false _ p3.0);
      fourth = eqb-true hh l (not-false _ p4.0);
    }

-- ---- a scratch that nothing was written to, whatever the answer, and one that was written to after done
pub untouched : (number need : ℕ) (x : List Float) → Scratched number need x x
untouched number need x = record { refused = λ h. refl; long = refl; beyond = refl }

pub touched : (need : ℕ) {x y : List Float} → length y ≡ length x → drop need y ≡ drop need x → Scratched 0 need x y
touched need p q = record { refused = λ h. absurd (omega arith); long = p; beyond = q }
