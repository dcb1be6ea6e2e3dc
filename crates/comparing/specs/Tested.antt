-- Laws of the tests: where they are done both bands have as many numbers as the sides say. What the entry answers is then what is found, and else their refusal.
use Rattle.std.specs.Prelude.{◌≡◌, refl, not, ◌||◌, List, ℕ, ◌*◌, eqb, length, ⊤, Result, Ok, Err, Float}
use Rattle.std.proofs.Common.{sym, ap, ◌∙◌, arith, eqb-true, lit<}
use Rattle.std.proofs.lemmas.Bool.{not-false}
use Rattle.numbers.specs.Tests.{passed}
use Rattle.tables.specs.Tables.{too_large}
use Rattle.comparing.specs.declared.Compared.{Compared}
use Rattle.comparing.specs.declared.ComparingError.{ComparingError}
use Rattle.comparing.specs.Comparings.{number_of, tests_of, found_by, found_in, BandsCompared}

-- no refusal is equal, after every test
pub all_passed : (w h a b : ℕ) → number_of (tests_of w h a b) ≡ 0 → (tests_of w h a b ≡ Ok tt) × (a ≡ w * h) × (b ≡ w * h)
unfolding tests_of
all_passed w h a b e =
    let p1 = passed number_of (eqb w 0 || eqb h 0) {d = tests_of w h a b} refl (lit< tt) e in
    let p2 = passed number_of (too_large w h) p1.1 (lit< tt) e in
    let p3 = passed number_of (not (eqb a (w * h))) p2.1 (lit< tt) e in
    let p4 = passed number_of (not (eqb b (w * h))) p3.1 (lit< tt) e in
    (sym p4.1, eqb-true a (w * h) (not-false _ p3.0), eqb-true b (w * h) (not-false _ p4.0))

module _ (first second : List Float) (w h : ℕ) where
  abbrev tests : Result ⊤ ComparingError
  tests = tests_of w h (length first) (length second)

  -- the tests refuse
  pub refused : (e : ComparingError) → tests ≡ Err e → BandsCompared first second w h (Err e)
  refused e q = record { answer = sym (ap (λ (t : Result ⊤ ComparingError). found_by t (found_in first second w h)) q) }

  -- they pass
  pub compared : (r : Compared) → tests ≡ Ok tt → r ≡ found_in first second w h → BandsCompared first second w h (Ok r)
  compared r e q = record { answer = ap (λ (x : Compared). Ok x) q ∙ sym (ap (λ (t : Result ⊤ ComparingError). found_by t (found_in first second w h)) e) }

  -- what is no refusal is what is found
  pub found : (r : Compared) → BandsCompared first second w h (Ok r) → (tests ≡ Ok tt) × (found_in first second w h ≡ r)
  found r p = go tests refl p.answer
    where
      go : (t : Result ⊤ ComparingError) → tests ≡ t → Ok r ≡ found_by t (found_in first second w h) → (tests ≡ Ok tt) × (found_in first second w h ≡ r)
      go (Ok done) q s = (q, cc)
      go (Err e) q s = let z : ◌≡◌ {A = ℕ} 0 1 = cc in absurd (omega arith)
