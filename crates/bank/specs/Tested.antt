-- Laws of the tests: where an answer is done every test passed, which gives the work what it asks for.
use Rattle.std.specs.Prelude.{◌≡◌, refl, ◌%◌, ◌<◌, ◌≤◌, suc, zero, ℕ, ◌+◌, ◌-◌, ◌*◌, ◌/◌, eqb, ltb, ◌||◌, false, not, Bool, cond, true, Float, ◌≢◌, List, [], Result, Ok, Err}
use Rattle.std.proofs.Common.{ap, sym, ◌∙◌, eqb-true, ltb-false, eq-eqb, ne_eqb, le-ltb, lit<, arith}
use Rattle.bank.specs.declared.sizes.SizeError.{SizeError}
use Rattle.bank.specs.declared.sizes.SizeError.TheVariants as size
use Rattle.bank.specs.declared.Bank.{Bank}
use Rattle.bank.specs.declared.making.Making.{Making}
use Rattle.bank.specs.declared.making.Making.TheVariants as making
use Rattle.bank.specs.Banks as Banks
use Rattle.bank.specs.Sizes as Sizes
use Rattle.bank.specs.Lengths.{bad_taps, pairs, left_pad, right_pad, GoodTaps, Sound, Analysable, Counted}
use Rattle.numbers.specs.Tests.{neither, passed}
use Rattle.numbers.specs.Words.{longest, when_done}
use Rattle.std.proofs.lemmas.Bool.{eqb-false, not-false}
use Rattle.border.specs.declared.Border.{Border}

pub good_taps : (f : ℕ) → bad_taps f ≡ false → GoodTaps f
unfolding bad_taps
good_taps f e =
    let p = neither (not (eqb (f % 2) 0) || eqb f 0) (ltb 64 f) e in
    let q = neither (not (eqb (f % 2) 0)) (eqb f 0) p.0 in
    let h : f % 2 ≡ 0 = eqb-true (f % 2) 0 (not-false (eqb (f % 2) 0) q.0) in
    record { even = h; two = some f h (eqb-false f 0 q.1); most = ltb-false 64 f p.1 }
  where
    some : (f : ℕ) → f % 2 ≡ 0 → (f ≡ 0 → ⊥) → 2 ≤ f
    some zero h z = absurd (z refl)
    some (suc zero) h z = absurd (omega arith)
    some (suc (suc f)) h z = omega arith

-- a bank's arrays, with any count
pub counted_all : {f low high : ℕ} → low ≡ 64 → high ≡ 64 → Counted f low high
counted_all e g = λ p. record { lows = omega (arith, p.most, e); highs = omega (arith, p.most, g) }

pub taps_pass : (f : ℕ) → GoodTaps f → bad_taps f ≡ false
unfolding bad_taps
taps_pass f g =
    let n : f ≢ 0 = omega (arith, g.two) in
    simp (eq-eqb (f % 2) 0 g.even, ne_eqb f 0 n, le-ltb 64 f g.most)

-- ---- n samples and f taps past 12, 11 and 1
pub record Sized (n f l m : ℕ) : Type 0 where
  pub ready : Analysable n f
  pub given : m ≡ l
  pub other : (k : ℕ) → Ok k ≡ Sizes.of_samples n f k

pub sized : (n f l m : ℕ) → Sizes.of_samples n f l ≡ Ok m → Sized n f l m
sized n f l m e =
    let p1 = passed Sizes.number_of (bad_taps f) e (lit< tt) refl in
    let p2 = passed Sizes.number_of (ltb longest n) p1.1 (lit< tt) refl in
    let p3 = passed Sizes.number_of (ltb n f) p2.1 (lit< tt) refl in
    let q = p3.1 in
    record {
      ready = record { taps = good_taps f p1.0; limit = ltb-false longest n p2.0; enough = ltb-false n f p3.0 };
      given = cc;
      other = λ k. simp (p1.0, p2.0, p3.0);
    }

-- a length is refused, or given, whatever it is
pub sized_alike : (n f l k : ℕ) (r : Result ℕ SizeError) → r ≡ Sizes.of_samples n f l → 0 < Sizes.number_of r → r ≡ Sizes.of_samples n f k
sized_alike n f l k r e h = go (bad_taps f) (ltb longest n) (ltb n f) e
  where
    go : (s t u : Bool) → r ≡ cond s (Err size.Taps) (cond t (Err size.Limit) (cond u (Err (size.MinFilterSize n f)) (Ok l)))
        → r ≡ cond s (Err size.Taps) (cond t (Err size.Limit) (cond u (Err (size.MinFilterSize n f)) (Ok k)))
    go true t u e = e
    go false true u e = e
    go false false true e = e
    go false false false e = let q = ap Sizes.number_of e in absurd (omega arith)

-- the pairs of n samples are within the limit too
pub sound_pairs : {n f m : ℕ} → Sound n f → m ≡ pairs n f → Sound m f
sound_pairs s e = record { taps = s.taps; limit = omega (arith, e, s.limit, s.taps.most) }

-- the left pad, half of the whole padding rounded down, is f - 2
pub left_pad_lem : (n f : ℕ) → GoodTaps f → left_pad n f ≡ f - 2
left_pad_lem n f g = omega (arith, g.two, g.even)

-- the right pad, the rest of it, is f - 2 for even n and f - 1 for odd n
pub right_pad_lem : (n f : ℕ) → GoodTaps f → (n % 2 ≡ 0 → right_pad n f ≡ f - 2) × (n % 2 ≡ 1 → right_pad n f ≡ f - 1)
right_pad_lem n f g =
    let left = left_pad_lem n f g in
    let two = g.two in
    let half : f ≡ 2 * (f / 2) = omega (arith, g.even) in (
      λ e.
          let n' : n ≡ 2 * (n / 2) = omega (arith, e) in
          let m : pairs n f ≡ n / 2 + (f / 2 - 1) = omega (arith, half, n', two) in
          omega (arith, m, left, half, n', two),
      λ o.
          let n' : n ≡ 2 * (n / 2) + 1 = omega (arith, o) in
          let m : pairs n f ≡ n / 2 + f / 2 = omega (arith, half, n', two) in
          omega (arith, m, left, half, n', two),
    )

-- it is what 2 m has above n
pub right_rest : (n f : ℕ) → GoodTaps f → right_pad n f ≡ 2 * pairs n f - n
right_rest n f g = omega (arith, left_pad_lem n f g, g.two)

-- ---- making
pub refused_bank : {b : Border} {r : Making} {bank : Bank Float} (new : Bank Float) → r ≡ making.Taps → bank ≡ Banks.no_bank b → bank ≡ when_done (Banks.number_of r) new (Banks.no_bank b)
refused_bank {b} new e q = q ∙ sym (ap (λ (k : Making). when_done (Banks.number_of k) new (Banks.no_bank b)) e)

pub made_bank : {b : Border} {r : Making} {bank : Bank Float} {l h sl sh l' h' sl' sh' : List Float} {f : ℕ}
    → r ≡ making.Done → bank ≡ Banks.held_in l h sl sh f b → l ≡ l' → h ≡ h' → sl ≡ sl' → sh ≡ sh'
    → bank ≡ when_done (Banks.number_of r) (Banks.held_in l' h' sl' sh' f b) (Banks.no_bank b)
made_bank e q l h sl sh = q ∙ rw (e, l, h, sl, sh) refl

-- neither answer carries anything
pub making_bare : (r : Making) → Banks.values_of r ≡ []
making_bare making.Done = refl
making_bare making.Taps = refl
