-- Laws of tests in a row: which of them passed is read off the answer, and an answer that is not done is a refusal, also of two ways one after the other; of floats, the code's 0.0 is +0, and what equals itself is no NaN.
use Rattle.std.specs.Prelude.{◌≡◌, refl, Bool, true, false, cond, not, ◌||◌, ◌&&◌, T, Float, ◌<◌, suc, zero, ℕ, ◌⊎◌}
use Rattle.std.proofs.Common.{sym, ap, ◌∙◌, subst, true≢false, inl, inr, ⊎_elim, arith}
use Rattle.std.specs.Float.{nan, inf, fin, Format, binary32, binary64}
use Rattle.std.specs.Float.Ieee.{of_bits, ne, is_nan}
use Rattle.numbers.specs.Words.{plus_zero, when_done, and_then}

-- of answers with their numbers: a refusal is not the answer that is done, so the test before it did not fail, and what follows the test is the answer
pub passed : {A : Type 0} (number : A → ℕ) (t : Bool) {a b d : A} → cond t a b ≡ d → 0 < number a → number d ≡ 0 → (t ≡ false) × (b ≡ d)
passed number true e h k = let q = ap number e in absurd (omega arith)
passed number false e h k = (refl, e)

-- an answer that is not done has a number above 0, where 0 is the number of done alone
pub refused : {A : Type 0} (number : A → ℕ) {done : A} → ((r : A) → number r ≡ 0 → r ≡ done) → (r : A) → (r ≡ done → ⊥) → 0 < number r
refused number alone r n = go (number r) refl
  where
    go : (k : ℕ) → number r ≡ k → 0 < k
    go zero e = absurd (n (alone r e))
    go (suc k) e = omega arith

-- an answer with another tag than done's, which is the first, is not done
pub other : {A : Type 0} (tag : A → ℕ) {done : A} (r : A) → tag done ≡ 0 → 0 < tag r → r ≡ done → ⊥
other tag r z h e = let q = ap tag e in absurd (omega arith)

-- neither of two tests failed
pub neither : (s t : Bool) → (s || t) ≡ false → (s ≡ false) × (t ≡ false)
neither true t e = absurd (true≢false e)
neither false t e = (refl, e)

-- both of two tests passed
pub both : (s t : Bool) → (s && t) ≡ true → (s ≡ true) × (t ≡ true)
both true t e = (refl, e)
both false t e = absurd (true≢false (sym e))

pub literal_zero : (f : Format) → of_bits f 0 ≡ plus_zero
unfolding of_bits
literal_zero binary32 = refl
literal_zero binary64 = refl

pub no_nan : (x : Float) → ne x x ≡ false → T (not (is_nan x))
unfolding ne is_nan
no_nan nan e = absurd (subst T e tt)
no_nan (inf s) e = tt
no_nan (fin s m d) e = tt

-- a test that is known
pub cond_true : {A : Type 0} (t : Bool) (a b : A) → t ≡ true → cond t a b ≡ a
cond_true true a b e = refl
cond_true false a b e = absurd (true≢false (sym e))

pub cond_false : {A : Type 0} (t : Bool) (a b : A) → t ≡ false → cond t a b ≡ b
cond_false t a b e = rw e

-- two choices by one test, alike wherever they are taken
pub cond_same : {A : Type 0} (t : Bool) {a a' b b' : A} → (t ≡ true → a ≡ a') → b ≡ b' → cond t a b ≡ cond t a' b'
cond_same true h k = h refl
cond_same false h k = k

-- one of the keys k, k + 1 and so on, `more` of them behind the first: what the other arms of a match know of its key
abbrev pub Keys : ℕ → ℕ → ℕ → Type 0
Keys zero k n = n ≡ k
Keys (suc more) k n = (n ≡ k) ⊎ Keys more (suc k) n

pub key_above : (more k n : ℕ) → 0 < k → Keys more k n → 0 < n
key_above zero k n h e = omega arith
key_above (suc more) k n h e = ⊎_elim (λ q. omega arith) (λ q. key_above more (suc k) n (omega arith) q) e

-- where it is done a lent thing is new
pub renewed : {A : Type 0} {number : ℕ} {x : A} (new old : A) → number ≡ 0 → x ≡ when_done number new old → x ≡ new
renewed new old e q = q ∙ ap (λ (k : ℕ). when_done k new old) e

-- on a refusal a lent thing is as it was
pub kept : {A : Type 0} (number : ℕ) → 0 < number → (new old : A) → old ≡ when_done number new old
kept zero h new old = absurd (omega arith)
kept (suc number) h new old = refl

-- ---- tests that follow others, of answers with their numbers: the others' refusal, or where those are done what comes then
module _ {A : Type 0} (number : A → ℕ) {done : A} where
  -- by another name of the others' answer, which is a refusal
  pub stopped_by : {B : Type 0} → ((r : A) → number r ≡ 0 → r ≡ done) → {x : A} (a : A) (new : B) (old : A → B) → a ≡ x → (a ≡ done → ⊥) → old a ≡ when_done (number x) new (old x)
  stopped_by alone a new old e n = kept (number a) (refused number alone a n) new (old a) ∙ ap (λ (b : A). when_done (number b) new (old b)) e

  pub went_on_by : {B : Type 0} → number done ≡ 0 → {x : A} {y : B} (new old : B) → x ≡ done → y ≡ new → y ≡ when_done (number x) new old
  went_on_by z new old e q = q ∙ sym (ap (λ (k : ℕ). when_done k new old) (ap number e ∙ z))

  -- both are done where the second is after the first
  pub both_done_by : ((r : A) → number r ≡ 0 → r ≡ done) → number done ≡ 0 → (a b : A) → and_then number a b ≡ done → (a ≡ done) × (b ≡ done)
  both_done_by alone z a b e = go (number a) refl e
    where
      go : (k : ℕ) → number a ≡ k → when_done k b a ≡ done → (a ≡ done) × (b ≡ done)
      go zero q r = (alone a q, r)
      go (suc k) q r = let w = ap number r in absurd (omega (arith, w, q, z))

-- ---- two ways, one after the other, of answers with their numbers: where the first is done the second's refusal, else the first's
pub either_way : {A B C : Type 0} (first : A → ℕ) (second : B → ℕ) (number : C → ℕ) (done : C) (one : A → C) (other : B → C) (a : A) (b : B) → number (one a) ≡ first a → number (other b) ≡ second b
    → ((first a ≡ 0) × (second b ≡ 0)) ⊎ (0 < number (when_done (first a) (when_done (second b) done (other b)) (one a)))
either_way first second number done one other a b ea eb = go (first a) (second b) refl refl
  where
    go : (j k : ℕ) → first a ≡ j → second b ≡ k → ((first a ≡ 0) × (second b ≡ 0)) ⊎ (0 < number (when_done j (when_done k done (other b)) (one a)))
    go zero zero p q = inl (p, q)
    go zero (suc k) p q = inr (omega (arith, eb, q))
    go (suc j) k p q = inr (omega (arith, ea, p))
