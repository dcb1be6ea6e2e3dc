-- Laws of the first place that differs: the answer names a place just where that place differs and every earlier one agrees, and says equal just where every place agrees.
use Rattle.std.specs.Prelude.{◌≡◌, Bool, true, false, cond, List, ℕ, zero, suc, ◌+◌, ◌*◌, ◌/◌, ◌%◌, ◌<◌, ltb, length, Ok, Float}
use Rattle.std.proofs.Math.Path.{refl}
use Rattle.std.proofs.Common.{sym, ap, ◌∙◌, div-add-mod', div-lt_iff_lt-mul, mod-lt, arith}
use borrow.Author.Tests.{lt-ltb, le-ltb, ltb-true, ltb-false}
use Rattle.std.proofs.Math.Arith.{digits_lt, digits_div, digits_mod}
use Rattle.comparing.specs.declared.Compared.{Compared}
use Rattle.comparing.specs.declared.Compared.TheVariants.{Equal, Differs}
use Rattle.comparing.specs.Comparings.{differ_at, first_of, found_in, Agree, FirstAt, tests_of, BandsCompared}
use Rattle.comparing.specs.Tested.{compared, found}

-- ---- the first that passes
pub first_none : (passes : ℕ → Bool) (n : ℕ) → ((k : ℕ) → k < n → passes k ≡ false) → first_of passes n ≡ n
unfolding first_of
first_none passes zero h = refl
first_none passes (suc n) h = simp (h 0 (omega arith), first_none (λ k. passes (suc k)) n (λ k l. h (suc k) (omega arith)))

pub first_is : (passes : ℕ → Bool) (n k : ℕ) → k < n → passes k ≡ true → ((j : ℕ) → j < k → passes j ≡ false) → first_of passes n ≡ k
unfolding first_of
first_is passes zero k l t h = absurd (omega arith)
first_is passes (suc n) zero l t h = simp t
first_is passes (suc n) (suc k) l t h =
    simp (h 0 (omega arith), first_is (λ j. passes (suc j)) n k (omega arith) t (λ j m. h (suc j) (omega arith)))

-- it passes where there is one, and none before it does
pub first_passes : (passes : ℕ → Bool) (n : ℕ) → first_of passes n < n → passes (first_of passes n) ≡ true
unfolding first_of
first_passes passes zero l = absurd (omega arith)
first_passes passes (suc n) l = go (passes 0) refl (first_of (λ k. passes (suc k)) n) (first_passes (λ k. passes (suc k)) n) l
  where
    go : (t : Bool) → passes 0 ≡ t → (m : ℕ) → (m < n → passes (suc m) ≡ true) → cond t 0 (suc m) < suc n → passes (cond t 0 (suc m)) ≡ true
    go true e m rest l = e
    go false e m rest l = rest (omega arith)

pub first_least : (passes : ℕ → Bool) (n j : ℕ) → j < first_of passes n → passes j ≡ false
unfolding first_of
first_least passes zero j l = absurd (omega arith)
first_least passes (suc n) j l = go (passes 0) refl (first_of (λ k. passes (suc k)) n) (first_least (λ k. passes (suc k)) n) j l
  where
    go : (t : Bool) → passes 0 ≡ t → (m : ℕ) → ((j : ℕ) → j < m → passes (suc j) ≡ false) → (j : ℕ) → j < cond t 0 (suc m) → passes j ≡ false
    go true e m rest j l = absurd (omega arith)
    go false e m rest zero l = e
    go false e m rest (suc j) l = rest j (omega arith)

-- ---- what is found in two bands of w columns of h
module _ (first second : List Float) (w h : ℕ) where
  pub found_none : Agree first second (w * h) → found_in first second w h ≡ Equal
  unfolding found_in
  found_none e = simp (first_none (differ_at first second) (w * h) e, le-ltb (w * h) (w * h) (omega arith))

  pub found_first : {c r : ℕ} → FirstAt first second w h c r → found_in first second w h ≡ Differs c r
  unfolding found_in
  found_first {c} {r} p =
      let inside = digits_lt p.column p.row in
      let k = first_is (differ_at first second) (w * h) (c * h + r) inside p.here p.earlier in
      simp (k, lt-ltb (c * h + r) (w * h) inside, digits_div c p.row, digits_mod c p.row)

  -- and back: k is the first place that differs, or as many as there are
  module _ (k : ℕ) (least : Agree first second k) (passes : k < w * h → differ_at first second k ≡ true) where
    abbrev told : Bool → Compared
    told t = cond t (Differs (k / h) (k % h)) Equal

    all_agree : (t : Bool) → ltb k (w * h) ≡ t → told t ≡ Equal → Agree first second (w * h)
    all_agree true q e = let z : ◌≡◌ {A = ℕ} 0 1 = cc in absurd (omega arith)
    all_agree false q e = λ j l. least j (omega (arith, ltb-false k (w * h) q))

    columns : (h : ℕ) → k < w * h → 0 < h
    columns zero l = absurd (omega arith)
    columns (suc h) l = omega arith

    is_first : (t : Bool) (c r : ℕ) → ltb k (w * h) ≡ t → told t ≡ Differs c r → FirstAt first second w h c r
    is_first true c r q e =
        let inside = ltb-true k (w * h) q in
        let some = columns h inside in
        let there : c * h + r ≡ k = cc (div-add-mod' k h) in
        record {
          column = let same : k / h ≡ c = cc in rw same at ((div-lt_iff_lt-mul some).1 inside);
          row = let same : k % h ≡ r = cc in rw same at (mod-lt k some);
          here = ap (differ_at first second) there ∙ passes inside;
          earlier = λ j l. least j (omega arith);
        }
    is_first false c r q e = let z : ◌≡◌ {A = ℕ} 0 1 = cc in absurd (omega arith)

  pub none_found : found_in first second w h ≡ Equal → Agree first second (w * h)
  unfolding found_in
  none_found e =
      let p = differ_at first second in
      all_agree (first_of p (w * h)) (first_least p (w * h)) (first_passes p (w * h)) _ refl e

  pub first_found : {c r : ℕ} → found_in first second w h ≡ Differs c r → FirstAt first second w h c r
  unfolding found_in
  first_found {c} {r} e =
      let p = differ_at first second in
      is_first (first_of p (w * h)) (first_least p (w * h)) (first_passes p (w * h)) _ c r refl e

  -- ---- what the entry answers
  pub equal_agree : BandsCompared first second w h (Ok Equal) → Agree first second (w * h)
  equal_agree p = none_found (found first second w h Equal p).1

  pub differs_first : {c r : ℕ} → BandsCompared first second w h (Ok (Differs c r)) → FirstAt first second w h c r
  differs_first {c} {r} p = first_found (found first second w h (Differs c r) p).1

  -- and back, where every test passes
  module _ (pass : tests_of w h (length first) (length second) ≡ Ok tt) where
    pub agree_equal : Agree first second (w * h) → BandsCompared first second w h (Ok Equal)
    agree_equal e = compared first second w h Equal pass (sym (found_none e))

    pub first_differs : {c r : ℕ} → FirstAt first second w h c r → BandsCompared first second w h (Ok (Differs c r))
    first_differs {c} {r} p = compared first second w h (Differs c r) pass (sym (found_first p))
