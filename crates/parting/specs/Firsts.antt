-- Laws of where bands part: the answer names a place just where that place is the first of its band that parts, and of the details only where the approximations are the same; it says same just where neither part.
use Rattle.std.specs.Prelude.{◌≡◌, refl, Bool, true, cond, not, List, eqb, length, Float}
use Rattle.std.proofs.Math.Path.{sym, ap}
use Rattle.std.proofs.Common.{◌∙◌, true≢false, arith}
use Rattle.std.proofs.Math.Bool.{false}
use Prim.Native.Nat.{ℕ, min, ◌≤◌, ◌<◌}
use Rattle.std.proofs.Math.Decide.{dec_lt}
use borrow.Author.Tests.{lt-ltb, le-ltb, ltb-true, ltb-false, eq-eqb}
use Rattle.std.specs.Float.Ieee.{is_nan, to_bits}
use Rattle.std.specs.Float.{binary64}
use Rattle.comparing.specs.Comparings.{differs, differ_at, first_of}
use Rattle.comparing.specs.Firsts.{first_none, first_is, first_passes, first_least}
use Rattle.parting.specs.declared.Parting.{Parting}
use Rattle.parting.specs.declared.Parting.TheVariants.{Same, Approx, Detail}
use Rattle.parting.specs.Partings.{longer, parts_at, part_at, parts, parting_of, SameBelow, SameLists, PartFirstAt, Parted}

-- no float differs from itself
alike : (x : Float) → differs x x ≡ false
alike x = go (is_nan x) refl
  where
    go : (t : Bool) → is_nan x ≡ t → cond t (not t) (cond t true (not (eqb (to_bits binary64 x) (to_bits binary64 x)))) ≡ false
    go true e = refl
    go false e = simp (eq-eqb (to_bits binary64 x) (to_bits binary64 x) refl)

module _ (x y : List Float) where
  -- ---- one place: both lists have it, one alone, or neither
  pub both_have : (k : ℕ) → k < length x → k < length y → parts_at x y k ≡ differ_at x y k
  unfolding parts_at
  both_have k h l = simp (lt-ltb k (length x) h, lt-ltb k (length y) l)

  first_has : (k : ℕ) → k < length x → length y ≤ k → parts_at x y k ≡ true
  unfolding parts_at
  first_has k h l = simp (lt-ltb k (length x) h, le-ltb k (length y) l)

  second_has : (k : ℕ) → length x ≤ k → k < length y → parts_at x y k ≡ true
  unfolding parts_at
  second_has k h l = simp (le-ltb k (length x) h, lt-ltb k (length y) l)

  none_has : (k : ℕ) → longer x y ≤ k → parts_at x y k ≡ false
  unfolding parts_at
  none_has k h = simp (le-ltb k (length x) (omega arith), le-ltb k (length y) (omega arith))

  -- a place where they part is one that the longer has
  has : {k : ℕ} → parts_at x y k ≡ true → k < longer x y
  has {k} e = go (dec_lt k (longer x y))
    where
      go : Dec (k < longer x y) → k < longer x y
      go (yes h) = h
      go (no h) = let z = sym e ∙ none_has k (omega arith) in absurd (true≢false z)

  -- ---- the first place where two lists part
  pub part_first : {k : ℕ} → PartFirstAt x y k → part_at x y ≡ k
  unfolding part_at
  part_first {k} p = first_is (parts_at x y) (longer x y) k (has p.here) p.here p.earlier

  -- where all that both have is the same, it is the end of the shorter
  pub part_end : SameBelow x y (min (length x) (length y)) → part_at x y ≡ min (length x) (length y)
  unfolding part_at
  part_end e = go (dec_lt (length x) (length y)) (dec_lt (length y) (length x))
    where
      n : ℕ
      n = min (length x) (length y)

      go : Dec (length x < length y) → Dec (length y < length x) → first_of (parts_at x y) (longer x y) ≡ n
      go (yes h) l = first_is (parts_at x y) (longer x y) n (omega arith) (second_has n (omega arith) (omega arith)) e
      go (no h) (yes l) = first_is (parts_at x y) (longer x y) n (omega arith) (first_has n (omega arith) (omega arith)) e
      go (no h) (no l) = first_none (parts_at x y) (longer x y) (λ k m. e k (omega arith)) ∙ omega arith

  parts_first : parts x y ≡ true → PartFirstAt x y (part_at x y)
  unfolding part_at
  parts_first e =
      record {
        here = first_passes (parts_at x y) (longer x y) (ltb-true (first_of (parts_at x y) (longer x y)) (longer x y) e);
        earlier = first_least (parts_at x y) (longer x y);
      }

  first_parts : {k : ℕ} → PartFirstAt x y k → parts x y ≡ true
  first_parts {k} p = lt-ltb (part_at x y) (longer x y) (omega (arith, part_first p, has p.here))

  parts_never : parts x y ≡ false → SameLists x y
  unfolding part_at
  parts_never e k = go (dec_lt k (longer x y))
    where
      go : Dec (k < longer x y) → parts_at x y k ≡ false
      go (yes h) = first_least (parts_at x y) (longer x y) k (omega (arith, ltb-false (first_of (parts_at x y) (longer x y)) (longer x y) e))
      go (no h) = none_has k (omega arith)

  never_parts : SameLists x y → parts x y ≡ false
  unfolding part_at
  never_parts e = le-ltb (part_at x y) (longer x y) (omega (arith, first_none (parts_at x y) (longer x y) (λ k l. e k)))

  -- by names of the place and of the longer's length
  pub below_longer : (i n : ℕ) → i ≡ part_at x y → n ≡ longer x y → i < n → parts x y ≡ true
  below_longer i n e q h = lt-ltb (part_at x y) (longer x y) (omega arith)

  pub at_longer : (i n : ℕ) → i ≡ part_at x y → n ≡ longer x y → n ≤ i → parts x y ≡ false
  at_longer i n e q h = le-ltb (part_at x y) (longer x y) (omega arith)

-- ---- two pairs of bands, by whether each pair of lists parts and where
module _ (i j : ℕ) where
  abbrev told : Bool → Bool → Parting
  told s t = cond s (Approx i) (cond t (Detail j) Same)

  told_approx : (s t : Bool) {k : ℕ} → told s t ≡ Approx k → (s ≡ true) × (i ≡ k)
  told_approx true t e = (refl, cc)
  told_approx false true e = let z : ◌≡◌ {A = ℕ} 0 1 = cc in absurd (omega arith)
  told_approx false false e = let z : ◌≡◌ {A = ℕ} 0 1 = cc in absurd (omega arith)

  told_detail : (s t : Bool) {k : ℕ} → told s t ≡ Detail k → (s ≡ false) × (t ≡ true) × (j ≡ k)
  told_detail true t e = let z : ◌≡◌ {A = ℕ} 0 1 = cc in absurd (omega arith)
  told_detail false true e = (refl, refl, cc)
  told_detail false false e = let z : ◌≡◌ {A = ℕ} 0 1 = cc in absurd (omega arith)

  told_same : (s t : Bool) → told s t ≡ Same → (s ≡ false) × (t ≡ false)
  told_same true t e = let z : ◌≡◌ {A = ℕ} 0 1 = cc in absurd (omega arith)
  told_same false true e = let z : ◌≡◌ {A = ℕ} 0 1 = cc in absurd (omega arith)
  told_same false false e = (refl, refl)

module _ (a d a' d' : List Float) where
  -- ---- by what is known of each pair of lists
  pub approx_parts : (i : ℕ) → i ≡ part_at a a' → parts a a' ≡ true → Parted a d a' d' (Approx i)
  unfolding parting_of
  approx_parts i e s =
      record { answer = ap (λ (k : ℕ). Approx k) e ∙ sym (ap (λ (t : Bool). told (part_at a a') (part_at d d') t (parts d d')) s) }

  pub detail_parts : (j : ℕ) → parts a a' ≡ false → j ≡ part_at d d' → parts d d' ≡ true → Parted a d a' d' (Detail j)
  unfolding parting_of
  detail_parts j s e t =
      let go = told (part_at a a') (part_at d d') in
      record { answer = ap (λ (k : ℕ). Detail k) e ∙ sym (ap (λ (u : Bool). go u (parts d d')) s ∙ ap (λ (u : Bool). go false u) t) }

  pub neither_parts : parts a a' ≡ false → parts d d' ≡ false → Parted a d a' d' Same
  unfolding parting_of
  neither_parts s t =
      let go = told (part_at a a') (part_at d d') in
      record { answer = sym (ap (λ (u : Bool). go u (parts d d')) s ∙ ap (λ (u : Bool). go false u) t) }

  -- ---- what the entry answers
  pub approx_first : {k : ℕ} → Parted a d a' d' (Approx k) → PartFirstAt a a' k
  unfolding parting_of
  approx_first p = let q = told_approx (part_at a a') (part_at d d') (parts a a') (parts d d') (sym p.answer) in rw q.1 at (parts_first a a' q.0)

  pub detail_first : {k : ℕ} → Parted a d a' d' (Detail k) → SameLists a a' × PartFirstAt d d' k
  unfolding parting_of
  detail_first p =
      let q = told_detail (part_at a a') (part_at d d') (parts a a') (parts d d') (sym p.answer) in
      (parts_never a a' q.0, rw q.2 at (parts_first d d' q.1))

  pub same_never : Parted a d a' d' Same → SameLists a a' × SameLists d d'
  unfolding parting_of
  same_never p = let q = told_same (part_at a a') (part_at d d') (parts a a') (parts d d') (sym p.answer) in (parts_never a a' q.0, parts_never d d' q.1)

  -- and back
  pub first_approx : {k : ℕ} → PartFirstAt a a' k → Parted a d a' d' (Approx k)
  first_approx {k} p = approx_parts k (sym (part_first a a' p)) (first_parts a a' p)

  pub first_detail : {k : ℕ} → SameLists a a' → PartFirstAt d d' k → Parted a d a' d' (Detail k)
  first_detail {k} e p = detail_parts k (never_parts a a' e) (sym (part_first d d' p)) (first_parts d d' p)

  pub never_same : SameLists a a' → SameLists d d' → Parted a d a' d' Same
  never_same e q = neither_parts (never_parts a a' e) (never_parts d d' q)

-- a list never parts from itself, nor do bands
same_list : (x : List Float) → SameLists x x
same_list x k = go (dec_lt k (length x))
  where
    go : Dec (k < length x) → parts_at x x k ≡ false
    go (yes h) = both_have x x k h h ∙ alike _
    go (no h) = none_has x x k (omega arith)

pub same_parting : (a d : List Float) → parting_of a d a d ≡ Same
same_parting a d = sym (never_same a d a d (same_list a) (same_list d)).answer
