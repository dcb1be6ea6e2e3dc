-- Laws of the tests: where one passes its premises hold (`premised`, `pairs_premised`, `through_premised`), since each part of it tests one of them, and at distances past the taps there are no products. What meets those through levels comes back, by the theorem (`through_back`).
use Rattle.std.specs.Prelude.{◌≡◌, refl, Bool, true, false, not, ◌&&◌, ◌≢◌, List, [], ◌∷◌, ℕ, zero, suc, ◌+◌, ◌-◌, ◌*◌, ◌/◌, ◌^◌, ◌≤◌, ◌<◌, leb, eqb, ltb, length, get_or, ℤ, pos, negsuc, nat_abs, ◌+ℤ◌, ◌-ℤ◌, ◌*ℤ◌}
use Rattle.std.proofs.Common.{sym, ap, subst, ◌∙◌, true≢false, le_trans, arith, leb-true, eqb-true, lt-ltb, lit<}
use Rattle.std.proofs.Math.Decide.{dec_lt, ℕ_discrete}
use Rattle.std.proofs.lemmas.Bool.{not-true}
use Rattle.std.proofs.lemmas.List.{length-map}
use Rattle.std.proofs.Math.ListN.{get_or-eq_default}
use Rattle.std.proofs.Math.IntN.{+ℤ_idl, -ℤ-+ℤ_cancel, *ℤ-zero}
use Rattle.std.specs.Float.{Format}
use Rattle.std.specs.Float.Ieee.{prec, of_int}
use Rattle.numbers.specs.Words.{longest, at}
use Rattle.numbers.specs.Tests.{both, cond_true}
use Rattle.whole.specs.Terms.{nothing}
use Rattle.whole.specs.Sums.{integers}
use Rattle.whole.specs.Floats.{Whole, at_ℤ, Holds, floats}
use Rattle.whole.specs.Exact.{int_holds}
use Rattle.border.specs.declared.Border.{Border}
use Rattle.border.specs.declared.Border.TheVariants.{Clamp, Wrap, Reflect, Zeros, Reflect101, Mirror, Mirror101}
use Rattle.border.specs.Rule.{borders, number_of}
use Rattle.border.specs.Rules.{listed}
use Rattle.bank.specs.Lengths.{bad_taps}
use Rattle.bank.specs.Banks as Banks
use Rattle.bank.specs.Tested.{good_taps}
use Rattle.packed.specs.Lengths.{too_short}
use Rattle.exact.specs.Restoring.{squares, sizes, shifted, tap_at, crossed, weight, largest_sizes, WholeTaps}
use Rattle.exact.specs.Made.{made_taps, made_highs}
use Rattle.exact_levels.specs.Through.{whole_line, Bounded, Regained}
use Rattle.exact_levels.proofs.Steps.{through_exact}
use Rattle.worked.specs.Meeting.{every, under_each, taps_meet, samples_meet, bound_meets, taps_held, held_by, meeting, Met, same_ℤ, long_alike, weights_meet, pairs_held, pairs_bound, pairs_meeting, PairsMet, largest_of, line_meets, divisor_meets, through_meeting, MetThrough, back_through}

every_says : (n : ℕ) (p : ℕ → Bool) → every n p ≡ true → (i : ℕ) → i < n → p i ≡ true
every_says zero p e i h = absurd (omega arith)
every_says (suc n) p e i h = go (ℕ_discrete i n) (every_says n p (both (every n p) (p n) e).0 i)
  where
    go : Dec (i ≡ n) → (i < n → p i ≡ true) → p i ≡ true
    go (yes q) r = ap p q ∙ (both (every n p) (p n) e).1
    go (no q) r = r (omega arith)

pub each_says : (p : Border → Bool) → under_each p ≡ true → (b : Border) → p b ≡ true
each_says p e b = subst (λ (c : Border). p c ≡ true) (listed b) (every_says (length borders) (λ k. p (get_or borders k Clamp)) e (number_of b) (few b))
  where
    few : (b : Border) → number_of b < length borders
    few Clamp = lit< tt
    few Wrap = lit< tt
    few Reflect = lit< tt
    few Zeros = lit< tt
    few Reflect101 = lit< tt
    few Mirror = lit< tt
    few Mirror101 = lit< tt

zero_size : (y : ℤ) → nat_abs y ≡ 0 → y ≡ pos 0
zero_size (pos n) e = ap pos e
zero_size (negsuc n) e = absurd (omega arith)

-- at a distance past the taps there are no products
far_apart : (z : List ℤ) (d : ℕ) → length z ≤ d → shifted z d ≡ pos 0
far_apart z d h =
    nothing integers (length z) (λ j. at_ℤ z j *ℤ at_ℤ z (j + d))
    (λ j l. let o : length z ≤ j + d = omega arith in ap (λ (y : ℤ). at_ℤ z j *ℤ y) (get_or-eq_default z (pos 0) o) ∙ *ℤ-zero (at_ℤ z j))

apart_all : (z : List ℤ) → every (length z) (λ k. eqb (nat_abs (shifted z (2 * suc k))) 0) ≡ true → (k : ℕ) → 0 < k → shifted z (2 * k) ≡ pos 0
apart_all z e zero h = absurd (omega arith)
apart_all z e (suc k) h = go (dec_lt k (length z))
  where
    go : Dec (k < length z) → shifted z (2 * suc k) ≡ pos 0
    go (yes l) = zero_size (shifted z (2 * suc k)) (eqb-true (nat_abs (shifted z (2 * suc k))) 0 (every_says (length z) (λ k. eqb (nat_abs (shifted z (2 * suc k))) 0) e k l))
    go (no n) = far_apart z (2 * suc k) (omega arith)

-- the samples, and each list of taps
record Sampled (f : Format) (F : ℕ) (v : List ℤ) (A : ℕ) : Type 0 where
  pub samples : Holds (floats f v) v
  pub count : length v ≡ length (floats f v)
  pub enough : F ≤ length (floats f v)
  pub limit : length (floats f v) ≤ longest
  pub one : 1 ≤ A
  pub small : (i : ℕ) → i < length v → nat_abs (at_ℤ v i) ≤ A

sampled : (f : Format) (z v : List ℤ) (A : ℕ) → samples_meet z v A ≡ true → leb A (2 ^ prec f) ≡ true → Sampled f (length z) v A
sampled f z v A e h =
    let s = both (leb (length z) (length v) && leb (length v) longest && leb 1 A) (every (length v) (λ i. leb (nat_abs (at_ℤ v i)) A)) e in
    let s₁ = both (leb (length z) (length v) && leb (length v) longest) (leb 1 A) s.0 in
    let s₂ = both (leb (length z) (length v)) (leb (length v) longest) s₁.0 in
    let small : (i : ℕ) → i < length v → nat_abs (at_ℤ v i) ≤ A = λ i l. leb-true (nat_abs (at_ℤ v i)) A (every_says (length v) (λ i. leb (nat_abs (at_ℤ v i)) A) s.1 i l) in
    let count : length (floats f v) ≡ length v = length-map v (of_int f) in
    record {
      samples = int_holds f v (λ i l. le_trans (small i l) (leb-true A (2 ^ prec f) h));
      count = sym count;
      enough = rw count (leb-true (length z) (length v) s₂.0);
      limit = rw count (leb-true (length v) longest s₂.1);
      one = leb-true 1 A s₁.1;
      small = small;
    }

taps_held_lem : (f : Format) (z : List ℤ) → taps_held f z ≡ true → Holds (floats f z) z
taps_held_lem f z e = int_holds f z (λ j l. leb-true (nat_abs (at_ℤ z j)) (2 ^ prec f) (every_says (length z) (λ j. leb (nat_abs (at_ℤ z j)) (2 ^ prec f)) e j l))

pub premised : (f : Format) (b : Border) (z v : List ℤ) (A : ℕ) → meeting f z v A ≡ true → Met f b z v A
premised f b z v A e =
    let all = both (taps_meet z && samples_meet z v A && bound_meets f z A) (held_by f z A) e in
    let most = both (taps_meet z && samples_meet z v A) (bound_meets f z A) all.0 in
    let lines = both (taps_meet z) (samples_meet z v A) most.0 in
    let t = both (not (bad_taps (length z))) (every (length z) (λ k. eqb (nat_abs (shifted z (2 * suc k))) 0)) lines.0 in
    let h = both (leb A (2 ^ prec f)) (taps_held f z) all.1 in
    let s = sampled f z v A lines.1 h.0 in
    let lows = taps_held_lem f z h.1 in
    let told : length (floats f z) ≡ length z = length-map z (of_int f) in
    record {
      taps = rw told (good_taps (length z) (not-true (bad_taps (length z)) t.0));
      lows = made_taps (length (floats f z)) (floats f z) z lows told;
      told = sym told;
      apart = apart_all z t.1;
      highs = λ j k. made_highs (floats f z) z lows told b j (omega arith);
      samples = s.samples;
      count = s.count;
      enough = rw told s.enough;
      limit = s.limit;
      one = s.one;
      small = s.small;
      bound = leb-true (2 * A * sizes z * sizes z) (2 ^ prec f) most.1;
    }

-- ---- four lists

same_says : (x y : ℤ) → same_ℤ x y ≡ true → x ≡ y
same_says x y e = sym (-ℤ-+ℤ_cancel x y) ∙ ap (λ (d : ℤ). d +ℤ y) (zero_size (x -ℤ y) (eqb-true (nat_abs (x -ℤ y)) 0 e)) ∙ +ℤ_idl y

-- at a distance past the taps there are no products, on or back
module _ (s a : List ℤ) (same : length s ≡ length a) (e : ℕ) (h : e < 2) where
  no_products : (d : ℤ) → ((p : ℕ) → p < length a + 1 → tap_at a (pos p +ℤ d) ≡ pos 0) → crossed s a e d ≡ pos 0
  no_products d n =
      nothing integers (length s / 2) (λ t. at_ℤ s (2 * t + e) *ℤ tap_at a (pos (2 * t + e) +ℤ d))
      (λ t l. ap (λ (y : ℤ). at_ℤ s (2 * t + e) *ℤ y) (n (2 * t + e) (omega arith)) ∙ *ℤ-zero (at_ℤ s (2 * t + e)))

  far_on : (k : ℕ) → length a ≤ k → crossed s a e (pos k) ≡ pos 0
  far_on k l = no_products (pos k) (λ p j. let o : length a ≤ p + k = omega arith in get_or-eq_default a (pos 0) o)

  far_back : (k : ℕ) → length a ≤ k → crossed s a e (negsuc k) ≡ pos 0
  far_back k l = no_products (negsuc k) (λ p j. ap (tap_at a) (cond_true (ltb p (suc k)) (negsuc (suc k - suc p)) (pos (p - suc k)) (lt-ltb p (suc k) (omega arith))))

module _ (al ah sl sh : List ℤ) (hah : length ah ≡ length al) (hsl : length sl ≡ length al) (hsh : length sh ≡ length al) where
  abbrev near : ℕ → ℕ → Bool
  near e k = same_ℤ (weight al ah sl sh e (pos (suc k))) (pos 0) && same_ℤ (weight al ah sl sh e (negsuc k)) (pos 0)

  weights_apart : every 2 (λ e. every (length al) (near e)) ≡ true → (e : ℕ) (d : ℤ) → e < 2 → 0 < nat_abs d → weight al ah sl sh e d ≡ pos 0
  weights_apart t e d h k = go d k
    where
      says : (k : ℕ) → k < length al → near e k ≡ true
      says = every_says (length al) (near e) (every_says 2 (λ e. every (length al) (near e)) t e h)

      here : (k : ℕ) → k < length al → (weight al ah sl sh e (pos (suc k)) ≡ pos 0) × (weight al ah sl sh e (negsuc k) ≡ pos 0)
      here k l =
          let b = both (same_ℤ (weight al ah sl sh e (pos (suc k))) (pos 0)) (same_ℤ (weight al ah sl sh e (negsuc k)) (pos 0)) (says k l) in
          (same_says (weight al ah sl sh e (pos (suc k))) (pos 0) b.0, same_says (weight al ah sl sh e (negsuc k)) (pos 0) b.1)

      none : {x y : ℤ} → x ≡ pos 0 → y ≡ pos 0 → x +ℤ y ≡ pos 0
      none p q = rw (p, q) refl

      on : (k : ℕ) → Dec (k < length al) → weight al ah sl sh e (pos (suc k)) ≡ pos 0
      on k (yes l) = (here k l).0
      on k (no n) = none (far_on sl al hsl e h (suc k) (omega arith)) (far_on sh ah (hsh ∙ sym hah) e h (suc k) (omega arith))

      back : (k : ℕ) → Dec (k < length al) → weight al ah sl sh e (negsuc k) ≡ pos 0
      back k (yes l) = (here k l).1
      back k (no n) = none (far_back sl al hsl e h k (omega arith)) (far_back sh ah (hsh ∙ sym hah) e h k (omega arith))

      go : (d : ℤ) → 0 < nat_abs d → weight al ah sl sh e d ≡ pos 0
      go (pos zero) k = absurd (omega arith)
      go (pos (suc n)) k = on n (dec_lt n (length al))
      go (negsuc n) k = back n (dec_lt n (length al))

pub pairs_premised : (f : Format) (b : Border) (al ah sl sh v : List ℤ) (S : ℤ) (A : ℕ) → pairs_meeting f al ah sl sh v S A ≡ true → PairsMet f b al ah sl sh v S A
pairs_premised f b al ah sl sh v S A e =
    let all = both (long_alike al ah sl sh && weights_meet al ah sl sh S && samples_meet al v A && pairs_bound f al ah sl sh A) (pairs_held f al ah sl sh A) e in
    let most = both (long_alike al ah sl sh && weights_meet al ah sl sh S && samples_meet al v A) (pairs_bound f al ah sl sh A) all.0 in
    let lines = both (long_alike al ah sl sh && weights_meet al ah sl sh S) (samples_meet al v A) most.0 in
    let w = both (long_alike al ah sl sh) (weights_meet al ah sl sh S) lines.0 in
    let n₁ = both (not (bad_taps (length al)) && eqb (length ah) (length al) && eqb (length sl) (length al)) (eqb (length sh) (length al)) w.0 in
    let n₂ = both (not (bad_taps (length al)) && eqb (length ah) (length al)) (eqb (length sl) (length al)) n₁.0 in
    let n₃ = both (not (bad_taps (length al))) (eqb (length ah) (length al)) n₂.0 in
    let h₁ = both (held_by f al A && taps_held f ah && taps_held f sl) (taps_held f sh) all.1 in
    let h₂ = both (held_by f al A && taps_held f ah) (taps_held f sl) h₁.0 in
    let h₃ = both (held_by f al A) (taps_held f ah) h₂.0 in
    let h₄ = both (leb A (2 ^ prec f)) (taps_held f al) h₃.0 in
    let long-ah = eqb-true (length ah) (length al) n₃.1 in
    let long-sl = eqb-true (length sl) (length al) n₂.1 in
    let long-sh = eqb-true (length sh) (length al) n₁.1 in
    let weights = both (every 2 (λ e. same_ℤ (weight al ah sl sh e (pos 0)) S)) (every 2 (λ e. every (length al) (near al ah sl sh long-ah long-sl long-sh e))) w.1 in
    let s = sampled f al v A lines.1 h₄.0 in
    let told : length (floats f al) ≡ length al = length-map al (of_int f) in
    let taps : (z : List ℤ) → length z ≡ length al → taps_held f z ≡ true → WholeTaps (length (floats f al)) (Banks.array_of (length (floats f al)) (at (floats f z))) z =
    λ z n t. record { holds = made_taps (length (floats f al)) (floats f z) z (taps_held_lem f z t) (told ∙ sym n); told = n ∙ sym told } in
    record {
      taps = rw told (good_taps (length al) (not-true (bad_taps (length al)) n₃.0));
      there_low = taps al refl h₄.1;
      there_high = taps ah long-ah h₃.1;
      back_low = taps sl long-sl h₂.1;
      back_high = taps sh long-sh h₁.1;
      here = λ e l. same_says (weight al ah sl sh e (pos 0)) S (every_says 2 (λ e. same_ℤ (weight al ah sl sh e (pos 0)) S) weights.0 e l);
      apart = weights_apart al ah sl sh long-ah long-sl long-sh weights.1;
      samples = s.samples;
      count = s.count;
      enough = rw told s.enough;
      limit = s.limit;
      one = s.one;
      small = s.small;
      bound = leb-true (2 * A * largest_sizes al ah sl sh * largest_sizes al ah sl sh) (2 ^ prec f) most.1;
    }

-- ---- through levels

line_bounded : (f : Format) (z u : List ℤ) (A : ℕ) → line_meets f z u A ≡ true → Bounded f z u A
line_bounded f z u A e =
    let all = both (leb 1 A && every (length u) (λ i. leb (nat_abs (at_ℤ u i)) A)) (bound_meets f z A) e in
    let s = both (leb 1 A) (every (length u) (λ i. leb (nat_abs (at_ℤ u i)) A)) all.0 in
    record {
      one = leb-true 1 A s.0;
      small = λ i l. leb-true (nat_abs (at_ℤ u i)) A (every_says (length u) (λ i. leb (nat_abs (at_ℤ u i)) A) s.1 i l);
      bound = leb-true (2 * A * sizes z * sizes z) (2 ^ prec f) all.1;
    }

-- a whole number that the format holds is its float
float_whole : (f : Format) (c : ℤ) → nat_abs c ≤ 2 ^ prec f → Whole (of_int f c) c
float_whole f c h = (int_holds f (c ∷ []) alone).whole 0 (omega arith)
  where
    alone : (i : ℕ) → i < length (c ∷ []) → nat_abs (at_ℤ (c ∷ []) i) ≤ 2 ^ prec f
    alone zero l = h
    alone (suc i) l = absurd (omega arith)

not_zero : (c : ℤ) → not (eqb (nat_abs c) 0) ≡ true → c ≢ pos 0
not_zero c e z = absurd (true≢false (sym e ∙ ap (λ (y : ℤ). not (eqb (nat_abs y) 0)) z))

pub through_premised : (f : Format) (b : Border) (z v : List ℤ) (As : List ℕ) → through_meeting f b z v As ≡ true → MetThrough f b z v As
through_premised f b z v As e =
    let all = both (meeting f z v (largest_of As 0) && every (length As) (λ k. line_meets f z (whole_line (length z) z b v k) (largest_of As k))) (divisor_meets f z) e in
    let lines = both (meeting f z v (largest_of As 0)) (every (length As) (λ k. line_meets f z (whole_line (length z) z b v k) (largest_of As k))) all.0 in
    let d = both (not (eqb (nat_abs (squares z)) 0)) (leb (nat_abs (squares z)) (2 ^ prec f)) all.1 in
    let told : length (floats f z) ≡ length z = length-map z (of_int f) in
    record {
      first = premised f b z v (largest_of As 0) lines.0;
      each = λ k l. subst (λ (n : ℕ). Bounded f z (whole_line n z b v k) (largest_of As k)) (sym told)
          (line_bounded f z (whole_line (length z) z b v k) (largest_of As k) (every_says (length As) (λ k. line_meets f z (whole_line (length z) z b v k) (largest_of As k)) lines.1 k l));
      divisor = float_whole f (squares z) (leb-true (nat_abs (squares z)) (2 ^ prec f) d.1);
      above = not_zero (squares z) d.0;
    }

-- through as many levels as there are numbers A, where the line allows them
pub through_back : (f : Format) (b : Border) (z v : List ℤ) (As : List ℕ) → MetThrough f b z v As → 1 ≤ length As → too_short (length v) (length z) (length As) ≡ false
    → Regained f b v (back_through f b z v (length As))
through_back f b z v As x some allowed =
    let bank = Banks.bank_of (floats f z) (Banks.mirror (floats f z)) b in
    through_exact f b bank.taps bank.low bank.high (floats f v) (of_int f (squares z)) (length As) z v (largest_of As) x some (rw (length-map v (of_int f), length-map z (of_int f)) allowed)
