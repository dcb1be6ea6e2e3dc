-- Laws of the tests: where an answer is done every test passed, which gives the work what it asks for; and then what the work leaves is what is promised.
use Rattle.std.specs.Prelude.{◌≡◌, refl, ◌+◌, ◌<◌, ◌≤◌, suc, zero, ℕ, eqb, leb, ltb, nat_abs, ℤ, false, not, List, Float, length, take, Ok}
use Rattle.std.proofs.Common.{sym, ap, subst, ◌∙◌, eqb-true, eq-eqb, lt-ltb, ltb-false, ne_eqb, lit<, arith}
use Rattle.std.specs.Float.{Format}
use Rattle.border.specs.declared.Border.{Border}
use Rattle.convolution.specs.Convolutions.{number_of, answer_of, Convolved}
use Rattle.border.specs.Rule.{padded}
use Rattle.border.specs.Reach.{Paddable}
use Rattle.convolution.specs.Pads.{beyond, left_pad, needed, too_far, right_pad, pad_over}
use Rattle.convolution.specs.Places.{wide, within}
use Rattle.convolution.specs.Turns.{copied, of_samples_lem}
use Rattle.numbers.specs.Tests.{neither, passed}
use Rattle.numbers.specs.Words.{at, longest, placed, plus_zero, tab, written}
use Rattle.std.proofs.lemmas.Bool.{eqb-false, not-false}
use Rattle.std.proofs.Math.Bool.{and-true}
use Rattle.convolution.specs.Works.{Kernel, Summing, place_of}

-- a kernel that is not empty
pub record Convolving (b : Border) (n o f : ℕ) (c : ℤ) (s : ℕ) : Type 0 where
  pub kernel : Kernel f c
  pub limit : n ≤ longest
  pub some : 0 < n
  pub both : o ≡ n
  pub room : needed n f c ≤ s
  pub near : too_far b n (left_pad f c) (right_pad f c) ≡ false

pub some_taps : (n : ℕ) → eqb n 0 ≡ false → 0 < n
some_taps zero e = absurd (eqb-false 0 0 e refl)
some_taps (suc n) e = omega arith

pub convolving : (b : Border) (n o f : ℕ) (c : ℤ) (s : ℕ) → (f ≡ 0 → ⊥) → answer_of b n o f c s ≡ Ok tt → Convolving b n o f c s
unfolding answer_of
convolving b n o f c s h e =
    let p1 = passed number_of (beyond n f c) e (lit< tt) refl in
    let p2 = passed number_of (not (eqb n o)) p1.1 (lit< tt) refl in
    let p3 = passed number_of (eqb n 0) p2.1 (lit< tt) refl in
    let p4 = simp (ne_eqb f 0 h) at p3.1 in
    let p5 = passed number_of (ltb s (needed n f c)) p4 (lit< tt) refl in
    let p6 = passed number_of (leb f (nat_abs c)) p5.1 (lit< tt) refl in
    let p7 = passed number_of (too_far b n (left_pad f c) (right_pad f c)) p6.1 (lit< tt) refl in
    let w = within n f c p1.0 in
    record {
      kernel = record { some = some_taps f (ne_eqb f 0 h); most = w.1; small = w.2 };
      limit = w.0;
      some = some_taps n p3.0;
      both = sym (eqb-true n o (not-false _ p2.0));
      room = ltb-false s (needed n f c) p5.0;
      near = p7.0;
    }

-- any kernel: the output is as long as the line
pub copying : (b : Border) (n o f : ℕ) (c : ℤ) (s : ℕ) → answer_of b n o f c s ≡ Ok tt → o ≡ n
unfolding answer_of
copying b n o f c s e =
    let p1 = passed number_of (beyond n f c) e (lit< tt) refl in
    let p2 = passed number_of (not (eqb n o)) p1.1 (lit< tt) refl in
    sym (eqb-true n o (not-false _ p2.0))

-- the pads may be asked for
pub pads : {b : Border} {n o f : ℕ} {c : ℤ} {s left right : ℕ} → Convolving b n o f c s → left ≡ left_pad f c → right ≡ right_pad f c → Paddable b n left right
unfolding pad_over
pads {b} {n} {o} {f} {c} p el er = record {
  some = p.some;
  few = p.limit;
  near = λ e h.
      let t : pad_over n (left_pad f c) (right_pad f c) ≡ false = sym (and-true _) ∙ subst (λ (x : Border). too_far x n (left_pad f c) (right_pad f c) ≡ false) e p.near in
      let q = neither (ltb n (left_pad f c + 2)) (ltb n (right_pad f c + 2)) (simp (lt-ltb 1 n h) at t) in
      (omega (arith, ltb-false n (left_pad f c + 2) q.0), omega (arith, ltb-false n (right_pad f c + 2) q.1));
}

pub kernel_of : (n f : ℕ) (c : ℤ) → beyond n f c ≡ false → (f ≡ 0 → ⊥) → Kernel f c
kernel_of n f c e h = let w = within n f c e in record { some = some_taps f (ne_eqb f 0 h); most = w.1; small = w.2 }

-- the sums may be asked for
pub summing : {b : Border} {n o f : ℕ} {c : ℤ} {s left right long : ℕ} → Convolving b n o f c s → left ≡ left_pad f c → right ≡ right_pad f c → long ≡ left + n + right → Summing f long o
summing {f = f} {c} p el er e = record { some = p.kernel.some; within = omega (arith, p.both, wide f c) }

-- the answer for a line, its buffers and a centre that go by other names
answered : (b : Border) {n o f s n' o' f' s' : ℕ} {z c : ℤ} → n' ≡ n → o' ≡ o → f' ≡ f → s' ≡ s → z ≡ c → Ok tt ≡ answer_of b n o f z s → answer_of b n' o' f' c s' ≡ Ok tt
answered b en eo ef es ez e = cc

-- done: an empty kernel left a copy, and any other the padded line and its sums
module _ {w : Format} {b : Border} {line out scratch kernel : List Float} {c z : ℤ} {n o f s : ℕ}
    (en : length line ≡ n) (eo : length out ≡ o) (ef : length kernel ≡ f) (es : length scratch ≡ s) (ez : z ≡ c) (e : Ok tt ≡ answer_of b n o f z s) where
  pub copied_done : {out' : List Float} → f ≡ 0 → out' ≡ placed (at line) 0 n out → Convolved w b line out scratch kernel c (Ok tt) out' scratch
  copied_done none h =
      let told = answered b en eo ef es ez e in
      let zero = eq-eqb (length kernel) 0 (ef ∙ none) in
      record {
        answer = sym told;
        convolved = copied line out (copying _ _ _ _ _ _ told) (h ∙ ap (λ (k : ℕ). placed (at line) 0 k out) (sym en)) ∙ simp zero;
        scratched = simp zero;
      }

  pub convolved_done : {left right : ℕ} {out' scratch' : List Float} → (f ≡ 0 → ⊥) → left ≡ left_pad f z → right ≡ right_pad f z
      → scratch' ≡ written (padded plus_zero b line left) (left + n + right) scratch → out' ≡ tab (place_of w kernel (take (left + n + right) scratch')) o
      → Convolved w b line out scratch kernel c (Ok tt) out' scratch'
  convolved_done {left} {right} {scratch' = scratch'} some el er hs ho =
      let told = answered b en eo ef es ez e in
      let d = convolving b (length line) (length out) (length kernel) c (length scratch) (λ q. some (sym ef ∙ q)) told in
      let before : left ≡ left_pad (length kernel) c = cc in
      let behind : right ≡ right_pad (length kernel) c = cc in
      let all : left + n + right ≡ needed (length line) (length kernel) c = omega arith in
      let there : scratch' ≡ written (padded plus_zero b line (left_pad (length kernel) c)) (left + n + right) scratch =
      hs ∙ ap (λ (l : ℕ). written (padded plus_zero b line l) (left + n + right) scratch) before
      in
      let both : o ≡ length line = sym eo ∙ d.both in
      let full = ne_eqb (length kernel) 0 (λ q. some (sym ef ∙ q)) in
      record {
        answer = sym told;
        convolved =
            ho ∙ ap (tab (place_of w kernel (take (left + n + right) scratch'))) both
            ∙ of_samples_lem w b line kernel (take (left + n + right) scratch') scratch c (left + n + right) d.kernel.some (ap (take (left + n + right)) there) (omega (arith, wide (length kernel) c))
            ∙ simp full;
        scratched = there ∙ ap (λ (k : ℕ). written (padded plus_zero b line (left_pad (length kernel) c)) k scratch) all ∙ simp full;
      }
