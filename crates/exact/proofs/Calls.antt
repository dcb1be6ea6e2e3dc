-- Laws of there and back: the answer is that of the first way that refuses; where neither does, the two entries' promises are this one's, and where the premises hold neither does.
use Rattle.std.specs.Prelude.{◌≡◌, false, ◌⊎◌, List, ℕ, ◌<◌, length, Result, ⊤, Ok, Err, is_err, Float}
use Rattle.std.proofs.Math.Path.{refl}
use Rattle.std.proofs.Common.{sym, ap, ◌∙◌, subst, arith, true≢false}
use Rattle.std.specs.Result.{result_and, result_map_both}
use Rattle.std.specs.Float.{Format, nan}
use Rattle.std.proofs.Math.Logic.{inl, inr, ⊎_elim}
use Rattle.numbers.specs.Words.{plus_zero, cleared}
use Rattle.numbers.specs.Write.{length-tab, get_or-tab}
use Rattle.numbers.specs.Tests.{kept, renewed, refused}
use Rattle.whole.specs.Exact.{zero_whole}
use Rattle.border.specs.declared.Border.{Border}
use Rattle.bank.specs.Lengths.{Analysable}
use Rattle.analysis.specs.declared.AnalysisError.{AnalysisError}
use Rattle.analysis.specs.Analyses as Analyses
use Rattle.analysis.specs.Tested.{analysed_done, analysing, done_alone as done-analysis}
use Rattle.synthesis.specs.declared.SynthesisError.{SynthesisError}
use Rattle.synthesis.specs.Syntheses as Syntheses
use Rattle.synthesis.specs.Tested.{joined_done, done_alone as done-synthesis}
use Rattle.exact.specs.declared.BackError.{BackError}
use Rattle.exact.specs.declared.BackError.TheVariants as way
use Rattle.exact.specs.Restoring.{Cleared}
use Rattle.exact.proofs.Entries.{approxed, detailed, approx_length, detail_length, rejoined, entries_restore, entries_restore_pairs}
use Rattle.exact.specs.Backs.{number_of, answer_of, Ruled, Returned}

-- done is no refusal
pub no_refusal : {E : Type 0} {r : Result ⊤ E} {e : E} → r ≡ Ok tt → r ≡ Err e → ⊥
no_refusal p q = true≢false (sym (ap is_err q) ∙ ap is_err p)

refusal_above : {E : Type 0} (number : Result ⊤ E → ℕ) → ((r : Result ⊤ E) → number r ≡ 0 → r ≡ Ok tt) → (e : E) → 0 < number (Err e)
refusal_above number alone e = refused number alone (Err e) (λ q. no_refusal q refl)

module _ (f n a d s o : ℕ) where
  pub there_refused : (e : AnalysisError) → Err e ≡ Analyses.answer_of f n a d s → Err (way.Analysis e) ≡ answer_of f n a d s o
  unfolding answer_of
  there_refused e p = rw (← p) refl

  pub back_refused : (e : SynthesisError) → Ok tt ≡ Analyses.answer_of f n a d s → Err e ≡ Syntheses.answer_of f a d o → Err (way.Synthesis e) ≡ answer_of f n a d s o
  unfolding answer_of
  back_refused e p q = rw (← p, ← q) refl

  pub both_done : Ok tt ≡ Analyses.answer_of f n a d s → Ok tt ≡ Syntheses.answer_of f a d o → Ok tt ≡ answer_of f n a d s o
  unfolding answer_of
  both_done p q = rw (← p, ← q) refl

  -- both ways are done, or the answer is a refusal
  decided : ((Analyses.answer_of f n a d s ≡ Ok tt) × (Syntheses.answer_of f a d o ≡ Ok tt)) ⊎ (0 < number_of (answer_of f n a d s o))
  unfolding answer_of
  decided = go (Analyses.answer_of f n a d s) (Syntheses.answer_of f a d o)
    where
      go : (there : Result ⊤ AnalysisError) (back : Result ⊤ SynthesisError)
          → ((there ≡ Ok tt) × (back ≡ Ok tt)) ⊎ (0 < number_of (result_and (result_map_both (λ done. done) way.Analysis there) (result_map_both (λ done. done) way.Synthesis back)))
      go (Ok done) (Ok joined) = inl (refl, refl)
      go (Ok done) (Err e) = inr (refusal_above Syntheses.number_of done-synthesis e)
      go (Err e) back = inr (refusal_above Analyses.number_of done-analysis e)

-- what meets the premises is taken, where the buffers have the ruled lengths
met : (f n a d s o : ℕ) → Analysable n f → Ruled n f a d s o → answer_of f n a d s o ≡ Ok tt
met f n a d s o p q =
    sym (both_done f n a d s o
    (sym (analysed_done f n a d s (record { ready = p; approxed = q.approxed; detailed = q.detailed; room = q.room })))
    (sym (joined_done f a d o (record {
      two = p.taps.two;
      most = p.taps.most;
      even = p.taps.even;
      few = omega (arith, q.approxed, p.enough, p.limit);
      both = q.detailed ∙ sym q.approxed;
      ruled = omega (arith, q.approxed, q.placed, p.enough, p.taps.two);
    }) (omega (arith, q.approxed, q.placed, p.enough, p.taps.two)))))

-- nothing but zeros
pub cleared_zeros : (n : ℕ) → Cleared (cleared n)
cleared_zeros n = record {
  clear = λ p h. let l : p < n = omega (arith, length-tab (λ q. plus_zero) n) in rw (get_or-tab (λ q. plus_zero) n p nan l) (zero_whole false);
}

module _ (w : Format) (al ah sl sh : List Float) (F : ℕ) (b : Border) (line approx detail scratch out : List Float) where
  abbrev lengths : Result ⊤ BackError
  lengths = answer_of F (length line) (length approx) (length detail) (length scratch) (length out)

  -- a refusal leaves everything as it was, and nothing that meets the premises is refused
  pub returned_refused : {r : Result ⊤ BackError} → r ≡ lengths → (r ≡ Ok tt → ⊥) → Returned w al ah sl sh F b line approx detail scratch out r approx detail scratch out
  returned_refused {r} e h = record {
    answer = e;
    approxes = kept (number_of r) above _ approx;
    details = kept (number_of r) above _ detail;
    scratched = kept (number_of r) above _ scratch;
    joined = kept (number_of r) above _ out;
    exact = λ _ _ z v A x q. absurd (h (e ∙ met _ _ _ _ _ _ (record { taps = x.taps; limit = x.limit; enough = x.enough }) q));
    exact_pairs = λ _ _ _ _ v S A x q. absurd (h (e ∙ met _ _ _ _ _ _ (record { taps = x.taps; limit = x.limit; enough = x.enough }) q));
  }
    where
      above : 0 < number_of r
      above = subst (λ (k : Result ⊤ BackError). 0 < number_of k) (sym e)
          (⊎_elim (λ p. absurd (h (e ∙ sym (both_done _ _ _ _ _ _ (sym p.0) (sym p.1))))) (λ k. k) (decided F (length line) (length approx) (length detail) (length scratch) (length out)))

  -- where the answer is done neither way refuses
  module _ {r : Result ⊤ BackError} (e : r ≡ lengths) (z : r ≡ Ok tt) {there : Result ⊤ AnalysisError} {a d s : List Float}
      (p : Analyses.Analysed w al ah F b line approx detail scratch there a d s) where
    passed : (Analyses.answer_of F (length line) (length approx) (length detail) (length scratch) ≡ Ok tt) × (Syntheses.answer_of F (length approx) (length detail) (length out) ≡ Ok tt)
    passed = ⊎_elim (λ t. t) (λ k. let n = ap number_of (sym z ∙ e) in absurd (omega arith)) (decided F (length line) (length approx) (length detail) (length scratch) (length out))

    went : there ≡ Ok tt
    went = p.answer ∙ passed.0

    pub not_refused_there : {x : AnalysisError} {r' : Result ⊤ BackError} {a' d' s' o' : List Float} → there ≡ Err x → Returned w al ah sl sh F b line approx detail scratch out r' a' d' s' o'
    not_refused_there t = absurd (no_refusal went t)

    module _ {clear : List Float} (c : clear ≡ cleared (length out)) {back : Result ⊤ SynthesisError} {o : List Float} (q : Syntheses.Synthesised w sl sh F a d clear back o) where
      came : back ≡ Ok tt
      came =
          let ruled = analysing F (length line) (length approx) (length detail) (length scratch) passed.0 in
          let la : length a ≡ length approx = approx_length p went ∙ sym ruled.approxed in
          let ld : length d ≡ length detail = detail_length p went ∙ sym ruled.detailed in
          let lo : length clear ≡ length out = ap length c ∙ length-tab (λ k. plus_zero) (length out) in
          q.answer ∙ rw (la, ld, lo) passed.1

      pub not_refused_back : {x : SynthesisError} {r' : Result ⊤ BackError} {a' d' s' o' : List Float} → back ≡ Err x → Returned w al ah sl sh F b line approx detail scratch out r' a' d' s' o'
      not_refused_back t = absurd (no_refusal came t)

  -- the two promises, one after the other
  pub returned_done : {r : Result ⊤ BackError} {there : Result ⊤ AnalysisError} {back : Result ⊤ SynthesisError} {a d s clear o : List Float} → r ≡ lengths → r ≡ Ok tt
      → Analyses.Analysed w al ah F b line approx detail scratch there a d s → clear ≡ cleared (length out) → Syntheses.Synthesised w sl sh F a d clear back o
      → Returned w al ah sl sh F b line approx detail scratch out (Ok tt) a d s o
  returned_done {there = there} {back} {clear = clear} e z p c q = record {
    answer = sym z ∙ e;
    approxes = approxed p there_done;
    details = detailed p there_done;
    scratched = renewed _ _ (ap Analyses.number_of there_done) p.scratched;
    joined = rejoined p there_done q back_done ∙ rw c;
    exact = λ e e' z v A x y. (refl, entries_restore p there_done q back_done zeros e e' z v A x);
    exact_pairs = λ alℤ ahℤ slℤ shℤ v S A x y. (refl, entries_restore_pairs p there_done q back_done zeros alℤ ahℤ slℤ shℤ v S A x);
  }
    where
      there_done : there ≡ Ok tt
      there_done = went e z p

      back_done : back ≡ Ok tt
      back_done = came e z p c q

      zeros : Cleared clear
      zeros = rw c (cleared_zeros (length out))
