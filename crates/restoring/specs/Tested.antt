-- Laws of the tests: an answer is done where every test passed, which gives the work what it asks for, and the part handed out is the restored line.
use Rattle.std.specs.Prelude.{◌≡◌, refl, cond, List, [], ℕ, zero, suc, ◌-◌, ◌%◌, ltb, eqb, length, take, Result, Ok, ⊤, Float}
use Rattle.std.proofs.Common.{sym, ap, ◌∙◌, arith, ltb-false, eq-eqb, ne_eqb, lit<}
use Rattle.std.specs.Float.{Format, binary64}
use Rattle.std.specs.Borrow.{MutBor}
use Rattle.numbers.specs.Words.{when_done}
use Rattle.numbers.specs.Tests.{passed, refused, kept, renewed, cond_true, cond_false}
use Rattle.bank.specs.Lengths.{line_length}
use Rattle.synthesis.specs.Runs.{length_join}
use Rattle.packed.specs.declared.LevelsError.{LevelsError}
use Rattle.packed.specs.Lengths.{levels_of, line_after, restoring_length}
use Rattle.packed.specs.Answers.{number_of, held_of, part_at}
use Rattle.packed.specs.Tested.{done_alone, both_done, filled}
use Rattle.packed.specs.Follow.{length_part, whole_length}
use Rattle.restoring.specs.Lines.{restored_after, restored}
use Rattle.restoring.specs.Restorings.{answer_of, Restored, HandedOut}
use Rattle.restoring.specs.Steps.{whole_front}
use Rattle.restoring.specs.Works.{Restoring}

-- k is the number of levels by another name
pub restoring : (n f levels k p a b : ℕ) → k ≡ levels_of levels → answer_of n f levels p a b ≡ Ok tt → Restoring n f k p a b
unfolding answer_of
restoring n f levels k p a b z e =
    let q = both_done (held_of n f levels p) _ e in
    let t = passed number_of (ltb a (restoring_length n f)) q.1 (lit< tt) refl in
    let u = passed number_of (ltb b (restoring_length n f)) t.1 (lit< tt) refl in
    record { packs = filled n f levels k p z q.0; room = ltb-false a (restoring_length n f) t.0; space = ltb-false b (restoring_length n f) u.0 }

-- the whole line has the first level's synthesis length
pub length-restored : (g : Format) (low high packed : List Float) (n F levels p a b : ℕ) → Restoring n F levels p a b → length packed ≡ p
    → length (restored g F low high packed n levels) ≡ restoring_length n F
unfolding restored_after line_after
length-restored g low high packed n F zero p a b w e = absurd (omega (arith, w.packs.some))
length-restored g low high packed n F (suc j) p a b w e =
    let one : suc j - j ≡ 1 = omega arith in
    length_join g F low high _ _ (part_at n F (suc j) packed (suc j - j))
    ∙ ap (λ (k : ℕ). line_length (length (part_at n F (suc j) packed k)) F) one
    ∙ ap (λ (m : ℕ). line_length m F) (length_part n F (suc j) 1 packed w.packs.sound.taps.two (omega arith) (e ∙ whole_length w.packs))

-- ---- the part handed out: none on a refusal, else the front of the buffer that holds the line
pub none_handed : {low high : List Float} {f : ℕ} {packed : List Float} {n levels : ℕ} {first second part : MutBor (List Float)} (r : Result ⊤ LevelsError)
    → r ≡ answer_of n f levels (length packed) (length first.now) (length second.now) → (r ≡ Ok tt → ⊥) → part.now ≡ [] → part.ref_ptr ≡ first.ref_ptr
    → HandedOut low high f packed n levels first second part
none_handed r e h none front = let k = refused number_of done_alone _ (λ q. h (e ∙ q)) in record { handed = none ∙ kept _ k _ []; lies = front ∙ kept _ k _ _ }

module _ (low high : List Float) (f : ℕ) (packed : List Float) (n levels : ℕ) (first second part : MutBor (List Float)) (first' second' : List Float) (r : Result ⊤ LevelsError) (k m : ℕ)
    (p : Restored low high f packed n levels first.now second.now r first' second') (done : r ≡ Ok tt) (count : k ≡ levels_of levels) (long : m ≡ restoring_length n f) where
  all : Restoring n f (levels_of levels) (length packed) (length first.now) (length second.now)
  all = restoring n f levels (levels_of levels) (length packed) (length first.now) (length second.now) refl (sym p.answer ∙ done)

  abbrev line : List Float
  line = restored binary64 f low high packed n (levels_of levels)

  abbrev place : ℕ × ℕ
  place = cond (eqb (levels_of levels % 2) 0) second.ref_ptr first.ref_ptr

  as_handed : part.now ≡ line → part.ref_ptr ≡ place → HandedOut low high f packed n levels first second part
  as_handed e q =
      let z = sym p.answer ∙ done in
      record { handed = e ∙ sym (ap (λ (a : Result ⊤ LevelsError). when_done (number_of a) line []) z); lies = q ∙ sym (ap (λ (a : Result ⊤ LevelsError). when_done (number_of a) place first.ref_ptr) z) }

  length-line : m ≡ length line
  length-line = long ∙ sym (length-restored binary64 low high packed n f (levels_of levels) _ _ _ all refl)

  pub second_handed : k % 2 ≡ 0 → part.now ≡ take m second' → part.ref_ptr ≡ second.ref_ptr → HandedOut low high f packed n levels first second part
  second_handed e there lies =
      let t = eq-eqb (levels_of levels % 2) 0 (ap (λ (j : ℕ). j % 2) (sym count) ∙ e) in
      as_handed
      (there ∙ ap (take m) (renewed _ second.now (ap number_of done) p.seconds ∙ sym (cond_true (eqb (levels_of levels % 2) 0) _ _ t))
      ∙ whole_front binary64 f low high packed n (levels_of levels) m first.now second.now all.packs.some length-line)
      (lies ∙ sym (cond_true (eqb (levels_of levels % 2) 0) _ _ t))

  pub first_handed : (k % 2 ≡ 0 → ⊥) → part.now ≡ take m first' → part.ref_ptr ≡ first.ref_ptr → HandedOut low high f packed n levels first second part
  first_handed h there lies =
      let t = ne_eqb (levels_of levels % 2) 0 (λ e. h (ap (λ (j : ℕ). j % 2) count ∙ e)) in
      as_handed
      (there ∙ ap (take m) (renewed _ first.now (ap number_of done) p.firsts ∙ sym (cond_false (eqb (levels_of levels % 2) 0) _ _ t))
      ∙ whole_front binary64 f low high packed n (levels_of levels) m first.now second.now all.packs.some length-line)
      (lies ∙ sym (cond_false (eqb (levels_of levels % 2) 0) _ _ t))
