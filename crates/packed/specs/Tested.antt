-- Laws of the tests: an answer is done where every test passed, which gives the work what it asks for; tests that follow others speak where those are done; and what going down a line finds tells whether each level has one to split.
use Rattle.std.specs.Prelude.{◌≡◌, refl, Bool, true, false, cond, not, ℕ, zero, suc, ◌-◌, ◌≤◌, ◌<◌, eqb, ltb, Result, Ok, Err, is_ok, ⊤}
use Rattle.std.proofs.Common.{sym, ap, ◌∙◌, subst, arith, eqb-true, ltb-false, lit<, true≢false}
use Rattle.std.proofs.Math.Decide.{dec_lt}
use Rattle.std.proofs.lemmas.Bool.{not-false}
use Rattle.numbers.specs.Words.{longest, when_done, and_then}
use Rattle.numbers.specs.Tests.{passed, stopped_by, went_on_by, both_done_by}
use Rattle.bank.specs.Lengths.{bad_taps, pairs, Sound, Analysable}
use Rattle.bank.specs.Tested.{good_taps}
use Rattle.packed.specs.declared.LevelsError.{LevelsError}
use Rattle.packed.specs.declared.LevelsError.TheVariants.{MinFilterSize, ScratchSize, BufferWasTooSmallForLevel, InputSize, Limit, Taps}
use Rattle.packed.specs.declared.depth.Depth.{Depth}
use Rattle.packed.specs.Lengths.{levels_of, line_after, too_short, details_to, packed_length, level_start, level_count, most_levels}
use Rattle.packed.specs.Answers.{number_of, asked_of, held_of}
use Rattle.packed.specs.Works.{Split, Named, Filled, Down}
use Rattle.packed.specs.Falls.{line_none, long_before, all_before, short_at, fallen, most_levels_lem}

-- a refusal is not done
pub not_ok : {A E : Type 0} {x : A} {e : E} → Err e ≡ Ok x → ⊥
not_ok e = true≢false (sym (ap is_ok e))

-- 0 is the number of done alone
pub done_alone : (r : Result ⊤ LevelsError) → number_of r ≡ 0 → r ≡ Ok tt
done_alone (Ok done) e = refl
done_alone (Err (MinFilterSize n f)) e = absurd (omega arith)
done_alone (Err (ScratchSize need have)) e = absurd (omega arith)
done_alone (Err BufferWasTooSmallForLevel) e = absurd (omega arith)
done_alone (Err (InputSize need have)) e = absurd (omega arith)
done_alone (Err Limit) e = absurd (omega arith)
done_alone (Err Taps) e = absurd (omega arith)

-- both tests are done where the second is after the first
pub both_done : (a b : Result ⊤ LevelsError) → and_then number_of a b ≡ Ok tt → (a ≡ Ok tt) × (b ≡ Ok tt)
both_done = both_done_by number_of done_alone refl

-- 1 and 9 are refusals
short_refused : (n f : ℕ) (t : Bool) → 0 < number_of (cond t (Err BufferWasTooSmallForLevel) (Err (MinFilterSize n f)))
short_refused n f true = lit< tt
short_refused n f false = lit< tt

pub asked_done : (n f levels : ℕ) → asked_of n f levels ≡ Ok tt → Split n f levels
unfolding asked_of
asked_done n f levels e =
    let p1 = passed number_of (bad_taps f) e (lit< tt) refl in
    let p2 = passed number_of (ltb longest n) p1.1 (lit< tt) refl in
    let p3 = passed number_of (too_short n f (levels_of levels)) p2.1 (short_refused n f (ltb 1 levels)) refl in
    record { sound = record { taps = good_taps f p1.0; limit = ltb-false longest n p2.0 }; long = p3.0 }

-- the first line is one to split
pub first_line : {n f levels : ℕ} → Split n f levels → Analysable n f
first_line {n} {f} s = record {
  taps = s.sound.taps;
  limit = s.sound.limit;
  enough = omega (arith, (long_before n f 0 _ s.long (omega arith)).1, line_none n f);
}

pub held_done : (n f levels p : ℕ) → held_of n f levels p ≡ Ok tt → Split n f levels × (p ≡ packed_length n f levels)
unfolding held_of
held_done n f levels p e =
    let q = both_done (asked_of n f levels) _ e in
    let t = passed number_of (not (eqb p (packed_length n f levels))) q.1 (lit< tt) refl in
    (asked_done n f levels q.0, eqb-true p (packed_length n f levels) (not-false _ t.0))

-- ---- what follows tests by another name of their answer: their refusal, or where they are done what comes then
pub stopped : {A : Type 0} {x : Result ⊤ LevelsError} (a : Result ⊤ LevelsError) (new : A) (old : Result ⊤ LevelsError → A) → a ≡ x → (a ≡ Ok tt → ⊥) → old a ≡ when_done (number_of x) new (old x)
stopped = stopped_by number_of done_alone

pub went_on : {A : Type 0} {x : Result ⊤ LevelsError} {y : A} (new old : A) → x ≡ Ok tt → y ≡ new → y ≡ when_done (number_of x) new old
went_on = went_on_by number_of refl

-- ---- what going down finds
-- where each level has a line to split, all of them are gone down
pub all_the_way : (n f levels : ℕ) (r : Depth) → too_short n f levels ≡ false → Down n f levels r
    → (r.levels ≡ levels) × (r.details ≡ details_to n f levels) × (r.line ≡ line_after n f levels)
all_the_way n f levels r e d =
    let q : r.levels ≡ levels = deep (dec_lt r.levels levels) in
    (q, d.detailed ∙ ap (details_to n f) q, d.left ∙ ap (line_after n f) q)
  where
    deep : Dec (r.levels < levels) → r.levels ≡ levels
    deep (yes h) = let l = (long_before n f r.levels levels e h).1 in let k = d.last h in absurd (omega (arith, l, k))
    deep (no h) = omega (arith, d.most)

-- where some level has none, not
pub not_all : (n f levels : ℕ) (r : Depth) → (r.levels ≡ levels → ⊥) → Down n f levels r → too_short n f levels ≡ true
not_all n f levels r h d =
    let l : r.levels < levels = omega (arith, d.most, h) in
    short_at n f r.levels levels l (d.last l)

-- gone down as far as may be, the levels are the most
pub as_far : (n f : ℕ) (r : Depth) → Sound n f → Down n f n r → r.levels ≡ most_levels n f
as_far n f r s d = sym (most_levels_lem n f r.levels s.taps.two d.long (short (dec_lt r.levels n)) d.most)
  where
    short : Dec (r.levels < n) → line_after n f r.levels < f
    short (yes h) = d.last h
    short (no h) = omega (arith, (fallen n f r.levels s.taps d.long).fewer, s.taps.two)

-- a part by what going down finds: below the deepest level for level 0, above the level for the others
pub deepest_part : (n f levels k : ℕ) (r : Depth) → Split n f levels → k ≡ levels_of levels → Down n f k r
    → (r.details ≡ level_start n f levels 0) × (r.line ≡ level_count n f levels 0)
deepest_part n f levels k r s q d = let w = all_the_way n f (levels_of levels) r s.long (subst (λ (j : ℕ). Down n f j r) q d) in (w.1, w.2)

pub level_part : (n f levels level : ℕ) (r : Depth) → Named n f levels level → 1 ≤ level → Down n f (level - 1) r
    → (r.details ≡ level_start n f levels level) × (pairs r.line f ≡ level_count n f levels level) × (r.line ≤ n)
unfolding line_after
level_part n f levels zero r p h d = absurd (omega arith)
level_part n f levels (suc k) r p h d =
    let l = all_before n f k (levels_of levels) p.split.long (omega (arith, p.named)) in
    let w = all_the_way n f k r l (subst (λ (j : ℕ). Down n f j r) (omega arith) d) in
    (w.1, ap (λ (j : ℕ). pairs j f) w.2, omega (arith, w.2, (fallen n f k p.split.sound.taps l).fewer))

-- ---- what the work of analysis and of restoring is given
-- k is the number of levels by another name
pub filled : (n f levels k p : ℕ) → k ≡ levels_of levels → held_of n f levels p ≡ Ok tt → Filled n f k p
filled n f levels k p z e =
    let d = held_done n f levels p e in
    rw z (record { sound = d.0.sound; some = omega arith; long = d.0.long; filled = d.1 })
