-- Laws of the packed buffer's parts: they follow each other without gap and fill it, so each lies within it and has its length.
use Rattle.std.specs.Prelude.{◌≡◌, refl, List, ℕ, zero, suc, ◌+◌, ◌-◌, ◌≤◌, length, take, drop, Float}
use Rattle.std.proofs.Common.{sym, ap, ◌∙◌, arith, length-drop, length-take-le}
use Rattle.packed.specs.Lengths.{levels_of, line_after, too_short, details_to, packed_length, level_start, level_count}
use Rattle.packed.specs.Answers.{part_at}
use Rattle.packed.specs.Works.{Named, Filled}
use Rattle.packed.specs.Falls.{room}

-- details 1 begin the buffer
pub begins : (n f levels : ℕ) → level_start n f levels 1 ≡ 0
unfolding details_to
begins n f levels = refl

-- where a level's details end the next level's begin
pub follows : (n f levels k : ℕ) → level_start n f levels (suc k) + level_count n f levels (suc k) ≡ level_start n f levels (suc (suc k))
unfolding details_to
follows n f levels k = refl

-- where the last level's details end its approximations begin
pub then_approximations : (n f levels : ℕ) → level_start n f levels (levels_of levels) + level_count n f levels (levels_of levels) ≡ level_start n f levels 0
unfolding details_to
then_approximations n f levels = go (levels_of levels) (omega arith)
  where
    go : (k : ℕ) → 1 ≤ k → level_start n f levels k + level_count n f levels k ≡ details_to n f k
    go zero h = absurd (omega arith)
    go (suc k) h = refl

-- and these end the buffer
pub ends : (n f levels : ℕ) → level_start n f levels 0 + level_count n f levels 0 ≡ packed_length n f levels
ends n f levels = refl

-- so that every part lies within it
pub inside : (n f levels level : ℕ) → 2 ≤ f → level ≤ levels_of levels → level_start n f levels level + level_count n f levels level ≤ packed_length n f levels
unfolding details_to
inside n f levels zero t h = omega arith
inside n f levels (suc k) t h = let r = room n f (suc k) (levels_of levels) t h in omega (arith, r)

-- ---- a level's part by what was found of it, and its length
pub part_is : (n f levels level start count : ℕ) (packed : List Float) → start ≡ level_start n f levels level → count ≡ level_count n f levels level
    → take (start + count - start) (drop start packed) ≡ part_at n f levels packed level
part_is n f levels level start count packed es ec =
    let c : start + count - start ≡ level_count n f levels level = omega (arith, ec) in
    ap (λ (k : ℕ). take k (drop start packed)) c ∙ ap (λ (k : ℕ). take (level_count n f levels level) (drop k packed)) es

pub length_part : (n f levels level : ℕ) (packed : List Float) → 2 ≤ f → level ≤ levels_of levels → length packed ≡ packed_length n f levels
    → length (part_at n f levels packed level) ≡ level_count n f levels level
length_part n f levels level packed t h e =
    let i = inside n f levels level t h in
    length-take-le (level_count n f levels level) (drop (level_start n f levels level) packed) (omega (arith, length-drop (level_start n f levels level) packed, i, e))

-- a level that is not 0 has as many details as its line after it
pub count_is : (n f levels level : ℕ) → 1 ≤ level → level_count n f levels level ≡ line_after n f level
count_is n f levels zero h = absurd (omega arith)
count_is n f levels (suc k) h = refl

-- ---- levels that are as many as they say
pub as_many : {n f levels p : ℕ} → Filled n f levels p → levels_of levels ≡ levels
as_many w = omega (arith, w.some)

pub named : {n f levels p : ℕ} (level : ℕ) → Filled n f levels p → level ≤ levels → Named n f levels level
named {n} {f} level w h = record {
  split = record { sound = w.sound; long = ap (too_short n f) (as_many w) ∙ w.long };
  named = omega (arith, h, w.some);
}

pub whole_length : {n f levels p : ℕ} → Filled n f levels p → p ≡ packed_length n f levels
whole_length {n} {f} w = w.filled ∙ ap (λ (k : ℕ). details_to n f k + line_after n f k) (sym (as_many w))
