-- Laws of the lengths of levels: a level halves what its line has above f - 1 samples, so lengths fall until a line is shorter than f, after 20 levels at the most, and stay so.
use Rattle.std.specs.Prelude.{◌≡◌, refl, Bool, true, false, cond, ℕ, zero, suc, ◌+◌, ◌-◌, ◌*◌, ◌/◌, ◌≤◌, ◌<◌, ltb}
use Rattle.std.proofs.Common.{sym, ap, ◌∙◌, ⊎_elim, add-one, eq-or-lt_of_le, le_of_suc-le-suc, arith, ltb-false, lt-ltb, le-ltb}
use Rattle.std.proofs.Math.Decide.{dec_lt}
use Rattle.numbers.specs.Tests.{neither, cond_true, cond_false}
use Rattle.bank.specs.Lengths.{pairs, padded_length, GoodTaps, Sound}
use Rattle.packed.specs.Lengths.{line_after, too_short, details_to, long_lines, most_levels}

-- ---- one level more
pub line_none : (n f : ℕ) → n ≡ line_after n f 0
unfolding line_after
line_none n f = refl

pub line_next : (n f k : ℕ) → line_after n f (k + 1) ≡ pairs (line_after n f k) f
unfolding line_after
line_next n f k = ap (line_after n f) (add-one k)

pub details_none : (n f : ℕ) → 0 ≡ details_to n f 0
unfolding details_to
details_none n f = refl

pub details_next : (n f k : ℕ) → details_to n f (k + 1) ≡ details_to n f k + line_after n f (k + 1)
unfolding details_to
details_next n f k = ap (details_to n f) (add-one k) ∙ ap (λ (j : ℕ). details_to n f k + line_after n f j) (sym (add-one k))

pub short_none : (n f : ℕ) → too_short n f 0 ≡ false
unfolding too_short
short_none n f = refl

pub short_next : (n f k : ℕ) → too_short n f k ≡ false → f ≤ line_after n f k → too_short n f (k + 1) ≡ false
unfolding too_short
short_next n f k e h = ap (too_short n f) (add-one k) ∙ simp (e, le-ltb (line_after n f k) f h)

-- ---- which lines are long enough
-- of levels that are all right each has a line to split, and so are fewer of them
pub long_before : (n f k levels : ℕ) → too_short n f levels ≡ false → k < levels → (too_short n f k ≡ false) × (f ≤ line_after n f k)
unfolding too_short
long_before n f k zero e h = absurd (omega arith)
long_before n f k (suc levels) e h =
    let p = neither (too_short n f levels) (ltb (line_after n f levels) f) e in
    ⊎_elim
    (λ q. rw q (p.0, ltb-false (line_after n f levels) f p.1))
    (λ l. long_before n f k levels p.0 l)
    (eq-or-lt_of_le (le_of_suc-le-suc h))

pub all_before : (n f k levels : ℕ) → too_short n f levels ≡ false → k ≤ levels → too_short n f k ≡ false
all_before n f k levels e h = ⊎_elim (λ q. rw q e) (λ l. (long_before n f k levels e l).0) (eq-or-lt_of_le h)

-- a line that is too short is too short for all levels that reach it
pub short_at : (n f k levels : ℕ) → k < levels → line_after n f k < f → too_short n f levels ≡ true
short_at n f k levels h l = go (too_short n f levels) refl
  where
    go : (t : Bool) → too_short n f levels ≡ t → too_short n f levels ≡ true
    go true e = e
    go false e = let q = (long_before n f k levels e h).1 in absurd (omega arith)

-- ---- how lengths fall
-- a line that is long enough loses a sample at least, and has f - 1 left at least
pub falls : (n f : ℕ) → 2 ≤ f → f ≤ n → (pairs n f < n) × (f ≤ pairs n f + 1)
falls n f t h = (omega arith, omega arith)

-- and one that is too short stays so
pub stays_short : (n f : ℕ) → 2 ≤ f → n < f → pairs n f < f
stays_short n f t h = omega arith

pub short_for_ever : (n f k j : ℕ) → 2 ≤ f → line_after n f k < f → k ≤ j → line_after n f j < f
unfolding line_after
short_for_ever n f k zero t h l = let q : k ≡ 0 = omega arith in rw q at h
short_for_ever n f k (suc j) t h l =
    ⊎_elim (λ q. rw q at h) (λ m. stays_short (line_after n f j) f t (short_for_ever n f k j t h (le_of_suc-le-suc m))) (eq-or-lt_of_le l)

-- of k levels that are all right: the line, and the details that they have; the limit makes every sum fit
pub record Fallen (n f k : ℕ) : Type 0 where
  pub fewer : line_after n f k + k ≤ n
  pub enough : 1 ≤ k → f ≤ line_after n f k + 1
  pub bounded : details_to n f k + 64 * (line_after n f k + 1 - f) ≤ 64 * (n + 1 - f)

bounded_next : (n f d line : ℕ) → f ≤ 64 → 2 ≤ f → f ≤ line → d + 64 * (line + 1 - f) ≤ 64 * (n + 1 - f)
    → d + pairs line f + 64 * (pairs line f + 1 - f) ≤ 64 * (n + 1 - f)
bounded_next n f d line m t h e = go (dec_lt (line + 1 - f) 2)
  where
    half : pairs line f + 1 ≡ f + (line + 1 - f) / 2
    half = omega arith

    go : Dec (line + 1 - f < 2) → d + pairs line f + 64 * (pairs line f + 1 - f) ≤ 64 * (n + 1 - f)
    go (yes l) = let z : (line + 1 - f) / 2 ≡ 0 = omega arith in omega (arith, half, z)
    go (no l) = omega (arith, half)

pub fallen : (n f k : ℕ) → GoodTaps f → too_short n f k ≡ false → Fallen n f k
unfolding line_after details_to
fallen n f zero g e = record { fewer = omega arith; enough = λ h. absurd (omega arith); bounded = omega arith }
fallen n f (suc k) g e =
    let p = long_before n f k (suc k) e (omega arith) in
    let q = fallen n f k g p.0 in
    let s = falls (line_after n f k) f g.two p.1 in
    record {
      fewer = omega (arith, q.fewer, s.0);
      enough = λ h. s.1;
      bounded = bounded_next n f (details_to n f k) (line_after n f k) g.most g.two p.1 q.bounded;
    }

-- what a turn of going down one level cites
pub ruleset level_steps = (line_none, line_next, details_none, details_next, short_none, short_next, fallen)

-- what is packed after k levels is no longer than after more of them: each splits its line into two bands that are as long together, at least
pub room : (n f k levels : ℕ) → 2 ≤ f → k ≤ levels → details_to n f k + line_after n f k ≤ details_to n f levels + line_after n f levels
unfolding line_after details_to
room n f k zero t h = let q : k ≡ 0 = omega arith in rw q (omega arith)
room n f k (suc levels) t h = ⊎_elim (λ q. rw q (omega arith)) (λ m. let r = room n f k levels t (le_of_suc-le-suc m) in omega (arith, r)) (eq-or-lt_of_le h)

-- no level's line is longer than the first level leaves it
pub first_longest : (n f k : ℕ) → 2 ≤ f → too_short n f k ≡ false → 1 ≤ k → line_after n f k ≤ pairs n f
unfolding line_after
first_longest n f zero t e h = absurd (omega arith)
first_longest n f (suc zero) t e h = omega arith
first_longest n f (suc (suc k)) t e h =
    let p = long_before n f (suc k) (suc (suc k)) e (omega arith) in
    let q = first_longest n f (suc k) t p.0 (omega arith) in
    omega (arith, q, (falls (line_after n f (suc k)) f t p.1).0)

-- a shorter line is no longer when it is padded
pub padded_shorter : (n line f : ℕ) → line ≤ n → padded_length line f ≤ padded_length n f
padded_shorter n line f h = omega arith

-- ---- how many levels a line allows
-- what a line has above f - 1 samples, halved at each level
unfoldable halved : ℕ → ℕ
halved zero = 1048575
halved (suc k) = halved k / 2

left_over : (n f k : ℕ) → Sound n f → line_after n f k + 1 - f ≤ halved k
unfolding line_after halved
left_over n f zero s = omega (arith, s.taps.two, s.limit)
left_over n f (suc k) s = let q = left_over n f k s in omega (arith, s.taps.two)

-- no more than 20
pub few_levels : (n f levels : ℕ) → Sound n f → too_short n f levels ≡ false → levels ≤ 20
unfolding halved
few_levels n f levels s e = go (dec_lt 20 levels)
  where
    go : Dec (20 < levels) → levels ≤ 20
    go (yes h) = let q = (long_before n f 20 levels e h).1 in let r = left_over n f 20 s in absurd (omega (arith, r, q))
    go (no h) = omega arith

-- k levels that are all right are k long lines
long_lines_lem : (n f k : ℕ) → too_short n f k ≡ false → long_lines n f k ≡ k
unfolding long_lines
long_lines_lem n f zero e = refl
long_lines_lem n f (suc k) e =
    let p = long_before n f k (suc k) e (omega arith) in
    cond_false (ltb (line_after n f k) f) _ _ (le-ltb (line_after n f k) f p.1) ∙ ap suc (long_lines_lem n f k p.0)

more_lines : (n f k j : ℕ) → k ≤ j → long_lines n f k ≤ long_lines n f j
unfolding long_lines
more_lines n f k zero h = let q : k ≡ 0 = omega arith in rw q (omega arith)
more_lines n f k (suc j) h =
    ⊎_elim (λ q. rw q (omega arith)) (λ m. let r = more_lines n f k j (le_of_suc-le-suc m) in omega (arith, r, one_more (ltb (line_after n f j) f) (long_lines n f j))) (eq-or-lt_of_le h)
  where
    one_more : (t : Bool) (a : ℕ) → a ≤ cond t a (suc a)
    one_more true a = omega arith
    one_more false a = omega arith

-- levels that are all right are no more than the most
pub most_is_most : (n f levels : ℕ) → GoodTaps f → too_short n f levels ≡ false → levels ≤ most_levels n f
most_is_most n f levels g e =
    let r = more_lines n f levels n (omega (arith, (fallen n f levels g e).fewer)) in
    omega (arith, r, long_lines_lem n f levels e)

-- levels after which the line is too short are all the long lines that there are
no_more : (n f k j : ℕ) → 2 ≤ f → too_short n f k ≡ false → line_after n f k < f → k ≤ j → long_lines n f j ≡ k
unfolding long_lines
no_more n f k zero t e h l = omega arith
no_more n f k (suc j) t e h l =
    ⊎_elim
    (λ q. ap (long_lines n f) (sym q) ∙ long_lines_lem n f k e)
    (λ m. cond_true (ltb (line_after n f j) f) _ _ (lt-ltb (line_after n f j) f (short_for_ever n f k j t h (le_of_suc-le-suc m))) ∙ no_more n f k j t e h (le_of_suc-le-suc m))
    (eq-or-lt_of_le l)

-- and levels after which the line is too short are the most
pub most_levels_lem : (n f k : ℕ) → 2 ≤ f → too_short n f k ≡ false → line_after n f k < f → k ≤ n → most_levels n f ≡ k
most_levels_lem n f k t e h l = no_more n f k n t e h l

-- the most are all right
all_right : (n f j : ℕ) → 2 ≤ f → too_short n f (long_lines n f j) ≡ false
unfolding long_lines too_short
all_right n f zero t = refl
all_right n f (suc j) t = go (all_right n f j t) (dec_lt (line_after n f j) f)
  where
    before : f ≤ line_after n f j → (k : ℕ) → k ≤ suc j → too_short n f k ≡ false
    before h zero l = short_none n f
    before h (suc k) l =
        sym (ap (too_short n f) (add-one k)) ∙ short_next n f k (before h k (omega arith)) (long (dec_lt (line_after n f k) f))
      where
        long : Dec (line_after n f k < f) → f ≤ line_after n f k
        long (yes s) = let q = short_for_ever n f k j t s (omega arith) in absurd (omega (arith, q, h))
        long (no s) = omega (arith, s)

    go : too_short n f (long_lines n f j) ≡ false → Dec (line_after n f j < f) → too_short n f (long_lines n f (suc j)) ≡ false
    go e (yes h) = ap (too_short n f) (cond_true (ltb (line_after n f j) f) _ _ (lt-ltb (line_after n f j) f h)) ∙ e
    go _ (no h) =
        let l : f ≤ line_after n f j = omega (arith, h) in
        let e = before l (suc j) (omega arith) in
        ap (too_short n f) (long_lines_lem n f (suc j) e) ∙ e

pub most_allowed : (n f : ℕ) → 2 ≤ f → too_short n f (most_levels n f) ≡ false
most_allowed n f t = all_right n f n t

-- and leave a line that is too short
pub most_leaves : (n f : ℕ) → GoodTaps f → line_after n f (most_levels n f) < f
most_leaves n f g = go (dec_lt (line_after n f (most_levels n f)) f)
  where
    go : Dec (line_after n f (most_levels n f) < f) → line_after n f (most_levels n f) < f
    go (yes h) = h
    go (no h) =
        let e = short_next n f (most_levels n f) (most_allowed n f g.two) (omega (arith, h)) in
        let m = most_is_most n f (most_levels n f + 1) g e in absurd (omega (arith, m))
