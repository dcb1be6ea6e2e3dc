-- Laws of the ways beyond a line: how each border goes on, by its case of the rule, and that places filled that way are those of the padded line.
use Rattle.std.specs.Prelude.{◌≡◌, refl, Bool, true, false, cond, ◌≢◌, ◌⊎◌, ℕ, ◌+◌, ◌-◌, ◌*◌, ◌%◌, ◌≤◌, ◌<◌, eqb, length, get_or, Float}
use Rattle.std.proofs.Math.Path.{sym, ap}
use Rattle.std.proofs.Common.{◌∙◌, subst, ⊎_elim, inl, inr, mod-eq_of_lt, le_refl, arith, lt-ltb, le-ltb, eq-eqb, ne_eqb, eqb-true, length-drop, length-take-le}
use mathlib.Core.List.{List, ◌++◌}
use Rattle.std.proofs.Math.Nat.{mod_self, add-mod_right}
use Rattle.std.proofs.lemmas.Bool.{eqb-false}
use Rattle.std.proofs.Math.ListN.{take, drop}
use Rattle.std.specs.Float.{nan}
use Rattle.numbers.specs.Words.{longest, plus_zero, at, written, placed}
use Rattle.numbers.specs.Write.{length-placed, placed_start, placed_end, get_or-placed_before, get_or-placed_behind}
use Rattle.numbers.specs.Places.{get_or_any, get_or_part, tab_same}
use Rattle.border.specs.declared.Border.{Border}
use Rattle.border.specs.declared.Border.TheVariants.{Clamp, Wrap, Reflect, Zeros, Reflect101, Mirror, Mirror101}
use Rattle.border.specs.declared.rule.Place.{Place}
use Rattle.border.specs.declared.rule.Place.TheVariants.{Before, At}
use Rattle.border.specs.declared.rule.Way.{Way}
use Rattle.border.specs.declared.rule.Way.TheVariants.{Ends, Nothing, Laps}
use Rattle.border.specs.Rule.{number_of, Sample, nearest, modulo, turned, folded101, outside, source, place_in, value_of, padded}
use Rattle.border.specs.Reach.{along, period_of, laps_of, Lapped, Goes, Long, Walkable, Paddable, Fillable, filled, lap_at}
use Rattle.border.specs.Rules.{modulo_low, turned_low, past_in, source_past}
use Rattle.border.specs.Mirrors.{mirror_in, mirror101_reflect101}
use Rattle.border.specs.Pads.{fill_left, fill_reach, fill_right, ends}

-- ---- how each border goes on beyond n samples
module _ (n : ℕ) (some : 0 < n) (few : n ≤ longest) where
  pub clamp_way : Goes Clamp n Ends
  clamp_way = record { sound = some; same = λ p o r. refl }

  pub zeros_way : Goes Zeros n Nothing
  zeros_way = record { sound = some; same = λ p o r. refl }

  -- laps that go as the border does; of one sample the border gives that one
  laps_way : (b : Border) (turn back once period top : ℕ) → period_of turn back once ≡ period → period + once - 1 ≡ top → (n ≢ 1 → Lapped n period turn top)
      → ((p : Place) → n ≢ 1 → outside b p n ≡ Sample (turned turn top (modulo p period))) → ((p : Place) → n ≡ 1 → outside b p n ≡ Sample 0)
      → (w : Way) → w ≡ laps_of n turn back once → Goes b n w
  laps_way b turn back once period top ep et sound more one w e =
      subst (Goes b n) (sym (e ∙ ap (cond (eqb n 1) Ends) (ap (λ (k : ℕ). Laps k turn (k + once - 1)) ep ∙ ap (Laps period turn) et))) (go (eqb n 1) (eqb-true n 1) (eqb-false n 1))
    where
      end : n ≡ 1 → (p : Place) → 0 ≡ nearest p n
      end h (Before k) = refl
      end h (At i) = omega arith

      go : (t : Bool) → (t ≡ true → n ≡ 1) → (t ≡ false → n ≢ 1) → Goes b n (cond t Ends (Laps period turn top))
      go true y z = record { sound = some; same = λ p o r. one p (y refl) ∙ ap Sample (end (y refl) p) }
      go false y z = record { sound = sound (z refl); same = λ p o r. more p (z refl) }

  pub wrap_way : (w : Way) → w ≡ laps_of n n 0 0 → Goes Wrap n w
  wrap_way =
      laps_way Wrap n 0 0 n (n - 1) (omega arith) (omega arith)
      (λ h. record { some = some; few = omega arith; whole = omega arith; there = le_refl n; back = omega arith })
      (λ p h. ap Sample (sym (simp (lt-ltb (modulo p n) n (modulo_low p n some)))))
      (λ p h. ap Sample (omega (arith, modulo_low p n some)))

  pub reflect_way : (w : Way) → w ≡ laps_of n 0 n 0 → Goes Reflect n w
  reflect_way =
      laps_way Reflect 0 n 0 n (n - 1) (omega arith) (omega arith)
      (λ h. record { some = some; few = omega arith; whole = omega arith; there = omega arith; back = omega arith })
      (λ p h. ap Sample (sym (simp (le-ltb (modulo p n) 0 (omega arith)))))
      (λ p h. ap Sample (omega arith))

  pub mirror_way : (w : Way) → w ≡ laps_of n n n 0 → Goes Mirror n w
  mirror_way =
      laps_way Mirror n n 0 (2 * n) (2 * n - 1) (omega arith) (omega arith)
      (λ h. record { some = omega arith; few = omega arith; whole = omega arith; there = le_refl n; back = omega arith })
      (λ p h. refl)
      (λ p h. ap Sample (omega (arith, mirror_in p n some)))

  pub mirror101_way : (w : Way) → w ≡ laps_of n n n 1 → Goes Mirror101 n w
  mirror101_way =
      laps_way Mirror101 n n 1 (2 * (n - 1)) (2 * (n - 1)) (omega arith) (omega arith)
      (λ h. record { some = omega arith; few = omega arith; whole = omega arith; there = le_refl n; back = omega arith })
      (λ p h. ap (λ (t : Bool). Sample (cond t 0 (folded101 p n))) (ne_eqb n 1 h))
      (λ p h. ap (λ (t : Bool). Sample (cond t 0 (folded101 p n))) (eq-eqb n 1 h))

  -- as far as Reflect101 goes it is Mirror101
  pub reflect101_way : (w : Way) → Goes Mirror101 n w → Goes Reflect101 n w
  reflect101_way w g = record {
    sound = g.sound;
    same = λ p o r. sym (mirror101_reflect101 p n some o (r.near refl)) ∙ g.same p o (record { some = some; few = few; near = λ e. absurd (other e) });
  }
    where
      other : Mirror101 ≡ Reflect101 → ⊥
      other e = let q : number_of Mirror101 ≡ number_of Reflect101 = ap number_of e in omega arith

-- laps that go over every sample are no shorter than their line
pub laps_long : (n turn back once : ℕ) → 0 < n → (n ≢ 1 → n ≤ period_of turn back once) → (w : Way) → w ≡ laps_of n turn back once → Long w n
laps_long n turn back once some long w e = subst (λ (v : Way). Long v n) (sym e) (go (eqb n 1) (eqb-false n 1))
  where
    go : (t : Bool) → (t ≡ false → n ≢ 1) → Long (cond t Ends (Laps (period_of turn back once) turn (period_of turn back once + once - 1))) n
    go true z = some
    go false z = long (z refl)

-- a border by its name
pub goes_by : {b b' : Border} {n : ℕ} {w : Way} → b ≡ b' → Goes b' n w → Goes b n w
goes_by {n = n} {w = w} e g = subst (λ (x : Border). Goes x n w) (sym e) g

-- ---- a lap goes on
pub lap_on : (q period : ℕ) → q + 1 ≢ period → q < period → q + 1 ≡ (q + 1) % period
lap_on q period e h = sym (mod-eq_of_lt (omega arith))

pub lap_anew : (q period : ℕ) → q + 1 ≡ period → 0 ≡ (q + 1) % period
lap_anew q period e = sym (ap (λ (k : ℕ). k % period) e ∙ mod_self period)

-- and back, where place 0 has the last in front of it
pub lap_back : (q period : ℕ) → q ≢ 0 → q < period → q - 1 ≡ (q + (period - 1)) % period
lap_back q period e h = let k : q - 1 + period ≡ q + (period - 1) = omega arith in sym (mod-eq_of_lt (omega arith)) ∙ sym (add-mod_right (q - 1) period) ∙ ap (λ (j : ℕ). j % period) k

pub lap_end : (q period : ℕ) → q ≡ 0 → q < period → period - 1 ≡ (q + (period - 1)) % period
lap_end q period e h = let k : period - 1 ≡ q + (period - 1) = omega arith in sym (mod-eq_of_lt (omega arith)) ∙ ap (λ (j : ℕ). j % period) k

-- ---- a walk
module _ {n left from count period turn top : ℕ} (x : List Float) (w : Walkable n (length x) left from count period turn top) where
  -- each place of a lap is a sample, and can be put where the walk goes
  pub can_put : (len to q : ℕ) → len ≡ length x → to < from + count → q < period → (to < len) × (left + n ≤ len) × (q ≤ top) × (turned turn top q < n)
  can_put len to q long in-it low =
      (omega (arith, long, w.room), omega (arith, long, w.line), omega (arith, w.laps.whole), turned_low n turn top q w.laps.there w.laps.back)

  -- a sample is as it was, since the walk goes apart from them, and the place of the lap tells it
  pub lap_put : {s : List Float} (g : ℕ → Float) (a k q to : ℕ) → s ≡ placed g a k x → from ≤ a → a + k ≤ from + count → q ≡ modulo (place_in left to) period
      → at s (left + turned turn top q) ≡ lap_at left period turn top x to
  lap_put g a k q to e h l m =
      let p = left + turned turn top q in
      let low-in : turned turn top q < n = turned_low n turn top q w.laps.there w.laps.back in
      ap (λ (y : List Float). at y p) e
      ∙ ⊎_elim (λ u. get_or-placed_behind g a k x p nan (omega (arith, w.room)) (omega arith)) (λ u. get_or-placed_before g a k x p nan (omega (arith, w.room)) (omega arith)) w.apart
      ∙ ap (λ (j : ℕ). at x (left + turned turn top j)) m

-- ---- places filled that way are those of the padded line
-- which are none of the line itself
beyond : {b : Border} {n len left from count : ℕ} → Fillable b n len left from count → (k : ℕ) → k < count → (from + k < left) ⊎ (left + n ≤ from + k)
beyond f k h = ⊎_elim (λ u. inl (omega arith)) (λ u. inr (omega arith)) f.apart

module _ {b : Border} {n left from count : ℕ} {w : Way} (x : List Float) (goes : Goes b n w) (f : Fillable b n (length x) left from count) where
  abbrev line : List Float
  line = take n (drop left x)

  long : length line ≡ n
  long = length-take-le n (drop left x) (omega (arith, length-drop left x, f.line))

  along_filled : (g : ℕ → Float) → ((k : ℕ) → k < count → g k ≡ value_of plus_zero line (along w (place_in left (from + k)) n)) → placed g from count x ≡ filled b left n from count x
  unfolding placed written padded
  along_filled g e =
      ap (λ (l : List Float). take from x ++ (l ++ drop count (drop from x)))
      (tab_same g (λ k. padded plus_zero b line left (from + k)) count (λ k h.
      let p = place_in left (from + k) in
      let o = past_in n left (from + k) f.some (beyond f k h) in
      e k h
      ∙ ap (value_of plus_zero line) (sym (goes.same p o (fill_reach f k h)) ∙ sym (source_past b p n o))
      ∙ ap (λ (m : ℕ). value_of plus_zero line (source b p m)) (sym long)))

  -- a sample of the line stands in the list
  sample : (k : ℕ) → k < n → at x (left + k) ≡ get_or line k plus_zero
  sample k h = sym (get_or_part nan left n x k h) ∙ get_or_any line k nan plus_zero (omega (arith, long))

pub laps_filled : {b : Border} {n left from count period turn top : ℕ} (x : List Float) → Goes b n (Laps period turn top) → Fillable b n (length x) left from count
    → placed (λ k. lap_at left period turn top x (from + k)) from count x ≡ filled b left n from count x
laps_filled {n = n} {left = left} {from = from} {period = period} {turn = turn} {top = top} x goes f =
    along_filled x goes f (λ k. lap_at left period turn top x (from + k))
    (λ k h. sample x goes f (turned turn top (modulo (place_in left (from + k)) period)) (turned_low n turn top _ goes.sound.there goes.sound.back))

pub zeros_filled : {b : Border} {n left from count : ℕ} {z : Float} (x : List Float) → z ≡ plus_zero → Goes b n Nothing → Fillable b n (length x) left from count
    → placed (λ k. z) from count x ≡ filled b left n from count x
zeros_filled {z = z} x e goes f = along_filled x goes f (λ k. z) (λ k h. e)

pub first_filled : {b : Border} {n left count : ℕ} (x : List Float) → Goes b n Ends → Fillable b n (length x) left 0 count → count ≤ left
    → placed (λ k. at x left) 0 count x ≡ filled b left n 0 count x
first_filled {n = n} {left = left} x goes f fits =
    along_filled x goes f (λ k. at x left)
    (λ k h.
    let e : left ≡ left + 0 = omega arith in
    let q : nearest (place_in left (0 + k)) n ≡ 0 = simp (lt-ltb (0 + k) left (omega arith)) in
    ap (at x) e ∙ sample x goes f 0 f.some ∙ ap (λ (j : ℕ). get_or (take n (drop left x)) j plus_zero) (sym q))

pub last_filled : {b : Border} {n left count : ℕ} (x : List Float) → Goes b n Ends → Fillable b n (length x) left (left + n) count
    → placed (λ k. at x (left + n - 1)) (left + n) count x ≡ filled b left n (left + n) count x
last_filled {n = n} {left = left} x goes f =
    along_filled x goes f (λ k. at x (left + n - 1))
    (λ k h.
    let e : left + n - 1 ≡ left + (n - 1) = omega (arith, f.some) in
    let q : nearest (place_in left (left + n + k)) n ≡ n - 1 = simp (le-ltb (left + n + k) left (omega arith)) in
    ap (at x) e ∙ sample x goes f (n - 1) (omega (arith, f.some)) ∙ ap (λ (j : ℕ). get_or (take n (drop left x)) j plus_zero) (sym q))

-- one side, then the other
pub both_sides : {b : Border} {n left right : ℕ} (x : List Float) {y z : List Float} → Paddable b n left right → left + n + right ≤ length x
    → y ≡ filled b left n 0 left x → (Fillable b n (length y) left (left + n) right → z ≡ filled b left n (left + n) right y)
    → z ≡ written (padded plus_zero b (take n (drop left x)) left) (left + n + right) x
both_sides {b} {n} {left} {right} x {y} p room first second =
    let long : length y ≡ length x = ap length first ∙ length-placed (λ k. padded plus_zero b (take n (drop left x)) left (0 + k)) 0 left x (omega arith) in
    second (fill_right (length y) p (omega (arith, room, long))) ∙ ap (filled b left n (left + n) right) first ∙ ends b n left right x p room

pub sides : {b : Border} {n left right : ℕ} (x : List Float) {y z : List Float} → Paddable b n left right → left + n + right ≤ length x
    → (Fillable b n (length x) left 0 left → y ≡ filled b left n 0 left x) → (Fillable b n (length y) left (left + n) right → z ≡ filled b left n (left + n) right y)
    → z ≡ written (padded plus_zero b (take n (drop left x)) left) (left + n + right) x
sides x p room first = both_sides x p room (first (fill_left (length x) p room))

-- neither side: the line itself
pub no_sides : {b : Border} {n left right : ℕ} (x : List Float) → Paddable b n left right → left + n + right ≤ length x → left + right ≡ 0
    → x ≡ written (padded plus_zero b (take n (drop left x)) left) (left + n + right) x
no_sides x p room none = both_sides x p room (placed_end _ _ 0 _ x (placed_start _ _ x) (omega arith) (omega (arith, none))) (λ f. placed_end _ _ 0 _ x (placed_start _ _ x) (omega arith) (omega (arith, none)))
