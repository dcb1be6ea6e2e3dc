-- Laws of an output that is joined in runs of places: two places, thirty-two by turns of even and odd ones, and run behind run to the end.
use Rattle.std.specs.Prelude.{◌≡◌, refl}
use Rattle.std.proofs.Common.{sym, ◌∙◌, subst, zero-add}
use Rattle.std.proofs.Math.Path.{ap}
use mathlib.Core.List.{List}
use Prim.Native.Nat.{ℕ, suc, ◌+◌, ◌-◌, ◌*◌, ◌/◌, ◌%◌, ◌≤◌, ◌<◌}
use Rattle.std.proofs.Math.Decide.{dec_lt}
use native.Mathlib.Omega.{arith}
use Rattle.std.proofs.Math.ListN.{length, set}
use Rattle.std.specs.Float.Ieee.{Float, nan}
use Rattle.std.specs.Float.{Format}
use Rattle.numbers.specs.Words.{at, tab, placed, replaced, cleared}
use Rattle.numbers.specs.Write.{length-tab, get_or-tab, written_all, placed_start, placed_step, get_or-placed_behind}
use Rattle.numbers.specs.Places.{tab_same, placed_front, is_placed}
use Rattle.numbers.specs.Runs.{placed_same, placed_more}
use Rattle.gathering.specs.Pairs.{onto}
use Rattle.gathering.specs.Works.{Seconds, gathered, gathered_at}
use Rattle.synthesis.specs.Sums.{joined}
use Rattle.synthesis.specs.Lines.{synthesised, join_of}
use Rattle.synthesis.specs.Works.{Joinable, Taking, place_of, joined_from}
use Rattle.synthesis.specs.Gathers.{gathered_all}

-- what holds of an output holds of one that is as long
pub still_taking : {f l h a d o o' : ℕ} → Taking f l h a d o → o' ≡ o → Taking f l h a d o'
still_taking {f} {l} {h} {a} {d} t e = subst (λ (k : ℕ). Taking f l h a d k) (sym e) t

-- the same with the lists as they are seen, which are as long
pub joinable_by : {f a d o a' d' o' : ℕ} → Joinable f a d o → a' ≡ a → d' ≡ d → o' ≡ o → Joinable f a' d' o'
joinable_by j p q r = record { two = j.two; most = j.most; even = j.even; few = omega (arith, j.few); both = omega (arith, j.both); ruled = omega (arith, j.ruled) }

pub length-synthesised : (g : Format) (F : ℕ) (low high a d out : List Float) → length (synthesised g F low high a d out) ≡ length out
unfolding synthesised
length-synthesised g F low high a d out = length-tab _ (length out)

pub length_join : (g : Format) (F : ℕ) (low high : List Float) (n : ℕ) (a d : List Float) → length (join_of g F low high n a d) ≡ n
length_join g F low high n a d = length-synthesised g F low high a d (cleared n) ∙ length-tab _ n

module _ (f : Format) (F : ℕ) (low high a d : List Float) where
  abbrev whole : List Float → ℕ → Float
  whole old = place_of f F low high a d old

  abbrev some : ℕ → ℕ → Float → ℕ → Float
  some last k held s = gathered f (at low) (at high) (at a) (at d) last k held s

  -- half as many pairs as taps are all that reach a place
  pub all_gathered : (n k e : ℕ) (held : Float) → Joinable F (length a) (length d) n → e < 2 → 2 * k + e < n
      → some (F - 2 + e) k held (F / 2) ≡ joined f F (at low) (at high) (at a) (at d) (2 * k + e + (F - 2)) held (length a)
  all_gathered n k e held j b l =
      let h = F / 2 in
      let q : 2 * h ≡ F = omega (arith, j.even) in
      subst (λ (G : ℕ). some (G - 2 + e) k held h ≡ joined f G (at low) (at high) (at a) (at d) (2 * k + e + (G - 2)) held (length a)) q
      (sym (gathered_all f (at low) (at high) (at a) (at d) h k e held (omega (arith, j.two, q)) b (length a) (omega (arith, j.ruled, q))))

  -- ---- two places: i - k pairs have come to both
  pub record Two (k : ℕ) (old : List Float) (i : ℕ) (even odd : Float) : Type 0 where
    pub evens : even ≡ some (F - 2 + 0) k (at old (2 * k)) (i - k)
    pub odds : odd ≡ some (F - 2 + 1) k (at old (2 * k + 1)) (i - k)

  pub two_start : (k : ℕ) (old : List Float) → Two k old k (at old (2 * k)) (at old (2 * k + 1))
  unfolding gathered
  two_start k old =
      let none : 0 ≡ k - k = omega arith in
      record { evens = ap (some (F - 2 + 0) k (at old (2 * k))) none; odds = ap (some (F - 2 + 1) k (at old (2 * k + 1))) none }

  pub one_more : (k e i j t : ℕ) (held : Float) {z : Float} → k ≤ i → 2 * i + j ≡ 2 * k + F → 2 ≤ j → t ≡ j - 2 + e → z ≡ some (F - 2 + e) k held (i - k)
      → onto f (at low) (at high) t (at a i) (at d i) z ≡ some (F - 2 + e) k held (i + 1 - k)
  unfolding gathered
  one_more k e i j t held {z} h l b et ez =
      let s = i - k in
      let here : k + s ≡ i = omega arith in
      let tap : t ≡ F - 2 + e - 2 * s = omega arith in
      let next : suc s ≡ i + 1 - k = omega arith in
      ap (onto f (at low) (at high) t (at a i) (at d i)) ez
      ∙ ap (λ (u : ℕ). onto f (at low) (at high) u (at a i) (at d i) (some (F - 2 + e) k held s)) tap
      ∙ ap (λ (u : ℕ). onto f (at low) (at high) (F - 2 + e - 2 * s) (at a u) (at d u) (some (F - 2 + e) k held s)) (sym here)
      ∙ ap (some (F - 2 + e) k held) next

  pub two_step : (k : ℕ) (old : List Float) (i j : ℕ) {even odd : Float} → k ≤ i → 2 * i + j ≡ 2 * k + F → 2 ≤ j → Two k old i even odd
      → Two k old (i + 1) (onto f (at low) (at high) (j - 2) (at a i) (at d i) even) (onto f (at low) (at high) (j - 2 + 1) (at a i) (at d i) odd)
  two_step k old i j h l b t =
      record { evens = one_more k 0 i j (j - 2) (at old (2 * k)) h l b (omega arith) t.evens; odds = one_more k 1 i j (j - 2 + 1) (at old (2 * k + 1)) h l b refl t.odds }

  pub two_end : (k : ℕ) (old : List Float) (i j : ℕ) {even odd : Float} → Joinable F (length a) (length d) (length old) → 2 * k + 2 ≤ length old
      → k ≤ i → 2 * i + j ≡ 2 * k + F → j < 2 → Two k old i even odd → set (set old (2 * k) even) (2 * k + 1) odd ≡ replaced (whole old) (2 * k) 2 old
  unfolding place_of
  two_end k old i j {even} jo b h l last t =
      let s = 2 * k in
      let half : i - k ≡ F / 2 = omega (arith, jo.even) in
      let g : ℕ → Float = λ q. whole old (s + q) in
      let here : s ≡ s + 0 = omega arith in
      let first : even ≡ whole old (s + 0) =
      t.evens ∙ ap (some (F - 2 + 0) k (at old s)) half ∙ all_gathered (length old) k 0 (at old s) jo (omega arith) (omega arith)
      ∙ ap (λ (p : ℕ). joined f F (at low) (at high) (at a) (at d) (s + 0 + (F - 2)) (at old p) (length a)) here
      in
      placed_step g s 1 old (omega arith)
      (ap (λ (p : ℕ). set old p even) here ∙ placed_step g s 0 old (omega arith) (placed_start g s old) first)
      (t.odds ∙ ap (some (F - 2 + 1) k (at old (s + 1))) half ∙ all_gathered (length old) k 1 (at old (s + 1)) jo (omega arith) (omega arith))

  -- ---- thirty-two places: of each two the first e have all their pairs
  pub record Turn (k : ℕ) (old new : List Float) (e : ℕ) : Type 0 where
    pub kept : length new ≡ length old
    pub come : (q i : ℕ) → q < 16 → i < e → at new (2 * k + i + 2 * q) ≡ whole old (2 * k + i + 2 * q)
    pub rest : (p : ℕ) → ((q i : ℕ) → q < 16 → i < e → p ≡ 2 * k + i + 2 * q → ⊥) → at new p ≡ at old p

  pub turn_start : (k : ℕ) (old : List Float) → Turn k old old 0
  turn_start k old = record { kept = refl; come = λ q i b l. absurd (omega arith); rest = λ p h. refl }

  pub turn_step : (k : ℕ) (old new : List Float) (e : ℕ) {new' : List Float} → Joinable F (length a) (length d) (length old) → 2 * k + 32 ≤ length old → e < 2
      → Turn k old new e
      → Seconds (2 * k + e) (tab (gathered_at f low high a d (F - 2 + e) k (tab (λ q. at new (2 * k + e + 2 * q)) 16) (F / 2)) 16) new new' 16
      → Turn k old new' (e + 1)
  unfolding place_of gathered_at
  turn_step k old new e {new'} jo b two t s =
      record {
        kept = s.kept ∙ t.kept;
        come = λ q i l u. go q i l u (dec_lt i e);
        rest = λ p far. s.rest p (λ q l w. far q e l (omega arith) w) ∙ t.rest p (λ q i l u w. far q i l (omega arith) w);
      }
    where
      held : List Float
      held = tab (λ q. at new (2 * k + e + 2 * q)) 16

      go : (q i : ℕ) → q < 16 → i < e + 1 → Dec (i < e) → at new' (2 * k + i + 2 * q) ≡ whole old (2 * k + i + 2 * q)
      go q i l u (yes v) = s.rest (2 * k + i + 2 * q) (λ r m w. absurd (omega arith)) ∙ t.come q i l v
      go q i l u (no v) =
          let w : i ≡ e = omega arith in
          let p = 2 * k + e + 2 * q in
          let there : 2 * (k + q) + e ≡ p = omega arith in
          let was : at held q ≡ at old p = get_or-tab (λ q. at new (2 * k + e + 2 * q)) 16 q nan l ∙ t.rest p (λ r j m n x. absurd (omega arith)) in
          ap (λ (n : ℕ). at new' (2 * k + n + 2 * q)) w
          ∙ s.put q l
          ∙ get_or-tab (gathered_at f low high a d (F - 2 + e) k held (F / 2)) 16 q nan l
          ∙ ap (λ (z : Float). some (F - 2 + e) (k + q) z (F / 2)) was
          ∙ all_gathered (length old) (k + q) e (at old p) jo two (omega arith)
          ∙ ap (λ (n : ℕ). joined f F (at low) (at high) (at a) (at d) (n + (F - 2)) (at old p) (length a)) there
          ∙ ap (λ (n : ℕ). whole old (2 * k + n + 2 * q)) (sym w)

  pub turn_end : (k : ℕ) (old new : List Float) (e : ℕ) → 2 * k + 32 ≤ length old → 2 ≤ e → e ≤ 2 → Turn k old new e → new ≡ replaced (whole old) (2 * k) 32 old
  turn_end k old new e b u v t =
      is_placed nan (λ q. whole old (2 * k + q)) (2 * k) 32 old new b t.kept
      (λ p l. t.rest p (λ q i m n w. absurd (omega arith)))
      (λ q l. let w : 2 * k + q % 2 + 2 * (q / 2) ≡ 2 * k + q = omega arith in
      ap (at new) (sym w) ∙ t.come (q / 2) (q % 2) (omega arith) (omega arith) ∙ ap (whole old) w)
      (λ p l. t.rest p (λ q i m n w. absurd (omega arith)))

  -- ---- run behind run: the places from 2 k₀ to 2 k have all their pairs, then those to 2 k'
  pub run_start : (k : ℕ) (old : List Float) → old ≡ joined_from f F low high a d k k old
  run_start k old =
      let none : 0 ≡ 2 * (k - k) = omega arith in
      placed_start (λ q. whole old (2 * k + q)) (2 * k) old ∙ ap (λ (n : ℕ). replaced (whole old) (2 * k) n old) none

  pub join_run : (k₀ k k' m : ℕ) (old : List Float) {l r : List Float} → k₀ ≤ k → 2 * k' ≡ 2 * k + m → 2 * k + m ≤ length old
      → l ≡ joined_from f F low high a d k₀ k old → r ≡ replaced (whole l) (2 * k) m l → r ≡ joined_from f F low high a d k₀ k' old
  unfolding place_of
  join_run k₀ k k' m old {l} {r} b ek h e er =
      let s = 2 * k₀ in
      let n = 2 * (k - k₀) in
      let g : ℕ → Float = λ q. whole old (s + q) in
      let here : 2 * k ≡ s + n = omega arith in
      let to : n + m ≡ 2 * (k' - k₀) = omega arith in
      er
      ∙ ap (λ (i : ℕ). replaced (whole l) i m l) here
      ∙ placed_same (λ q. whole l (s + n + q)) (s + n) l (λ q. g (n + q)) m
      (λ q c.
      let there : s + n + q ≡ s + (n + q) = omega arith in
      ap (λ (z : Float). joined f F (at low) (at high) (at a) (at d) (s + n + q + (F - 2)) z (length a))
      (ap (λ (x : List Float). at x (s + n + q)) e ∙ get_or-placed_behind g s n old (s + n + q) nan (omega arith) (omega arith))
      ∙ ap (whole old) there)
      ∙ ap (placed (λ q. g (n + q)) (s + n) m) e
      ∙ placed_more g s old n m (omega arith)
      ∙ ap (λ (i : ℕ). placed g s i old) to

  pub join_end : (k k' : ℕ) (old : List Float) {l r : List Float} → k ≤ k' → 2 * k' ≤ length old → length old ≤ 2 * k'
      → l ≡ joined_from f F low high a d 0 k old → r ≡ joined_from f F low high a d k k' l → r ≡ synthesised f F low high a d old
  unfolding place_of synthesised
  join_end k k' old b h u e er =
      let all : 2 * (k' - 0) ≡ length old = omega arith in
      join_run 0 k k' (2 * (k' - k)) old (omega arith) (omega arith) (omega arith) e er
      ∙ ap (λ (n : ℕ). placed (λ q. whole old (0 + q)) 0 n old) all
      ∙ placed_front (λ q. whole old (0 + q)) (length old) old
      ∙ written_all (λ q. whole old (0 + q)) old
      ∙ tab_same (λ q. whole old (0 + q)) (whole old) (length old) (λ p c. ap (whole old) (zero-add p))
