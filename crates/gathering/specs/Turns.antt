-- Laws of a block's loops: pairs onto n sums at once, every second place written, and a block that is taken, gathered onto and put back.
use Rattle.std.specs.Prelude.{◌≡◌, refl, ℕ, ◌+◌, ◌-◌, ◌*◌, ◌≤◌, ◌<◌, length, set, Float}
use Rattle.std.proofs.Math.Path.{sym, ap}
use Rattle.std.proofs.Common.{◌∙◌, subst, add-one, length-set, get_or-set_same, get_or-set_other}
use mathlib.Core.List.{List}
use native.Mathlib.Omega.{arith}
use Rattle.std.proofs.Math.Decide.{dec_lt}
use Rattle.std.specs.Float.{Format}
use Rattle.std.specs.Float.Ieee.{nan}
use Rattle.numbers.specs.Words.{at, tab}
use Rattle.numbers.specs.Write.{length-tab, get_or-tab, tab_get_or}
use Rattle.numbers.specs.Places.{tab_same}
use Rattle.gathering.specs.Pairs.{onto}
use Rattle.gathering.specs.Works.{Seconds, onto_at, gathered, gathered_at}

-- ---- a loop over the pairs: as it begins, one pair, and as it ends
module _ (f : Format) (low high a d : List Float) (last k n : ℕ) (held : List Float) where
  abbrev after : ℕ → ℕ → Float
  after s = gathered_at f low high a d last k held s

  pub gather_start : length held ≡ n → held ≡ tab (after 0) n
  unfolding gathered gathered_at
  gather_start e = sym (tab_get_or held nan) ∙ ap (tab (at held)) e

  pub gather_step : (s : ℕ) {x y : List Float} → x ≡ tab (after s) n → y ≡ tab (onto_at f low high a d (last - 2 * s) (k + s) x) n → y ≡ tab (after (s + 1)) n
  unfolding gathered gathered_at
  gather_step s {x} ex ey =
      let j = last - 2 * s in
      ey
      ∙ tab_same (onto_at f low high a d j (k + s) x) (after (s + 1)) n
      (λ q l.
      let there : k + s + q ≡ k + q + s = omega arith in
      let was : at x q ≡ after s q = ap (λ (w : List Float). at w q) ex ∙ get_or-tab (after s) n q nan l in
      ap (onto f (at low) (at high) j (at a (k + s + q)) (at d (k + s + q))) was
      ∙ ap (λ (i : ℕ). onto f (at low) (at high) j (at a i) (at d i) (after s q)) there
      ∙ sym (ap (λ (i : ℕ). after i q) (add-one s)))

  pub gather_end : (s t : ℕ) {x : List Float} → x ≡ tab (after s) n → s ≤ t → t ≤ s → x ≡ tab (after t) n
  gather_end s t e h l = let q : s ≡ t = omega arith in rw (← q) e

-- ---- a loop that writes every second place
pub seconds_start : (from : ℕ) (sums old : List Float) → Seconds from sums old old 0
seconds_start from sums old = record { kept = refl; put = λ q l. absurd (omega arith); rest = λ p h. refl }

pub seconds_step : (from : ℕ) (sums old : List Float) (n : ℕ) {new : List Float} {v : Float} → from + 2 * n < length old → v ≡ at sums n
    → Seconds from sums old new n → Seconds from sums old (set new (from + 2 * n) v) (n + 1)
seconds_step from sums old n {new} {v} h e s =
    record {
      kept = simp length-set s.kept;
      put = λ q l. go q l (dec_lt q n);
      rest = λ p far. get_or-set_other new (from + 2 * n) p v nan (λ w. far n (omega arith) w) ∙ s.rest p (λ q l w. far q (omega arith) w);
    }
  where
    go : (q : ℕ) → q < n + 1 → Dec (q < n) → at (set new (from + 2 * n) v) (from + 2 * q) ≡ at sums q
    go q l (yes b) = get_or-set_other new (from + 2 * n) (from + 2 * q) v nan (λ w. absurd (omega arith)) ∙ s.put q b
    go q l (no b) =
        let w : q ≡ n = omega arith in
        ap (λ (i : ℕ). at (set new (from + 2 * n) v) (from + 2 * i)) w ∙ get_or-set_same new (from + 2 * n) v nan (omega (arith, s.kept)) ∙ e ∙ ap (at sums) (sym w)

pub seconds_end : (from : ℕ) (sums old : List Float) (n m : ℕ) {new : List Float} → n ≤ m → m ≤ n → Seconds from sums old new n → Seconds from sums old new m
seconds_end from sums old n m {new} h k s = let q : n ≡ m = omega arith in rw (← q) s

-- ---- sixteen places that were taken, gathered onto and put back
pub sixteen_put : (f : Format) (p : ℕ) (low high a d : List Float) (last k half : ℕ) (old : List Float) {n : ℕ} {y z new : List Float} → n ≡ 16
    → y ≡ tab (λ q. at old (p + 2 * q)) n → z ≡ tab (gathered_at f low high a d last k y half) 16 → Seconds p z old new (length z)
    → Seconds p (tab (gathered_at f low high a d last k (tab (λ q. at old (p + 2 * q)) 16) half) 16) old new 16
sixteen_put f p low high a d last k half old {n} {y} {z} {new} en ey ez s =
    let taken : y ≡ tab (λ q. at old (p + 2 * q)) 16 = ey ∙ ap (tab (λ q. at old (p + 2 * q))) en in
    let long : length z ≡ 16 = ap length ez ∙ length-tab _ 16 in
    let sums : z ≡ tab (gathered_at f low high a d last k (tab (λ q. at old (p + 2 * q)) 16) half) 16 =
    ez ∙ ap (λ (w : List Float). tab (gathered_at f low high a d last k w half) 16) taken
    in
    subst (λ (w : List Float). Seconds p w old new 16) sums (subst (λ (m : ℕ). Seconds p z old new m) long s)
