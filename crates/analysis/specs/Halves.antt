-- Laws of both bands in one buffer: none of either, some places more, and all of them; and the line that lies behind them stays.
use Rattle.std.specs.Prelude.{ℕ, ◌+◌, ◌-◌, ◌*◌, ◌≤◌, ◌<◌, List, ◌++◌, ◌≡◌, refl, length, set, take, drop, Float}
use Rattle.std.proofs.Math.Decide.{dec_lt}
use Rattle.std.proofs.Common.{arith, inl, inr, ⊎_elim, sym, ap, subst, ◌∙◌, length-append, length-set, get_or-append-add}
use Rattle.std.proofs.Math.ListN.{get_or-append}
use Rattle.std.specs.Float.{nan}
use Rattle.numbers.specs.Words.{at, tab, written, placed}
use Rattle.numbers.specs.Write.{length-tab, get_or-tab, tab_get_or, written_all, placed_start, placed_step, length-placed, get_or-placed_before, get_or-placed_behind}
use Rattle.numbers.specs.Places.{is_placed, part_ext, get_or-placed_in, placed_front}
use Rattle.bank.specs.Lengths.{spanned}
use Rattle.analysis.specs.Works.{line_at, Halves}

-- none of either
pub halves_start : (g h : ℕ → Float) (to m : ℕ) (x : List Float) → Halves g h to m 0 x x
halves_start g h to m x = record { long = refl; first = λ j l. absurd (omega arith); second = λ j l. absurd (omega arith); apart = λ j o. refl }

-- n more places of either
pub halves_run : (g h u v : ℕ → Float) (to m i n : ℕ) (x s : List Float) {s₁ s₂ : List Float} → i + n ≤ m → to + (m + m) ≤ length x → Halves g h to m i x s
    → ((q : ℕ) → q < n → u q ≡ g (i + q)) → ((q : ℕ) → q < n → v q ≡ h (i + q)) → s₁ ≡ placed u (to + i) n s → s₂ ≡ placed v (to + m + i) n s₁
    → Halves g h to m (i + n) x s₂
halves_run g h u v to m i n x s {s₁} {s₂} k room p eu ev e₁ e₂ = record {
  long = ap length e₂ ∙ length-placed v (to + m + i) n s₁ (omega (arith, long₁)) ∙ long₁;
  first = λ j l. low j (dec_lt j i) l;
  second = λ j l. high j (dec_lt j i) l;
  apart = λ j o. ⊎_elim
      (λ w. before₂ j (omega arith) ∙ before₁ j (omega arith) ∙ p.apart j o)
      (λ w. behind₂ j (omega arith) ∙ behind₁ j (omega arith) ∙ p.apart j o)
      o;
}
  where
    long₁ : length s₁ ≡ length x
    long₁ = ap length e₁ ∙ length-placed u (to + i) n s (omega (arith, p.long)) ∙ p.long

    before₁ : (j : ℕ) → j < to + i → at s₁ j ≡ at s j
    before₁ j l = ap (λ (y : List Float). at y j) e₁ ∙ get_or-placed_before u (to + i) n s j nan (omega (arith, p.long)) l

    behind₁ : (j : ℕ) → to + i + n ≤ j → at s₁ j ≡ at s j
    behind₁ j l = ap (λ (y : List Float). at y j) e₁ ∙ get_or-placed_behind u (to + i) n s j nan (omega (arith, p.long)) l

    before₂ : (j : ℕ) → j < to + m + i → at s₂ j ≡ at s₁ j
    before₂ j l = ap (λ (y : List Float). at y j) e₂ ∙ get_or-placed_before v (to + m + i) n s₁ j nan (omega (arith, long₁)) l

    behind₂ : (j : ℕ) → to + m + i + n ≤ j → at s₂ j ≡ at s₁ j
    behind₂ j l = ap (λ (y : List Float). at y j) e₂ ∙ get_or-placed_behind v (to + m + i) n s₁ j nan (omega (arith, long₁)) l

    low : (j : ℕ) → Dec (j < i) → j < i + n → at s₂ (to + j) ≡ g j
    low j (yes d) l = before₂ (to + j) (omega arith) ∙ before₁ (to + j) (omega arith) ∙ p.first j d
    low j (no d) l =
        let q = j - i in
        let e : i + q ≡ j = omega arith in
        let t : to + j ≡ to + i + q = omega arith in
        before₂ (to + j) (omega arith)
        ∙ ap (λ (y : List Float). at y (to + j)) e₁
        ∙ ap (at (placed u (to + i) n s)) t
        ∙ get_or-placed_in u (to + i) n s q nan (omega (arith, p.long)) (omega arith)
        ∙ eu q (omega arith) ∙ ap g e

    high : (j : ℕ) → Dec (j < i) → j < i + n → at s₂ (to + m + j) ≡ h j
    high j (yes d) l = before₂ (to + m + j) (omega arith) ∙ behind₁ (to + m + j) (omega arith) ∙ p.second j d
    high j (no d) l =
        let q = j - i in
        let e : i + q ≡ j = omega arith in
        let t : to + m + j ≡ to + m + i + q = omega arith in
        ap (λ (y : List Float). at y (to + m + j)) e₂
        ∙ ap (at (placed v (to + m + i) n s₁)) t
        ∙ get_or-placed_in v (to + m + i) n s₁ q nan (omega (arith, long₁)) (omega arith)
        ∙ ev q (omega arith) ∙ ap h e

-- one more place of either
placed_one : (k : ℕ) (x : List Float) (u : Float) → k < length x → set x k u ≡ placed (λ q. u) k 1 x
placed_one k x u h = let e : k ≡ k + 0 = omega arith in ap (λ (z : ℕ). set x z u) e ∙ placed_step (λ q. u) k 0 x (omega arith) (placed_start (λ q. u) k x) refl

pub halves_step : (g h : ℕ → Float) (to m i : ℕ) (x s : List Float) (u v : Float) → i < m → to + (m + m) ≤ length x → Halves g h to m i x s → u ≡ g i → v ≡ h i
    → Halves g h to m (i + 1) x (set (set s (to + i) u) (to + m + i) v)
halves_step g h to m i x s u v k room p eu ev =
    halves_run g h (λ q. u) (λ q. v) to m i 1 x s (omega arith) room p
    (λ q l. let e : i ≡ i + q = omega arith in eu ∙ ap g e) (λ q l. let e : i ≡ i + q = omega arith in ev ∙ ap h e)
    (placed_one (to + i) s u (omega (arith, p.long)))
    (placed_one (to + m + i) (set s (to + i) u) v (omega (arith, length-set s (to + i) u, p.long)))

-- what stands may be told of the list as it is: its rest is its own
pub halves_again : {g h : ℕ → Float} (g' h' : ℕ → Float) (to m i : ℕ) {x s : List Float} → Halves g h to m i x s → ((j : ℕ) → j < i → g j ≡ g' j) → ((j : ℕ) → j < i → h j ≡ h' j)
    → Halves g' h' to m i s s
halves_again g' h' to m i p eg eh = record { long = refl; first = λ j l. p.first j l ∙ eg j l; second = λ j l. p.second j l ∙ eh j l; apart = λ j o. refl }

-- all of them
pub halves_all : (g h : ℕ → Float) (to m : ℕ) (x s : List Float) → to + (m + m) ≤ length x → Halves g h to m m x s → s ≡ placed (at (tab g m ++ tab h m)) to (m + m) x
halves_all g h to m x s room p =
    is_placed nan (at (tab g m ++ tab h m)) to (m + m) x s room p.long (λ j l. p.apart j (inl l)) (λ i l. both i (dec_lt i m) l) (λ j l. p.apart j (inr l))
  where
    both : (i : ℕ) → Dec (i < m) → i < m + m → at s (to + i) ≡ at (tab g m ++ tab h m) i
    both i (yes d) l = p.first i d ∙ sym (get_or-append (tab g m) (tab h m) nan i (omega (arith, length-tab g m)) ∙ get_or-tab g m i nan d)
    both i (no d) l =
        let j = i - m in
        let here : to + i ≡ to + m + j = omega arith in
        let there : length (tab g m) + j ≡ i = omega (arith, length-tab g m) in
        ap (at s) here ∙ p.second j (omega arith)
        ∙ sym (ap (at (tab g m ++ tab h m)) (sym there) ∙ get_or-append-add (tab g m) (tab h m) j nan ∙ get_or-tab h m j nan (omega arith))

-- the same from another list that has the same rest
pub halves_from : {g h g' h' : ℕ → Float} (to m r i : ℕ) {x y s : List Float} → Halves g h to m r x y → Halves g' h' to m i y s → Halves g' h' to m i x s
halves_from to m r i p q = record { long = q.long ∙ p.long; first = q.first; second = q.second; apart = λ j o. q.apart j o ∙ p.apart j o }

-- the line is as it was
pub line_same : (g h : ℕ → Float) (f from to m i e : ℕ) (x s : List Float) → to + (m + m) ≤ from → e ≡ spanned m f → Halves g h to m i x s → take e (drop from s) ≡ line_at f from m x
line_same g h f from to m i e x s before q p =
    ap (λ (k : ℕ). take k (drop from s)) q ∙ part_ext nan from (spanned m f) s x p.long (λ j l k. p.apart j (inr (omega arith)))

-- ---- both bands fill the buffer, from its front on
pub beside_run : (g h u v : ℕ → Float) (m i n : ℕ) (x s : List Float) {s₁ s₂ : List Float} → i + n ≤ m → length x ≡ m + m → Halves g h 0 m i x s
    → ((q : ℕ) → q < n → u q ≡ g (i + q)) → ((q : ℕ) → q < n → v q ≡ h (i + q)) → s₁ ≡ placed u i n s → s₂ ≡ placed v (m + i) n s₁
    → Halves g h 0 m (i + n) x s₂
beside_run g h u v m i n x s {s₁} k w p eu ev e₁ e₂ =
    let a : i ≡ 0 + i = omega arith in
    let b : m + i ≡ 0 + m + i = omega arith in
    halves_run g h u v 0 m i n x s k (omega arith) p eu ev (e₁ ∙ ap (λ (z : ℕ). placed u z n s) a) (e₂ ∙ ap (λ (z : ℕ). placed v z n s₁) b)

pub beside_step : (g h : ℕ → Float) (m i : ℕ) (x s : List Float) (u v : Float) → i < m → length x ≡ m + m → Halves g h 0 m i x s → u ≡ g i → v ≡ h i
    → Halves g h 0 m (i + 1) x (set (set s i u) (m + i) v)
beside_step g h m i x s u v k w p eu ev =
    let a : 0 + i ≡ i = omega arith in
    let b : 0 + m + i ≡ m + i = omega arith in
    let e : set (set s (0 + i) u) (0 + m + i) v ≡ set (set s i u) (m + i) v =
    ap (λ (z : ℕ). set (set s z u) (0 + m + i) v) a ∙ ap (λ (z : ℕ). set (set s i u) z v) b in
    subst (λ (y : List Float). Halves g h 0 m (i + 1) x y) e (halves_step g h 0 m i x s u v k (omega arith) p eu ev)

pub beside_all : (g h : ℕ → Float) (m i : ℕ) (x s : List Float) → length x ≡ m + m → i ≤ m → m ≤ i → Halves g h 0 m i x s → s ≡ tab g m ++ tab h m
beside_all g h m i x s w k l p =
    let e : i ≡ m = omega arith in
    let both : List Float = tab g m ++ tab h m in
    let n : length both ≡ m + m = length-append (tab g m) (tab h m) ∙ omega (arith, length-tab g m, length-tab h m) in
    halves_all g h 0 m x s (omega arith) (subst (λ (z : ℕ). Halves g h 0 m z x s) e p)
    ∙ placed_front (at both) (m + m) x
    ∙ ap (λ (z : ℕ). written (at both) z x) (sym w)
    ∙ written_all (at both) x
    ∙ ap (tab (at both)) (w ∙ sym n)
    ∙ tab_get_or both nan

-- ---- eight places more of either, the k-th eight of each
pub halves_turn : (g h : ℕ → Float) (to m k : ℕ) (x s u v : List Float) {s₁ s₂ : List Float} → 8 * k + 8 ≤ m → to + (m + m) ≤ length x → Halves g h to m (8 * k) x s
    → ((q : ℕ) → q < 8 → at u q ≡ g (8 * k + q)) → ((q : ℕ) → q < 8 → at v q ≡ h (8 * k + q))
    → s₁ ≡ placed (at u) (to + 8 * k) 8 s → s₂ ≡ placed (at v) (to + m + 8 * k) 8 s₁
    → Halves g h to m (8 * (k + 1)) x s₂
halves_turn g h to m k x s u v {s₂ = s₂} room fits p eu ev e₁ e₂ =
    let on : 8 * k + 8 ≡ 8 * (k + 1) = omega arith in
    subst (λ (j : ℕ). Halves g h to m j x s₂) on (halves_run g h (at u) (at v) to m (8 * k) 8 x s room fits p eu ev e₁ e₂)

pub beside_turn : (g h : ℕ → Float) (m k : ℕ) (x s u v : List Float) {s₁ s₂ : List Float} → 8 * k + 8 ≤ m → length x ≡ m + m → Halves g h 0 m (8 * k) x s
    → ((q : ℕ) → q < 8 → at u q ≡ g (8 * k + q)) → ((q : ℕ) → q < 8 → at v q ≡ h (8 * k + q))
    → s₁ ≡ placed (at u) (8 * k) 8 s → s₂ ≡ placed (at v) (m + 8 * k) 8 s₁
    → Halves g h 0 m (8 * (k + 1)) x s₂
beside_turn g h m k x s u v {s₁} room w p eu ev e₁ e₂ =
    let a : 8 * k ≡ 0 + 8 * k = omega arith in
    let b : m + 8 * k ≡ 0 + m + 8 * k = omega arith in
    halves_turn g h 0 m k x s u v room (omega arith) p eu ev (e₁ ∙ ap (λ (z : ℕ). placed (at u) z 8 s) a) (e₂ ∙ ap (λ (z : ℕ). placed (at v) z 8 s₁) b)
