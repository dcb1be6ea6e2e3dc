-- Laws of places within one list: it is read by place, compared by place, and lent in parts.
use Rattle.std.specs.Prelude.{◌≡◌, ◌⊎◌, length, take, drop, set}
use Rattle.std.proofs.Math.Path.{refl, sym, ap}
use Rattle.std.proofs.Common.{◌∙◌, ⊎_elim, le_of_suc-le-suc, not-suc-le-zero, arith, length-drop, length-take, length-set, ext_get_or, length-take-le, get_or-take, get_or-drop, get_or-set_same, get_or-set_other, drop-drop, get_or-append-add, take_at, drop_at}
use mathlib.Core.List.{List, [], ◌∷◌, ◌++◌}
use Prim.Native.Nat.{ℕ, zero, suc, ◌+◌, ◌-◌, ◌≤◌, ◌<◌}
use Rattle.std.proofs.Math.Decide.{dec_lt}
use Rattle.std.proofs.Math.ListN.{get_or, get_or-append}
use borrow.Rule.Slice.PartMut.{put_mid, mid_len, same_len_mid}
use Rattle.numbers.specs.Words.{tab, written, placed, replaced}
use Rattle.numbers.specs.Write.{length-tab, get_or-tab, length-placed, drop-placed, get_or-placed_before, get_or-placed_behind, drop-written, take-written}

module _ {A : Type 0} where
  -- within its places a list is read the same whatever lies past them
  pub get_or_any : (l : List A) (k : ℕ) (d e : A) → k < length l → get_or l k d ≡ get_or l k e
  get_or_any [] k d e h = absurd (not-suc-le-zero h)
  get_or_any (a ∷ l) zero d e h = refl
  get_or_any (a ∷ l) (suc k) d e h = get_or_any l k d e (le_of_suc-le-suc h)

  pub get_or-placed_in : (g : ℕ → A) (s n : ℕ) (x : List A) (i : ℕ) (d : A) → s + n ≤ length x → i < n → get_or (placed g s n x) (s + i) d ≡ g i
  unfolding written
  get_or-placed_in g s n x i d h k =
      sym (get_or-drop s (placed g s n x) i d)
      ∙ ap (λ (l : List A). get_or l i d) (drop-placed g s n x (omega arith))
      ∙ get_or-append (tab g n) (drop n (drop s x)) d i (omega (arith, length-tab g n))
      ∙ get_or-tab g n i d k

  -- the first places
  pub placed_front : (g : ℕ → A) (n : ℕ) (x : List A) → placed g 0 n x ≡ written g n x
  unfolding placed
  placed_front g n x = refl

  -- a list that has its places so
  pub is_placed : (d : A) (g : ℕ → A) (s n : ℕ) (x l : List A) → s + n ≤ length x → length l ≡ length x
      → ((j : ℕ) → j < s → get_or l j d ≡ get_or x j d) → ((i : ℕ) → i < n → get_or l (s + i) d ≡ g i) → ((j : ℕ) → s + n ≤ j → get_or l j d ≡ get_or x j d)
      → l ≡ placed g s n x
  is_placed d g s n x l h e p q r = ext_get_or d l (placed g s n x) (e ∙ sym (length-placed g s n x h)) (λ j k. go j (dec_lt j s) (dec_lt j (s + n)))
    where
      go : (j : ℕ) → Dec (j < s) → Dec (j < s + n) → get_or l j d ≡ get_or (placed g s n x) j d
      go j (yes a) b = p j a ∙ sym (get_or-placed_before g s n x j d (omega arith) a)
      go j (no a) (yes b) =
          let i = j - s in
          let t : s + i ≡ j = omega arith in
          ap (λ (k : ℕ). get_or l k d) (sym t) ∙ q i (omega arith) ∙ sym (get_or-placed_in g s n x i d h (omega arith)) ∙ ap (λ (k : ℕ). get_or (placed g s n x) k d) t
      go j (no a) (no b) = r j (omega arith) ∙ sym (get_or-placed_behind g s n x j d (omega arith) (omega arith))

  -- a loop that writes the i places in front of e, from the last on: one more
  pub replaced_front : (d : A) (g : ℕ → A) (e i : ℕ) (x : List A) {l : List A} {v : A} → i < e → e ≤ length x → l ≡ replaced g (e - i) i x → v ≡ g (e - 1 - i)
      → set l (e - 1 - i) v ≡ replaced g (e - (i + 1)) (i + 1) x
  replaced_front d g e i x {l} {v} low room q w =
      is_placed d (λ k. g (e - (i + 1) + k)) (e - (i + 1)) (i + 1) x (set l (e - 1 - i) v) (omega arith)
      (length-set l (e - 1 - i) v ∙ long)
      (λ j h. get_or-set_other l (e - 1 - i) j v d (λ u. absurd (omega arith)) ∙ was j ∙ get_or-placed_before G (e - i) i x j d (omega arith) (omega arith))
      (λ k h. go k h (dec_lt 0 k))
      (λ j h. get_or-set_other l (e - 1 - i) j v d (λ u. absurd (omega arith)) ∙ was j ∙ get_or-placed_behind G (e - i) i x j d (omega arith) (omega arith))
    where
      G : ℕ → A
      G k = g (e - i + k)

      long : length l ≡ length x
      long = ap length q ∙ length-placed G (e - i) i x (omega arith)

      was : (j : ℕ) → get_or l j d ≡ get_or (placed G (e - i) i x) j d
      was j = ap (λ (y : List A). get_or y j d) q

      go : (k : ℕ) → k < i + 1 → Dec (0 < k) → get_or (set l (e - 1 - i) v) (e - (i + 1) + k) d ≡ g (e - (i + 1) + k)
      go k h (yes b) =
          let t : e - i + (k - 1) ≡ e - (i + 1) + k = omega arith in
          get_or-set_other l (e - 1 - i) (e - (i + 1) + k) v d (λ u. absurd (omega arith)) ∙ was (e - (i + 1) + k)
          ∙ ap (λ (j : ℕ). get_or (placed G (e - i) i x) j d) (sym t) ∙ get_or-placed_in G (e - i) i x (k - 1) d (omega arith) (omega arith) ∙ ap g t
      go k h (no b) =
          let t : e - (i + 1) + k ≡ e - 1 - i = omega arith in
          ap (λ (j : ℕ). get_or (set l (e - 1 - i) v) j d) t ∙ get_or-set_same l (e - 1 - i) v d (omega (arith, long)) ∙ w ∙ ap g (sym t)

  -- a part is as its places are
  pub part_ext : (d : A) (a n : ℕ) (l x : List A) → length l ≡ length x → ((j : ℕ) → a ≤ j → j < a + n → get_or l j d ≡ get_or x j d) → take n (drop a l) ≡ take n (drop a x)
  part_ext d a n l x e h =
      ext_get_or d (take n (drop a l)) (take n (drop a x)) (simp (length-take, length-drop, e))
      (λ i k. let b : i < n = small i k in get_or-take n (drop a l) i d b ∙ get_or-drop a l i d ∙ h (a + i) (omega arith) (omega arith) ∙ sym (get_or-drop a x i d) ∙ sym (get_or-take n (drop a x) i d b))
    where
      small : (i : ℕ) → i < length (take n (drop a l)) → i < n
      small i k = omega (arith, length-take n (drop a l))

  pub get_or_part : (d : A) (a n : ℕ) (l : List A) (i : ℕ) → i < n → get_or (take n (drop a l)) i d ≡ get_or l (a + i) d
  get_or_part d a n l i h = get_or-take n (drop a l) i d h ∙ get_or-drop a l i d

  -- a part apart from the places that were written is as it was
  pub part_apart : (d : A) (g : ℕ → A) (s n : ℕ) (x : List A) (a k : ℕ) → s + n ≤ length x → (s + n ≤ a) ⊎ (a + k ≤ s) → take k (drop a (placed g s n x)) ≡ take k (drop a x)
  part_apart d g s n x a k h o =
      part_ext d a k (placed g s n x) x (length-placed g s n x h)
      (λ j u v. ⊎_elim (λ w. get_or-placed_behind g s n x j d (omega arith) (omega arith)) (λ w. get_or-placed_before g s n x j d (omega arith) (omega arith)) o)

  -- what lies behind the places written is as it was
  pub drop-behind : (g : ℕ → A) (s n : ℕ) (x : List A) (a : ℕ) → s ≤ length x → s + n ≤ a → drop a (placed g s n x) ≡ drop a x
  drop-behind g s n x a h b =
      let r = a - (s + n) in
      let q : s + (n + r) ≡ a = omega arith in
      let f : (l : List A) → drop a l ≡ drop r (drop n (drop s l)) = λ l. ap (λ (i : ℕ). drop i l) (sym q) ∙ sym (drop-drop (n + r) s l) ∙ sym (drop-drop r n (drop s l)) in
      f (placed g s n x)
      ∙ ap (λ (l : List A). drop r (drop n l)) (drop-placed g s n x h)
      ∙ ap (drop r) (drop-written g n (drop s x))
      ∙ sym (f x)

  -- ---- a lent part, by place: ys in the places a .. e - 1
  module _ (d : A) (a e : ℕ) (x ys : List A) (h : a ≤ e) (k : e ≤ length x) (q : length ys ≡ e - a) where
    pub lent_length : length (put_mid a (e - a) x ys) ≡ length x
    lent_length = same_len_mid a (e - a) x ys (q ∙ sym (mid_len a e x k))

    front : length (take a x) ≡ a
    front = length-take-le a x (omega arith)

    lent_before : (j : ℕ) → j < a → get_or (put_mid a (e - a) x ys) j d ≡ get_or x j d
    lent_before j l = get_or-append (take a x) _ d j (omega (arith, front)) ∙ get_or-take a x j d l

    lent_behind : (j : ℕ) → e ≤ j → get_or (put_mid a (e - a) x ys) j d ≡ get_or x j d
    lent_behind j l =
        let r = j - e in
        let t : length (take a x) + (length ys + r) ≡ j = omega (arith, front, q) in
        let u : a + ((e - a) + r) ≡ j = omega arith in
        ap (λ (n : ℕ). get_or (put_mid a (e - a) x ys) n d) (sym t)
        ∙ get_or-append-add (take a x) (ys ++ drop (e - a) (drop a x)) (length ys + r) d
        ∙ get_or-append-add ys (drop (e - a) (drop a x)) r d
        ∙ get_or-drop (e - a) (drop a x) r d
        ∙ get_or-drop a x ((e - a) + r) d
        ∙ ap (λ (n : ℕ). get_or x n d) u

    -- the same by parts: what lies before, the part itself, and what lies behind
    pub take_lent : (n : ℕ) → n ≤ a → take n (put_mid a (e - a) x ys) ≡ take n x
    take_lent n l = part_ext d 0 n (put_mid a (e - a) x ys) x lent_length (λ j u v. lent_before j (omega arith))

    pub part_lent : take (e - a) (drop a (put_mid a (e - a) x ys)) ≡ ys
    part_lent = ap (take (e - a)) (drop_at (take a x) (ys ++ drop (e - a) (drop a x)) a front) ∙ take_at ys (drop (e - a) (drop a x)) (e - a) q

    pub drop_lent : drop e (put_mid a (e - a) x ys) ≡ drop e x
    drop_lent =
        ext_get_or d (drop e (put_mid a (e - a) x ys)) (drop e x) (length-drop e (put_mid a (e - a) x ys) ∙ ap (λ (n : ℕ). n - e) lent_length ∙ sym (length-drop e x))
        (λ j u. get_or-drop e (put_mid a (e - a) x ys) j d ∙ lent_behind (e + j) (omega arith) ∙ sym (get_or-drop e x j d))

  -- lists with one rest have one beyond it too
  pub drop_further : (a b : ℕ) (x y : List A) → a ≤ b → drop a x ≡ drop a y → drop b x ≡ drop b y
  drop_further a b x y h e =
      let k : a + (b - a) ≡ b = omega arith in
      ap (λ (n : ℕ). drop n x) (sym k) ∙ sym (drop-drop (b - a) a x) ∙ ap (drop (b - a)) e ∙ drop-drop (b - a) a y ∙ ap (λ (n : ℕ). drop n y) k

  -- lists with one front have one place before its end
  pub front_at : (d : A) (n : ℕ) (x y : List A) → take n x ≡ take n y → (j : ℕ) → j < n → get_or x j d ≡ get_or y j d
  front_at d n x y e j h = sym (get_or-take n x j d h) ∙ ap (λ (l : List A). get_or l j d) e ∙ get_or-take n y j d h

  -- tables by two rules that agree
  pub tab_same : (g h : ℕ → A) (n : ℕ) → ((i : ℕ) → i < n → g i ≡ h i) → tab g n ≡ tab h n
  unfolding tab
  tab_same g h zero e = refl
  tab_same g h (suc n) e = ap (λ (l : List A). l ++ (g n ∷ [])) (tab_same g h n (λ i l. e i (omega arith))) ∙ ap (λ (v : A). tab h n ++ (v ∷ [])) (e n (omega arith))

  pub get_or-written_behind : (g : ℕ → A) (n : ℕ) (x : List A) (j : ℕ) (d : A) → n ≤ j → get_or (written g n x) j d ≡ get_or x j d
  get_or-written_behind g n x j d h = ap (λ (l : List A). get_or l j d) (sym (placed_front g n x)) ∙ get_or-placed_behind g 0 n x j d (omega arith) (omega arith)

  pub get_or-written_in : (g : ℕ → A) (n : ℕ) (x : List A) (j : ℕ) (d : A) → j < n → get_or (written g n x) j d ≡ g j
  get_or-written_in g n x j d h = sym (get_or-take n (written g n x) j d h) ∙ ap (λ (l : List A). get_or l j d) (take-written g n x) ∙ get_or-tab g n j d h
