-- Laws of a list laid onto a buffer: it grows by one place at a time, or by a list laid onto the part behind it; where there is room the whole list is in front.
use Rattle.std.specs.Prelude.{◌≡◌, length, take, drop, set}
use Rattle.std.proofs.Math.Path.{refl, ap}
use Rattle.std.proofs.Common.{◌∙◌, arith, length-drop, drop_of_length-le}
use mathlib.Core.List.{List, [], ◌∷◌, ◌++◌, append-nil}
use Prim.Native.Nat.{ℕ, zero, suc, ◌-◌, ◌≤◌, ◌<◌, min}
use borrow.Rule.Slice.PartMut.{put_mid}
use Rattle.numbers.specs.Words.{headed}
use Rattle.texts.specs.Laying.{laid}

module _ {A : Type 0} where
  pub length-laid : (l x : List A) → length (laid l x) ≡ length x
  unfolding laid
  length-laid [] x = refl
  length-laid (v ∷ l) [] = refl
  length-laid (v ∷ l) (y ∷ x) = ap suc (length-laid l x)

  -- one place more; past the end nothing is set
  pub laid_more : (l : List A) (v : A) (x : List A) → laid (l ++ (v ∷ [])) x ≡ set (laid l x) (length l) v
  unfolding laid
  laid_more [] v [] = refl
  laid_more [] v (y ∷ x) = refl
  laid_more (w ∷ l) v [] = refl
  laid_more (w ∷ l) v (y ∷ x) = ap {B = List A} (λ r. w ∷ r) (laid_more l v x)

  -- past the end nothing is set
  pub set_past : (x : List A) (i : ℕ) (v : A) → length x ≤ i → set x i v ≡ x
  set_past [] i v h = refl
  set_past (y ∷ x) zero v h = absurd (omega (arith, h))
  set_past (y ∷ x) (suc i) v h = ap {B = List A} (λ r. y ∷ r) (set_past x i v (omega (arith, h)))

  pub laid_none : (l : List A) → laid l [] ≡ []
  unfolding laid
  laid_none [] = refl
  laid_none (v ∷ l) = refl

  -- what was laid onto an empty part, in front of a buffer, is nothing
  pub laid_nowhere : (l x : List A) {part : List A} → part ≡ laid l [] → part ++ x ≡ x
  laid_nowhere l x e = ap (λ (k : List A). k ++ x) (e ∙ laid_none l)

  -- a list laid onto the part behind another, k places from the front: as far as either reaches
  pub laid_behind : (l m x : List A) (k : ℕ) → k ≤ length l → k ≤ length x → (k < length l → length x ≤ k) → take k (laid l x) ++ laid m (drop k (laid l x)) ≡ laid (l ++ m) x
  unfolding laid
  laid_behind [] m x zero a b c = refl
  laid_behind [] m x (suc k) a b c = absurd (omega (arith, a))
  laid_behind (v ∷ l) m [] zero a b c = laid_none m
  laid_behind (v ∷ l) m (y ∷ x) zero a b c = absurd (omega (arith, c (omega arith)))
  laid_behind (v ∷ l) m [] (suc k) a b c = absurd (omega (arith, b))
  laid_behind (v ∷ l) m (y ∷ x) (suc k) a b c =
      ap {B = List A} (λ r. v ∷ r) (laid_behind l m x k (omega (arith, a)) (omega (arith, b)) (λ h. let d = c (omega (arith, h)) in omega (arith, d)))

  pub laid_whole : (l x : List A) → length l ≤ length x → laid l x ≡ headed l x
  unfolding laid
  laid_whole [] x h = refl
  laid_whole (v ∷ l) [] h = absurd (omega (arith, h))
  laid_whole (v ∷ l) (y ∷ x) h = ap {B = List A} (λ r. v ∷ r) (laid_whole l x (omega (arith, h)))

  -- the part from k on is lent, a list laid onto it, and given back
  pub laid_lent : (l m old : List A) (k : ℕ) {x ys : List A} → x ≡ laid l old → k ≡ min (length l) (length old) → ys ≡ laid m (take (length x - k) (drop k x)) → put_mid k (length x - k) x ys ≡ laid (l ++ m) old
  laid_lent l m old k {x} {ys} e f g =
      let same : length x ≡ length old = ap length e ∙ length-laid l old in
      let all : take (length x - k) (drop k x) ≡ drop k x = take_all (drop k x) (length x - k) (length-drop k x) in
      let rest : drop (length x - k) (drop k x) ≡ [] = drop_of_length-le (drop k x) {i = length x - k} (omega (arith, length-drop k x)) in
      ap (λ (r : List A). take k x ++ (ys ++ r)) rest
      ∙ ap (λ (r : List A). take k x ++ r) (append-nil ys ∙ g ∙ ap (laid m) all)
      ∙ ap (λ (y : List A). take k y ++ laid m (drop k y)) e
      ∙ laid_behind l m old k (omega (arith, f)) (omega (arith, f)) (λ h. omega (arith, f, h))
    where
      take_all : (y : List A) (n : ℕ) → length y ≡ n → take n y ≡ y
      take_all [] zero h = refl
      take_all [] (suc n) h = refl
      take_all (v ∷ y) zero h = absurd (omega (arith, h))
      take_all (v ∷ y) (suc n) h = ap {B = List A} (λ r. v ∷ r) (take_all y n (omega (arith, h)))
