-- Laws of laying in turns: a text is laid place by place as far as the buffer reaches, or one text behind another, on the part that is then lent.
use Rattle.std.specs.Prelude.{◌≡◌, length, get_or, take, drop, set}
use Rattle.std.proofs.Math.Path.{refl, ap}
use Rattle.std.proofs.Common.{sym, ◌∙◌, add-one, arith, length-append, take-suc, length-take-le}
use mathlib.Core.List.{List, [], ◌∷◌, ◌++◌}
use Prim.Native.Nat.{ℕ, zero, suc, ◌+◌, ◌-◌, ◌≤◌, ◌<◌, min}
use borrow.Rule.Slice.PartMut.{put_mid}
use Rattle.texts.specs.Laying.{laid}
use Rattle.texts.specs.Laid.{laid_more, laid_lent, laid_whole, length-laid}
use Rattle.laying.specs.Lays.{Lays}

module _ {A : Type 0} where
  -- what the buffer does not reach need not be laid
  pub laid_cut : (k : ℕ) (l x : List A) → (k < length l → length x ≤ k) → laid (take k l) x ≡ laid l x
  unfolding laid
  laid_cut zero [] x h = refl
  laid_cut zero (v ∷ l) [] h = refl
  laid_cut zero (v ∷ l) (y ∷ x) h = absurd (omega (arith, h (omega arith)))
  laid_cut (suc k) [] x h = refl
  laid_cut (suc k) (v ∷ l) [] h = refl
  laid_cut (suc k) (v ∷ l) (y ∷ x) h = ap {B = List A} (λ r. v ∷ r) (laid_cut k l x (λ g. let d = h (omega (arith, g)) in omega (arith, d)))

  -- one place more
  pub laid_turn : (l x : List A) (i : ℕ) (d : A) {y : List A} → i < length l → y ≡ laid (take i l) x → set y i (get_or l i d) ≡ laid (take (i + 1) l) x
  laid_turn l x i d h e =
      let v = get_or l i d in
      ap (λ (y : List A). set y i v) e
      ∙ ap (λ (k : ℕ). set (laid (take i l) x) k v) (sym (length-take-le i l (omega arith)))
      ∙ sym (laid_more (take i l) v x)
      ∙ ap (λ (m : List A). laid m x) (sym (take-suc l i d h))
      ∙ ap (λ (k : ℕ). laid (take k l) x) (sym (add-one i))

  -- as far as either reaches, all at once
  pub laid_front : (l x : List A) (n : ℕ) {y : List A} → n ≡ min (length l) (length x) → y ≡ take n l → y ++ drop n x ≡ laid l x
  laid_front l x n {y} e f =
      let many = length-take-le n l (omega (arith, e)) in
      ap (λ (y : List A). y ++ drop n x) f
      ∙ ap (λ (k : ℕ). take n l ++ drop k x) (sym many)
      ∙ sym (laid_whole (take n l) x (omega (arith, e, many)))
      ∙ laid_cut n l x (λ h. omega (arith, e, h))

pub length_lays : {l x y : List ℕ} {r : ℕ} → Lays l x r y → length y ≡ length x
length_lays {l} {x} p = ap length p.laying ∙ length-laid l x

-- a second text behind the first
pub behind : {l m x y z : List ℕ} {n r k : ℕ} → Lays l x n y → k ≡ min n (length y) → Lays m (take (length y - k) (drop k y)) r z
    → Lays (l ++ m) x (n + r) (put_mid k (length y - k) y z)
behind {l} {m} {x} {k = k} p e q =
    record {
      size = omega (arith, length-append l m, p.size, q.size);
      laying = laid_lent l m x k p.laying (omega (arith, e, p.size, length_lays p)) q.laying;
    }

-- the same by another name of the text
pub lays_as : {l m x y : List ℕ} {r : ℕ} → l ≡ m → Lays m x r y → Lays l x r y
lays_as {l} {m} {x} {y} {r} e p = record { size = p.size ∙ ap length (sym e); laying = p.laying ∙ ap (λ (t : List ℕ). laid t x) (sym e) }
