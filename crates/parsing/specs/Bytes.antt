-- Laws of a byte: a number that it ends is the next on the buffer.
use Rattle.std.specs.Prelude.{◌≡◌, refl, Bool, true, false, not, cond, List, [], ◌∷◌, ℕ, ◌+◌, ◌≤◌, length, set, Float}
use Rattle.std.proofs.Common.{sym, ap, ◌∙◌, subst, arith}
use Rattle.std.proofs.lemmas.Bool.{not-true, not-false}
use Rattle.texts.specs.Laid.{set_past}
use Rattle.phases.specs.declared.Phase.{Phase}
use Rattle.phases.specs.declared.Phase.TheVariants.{Number}
use Rattle.phases.specs.Phases.{value_of}
use Rattle.parsing.specs.Steps.{separates, number_by, ended_by, kept_on}

module _ (negative : Bool) (size c : ℕ) (out : List Float) (count : ℕ) where
  abbrev pub Kept : List Float → ℕ → List Float → Type 0
  Kept items r out' = (r ≡ count + length items) × (out' ≡ kept_on items out count)

  pub not_ended : {t : Bool} → t ≡ separates c → not t ≡ true → Kept (number_by negative size c) count out
  not_ended {t} e f = subst (λ (t : Bool). Kept (cond t (value_of negative size ∷ []) []) count out) (sym (not-true t f) ∙ e) (omega arith, refl)

  pub past_end : {t : Bool} → t ≡ separates c → not t ≡ false → length out ≤ count → Kept (number_by negative size c) (count + 1) out
  past_end {t} e f h = subst (λ (t : Bool). Kept (cond t (value_of negative size ∷ []) []) (count + 1) out) (sym (not-false t f) ∙ e) (refl, sym (set_past out count (value_of negative size) h))

  pub stored : {t : Bool} {x : Float} → t ≡ separates c → not t ≡ false → x ≡ value_of negative size → Kept (number_by negative size c) (count + 1) (set out count x)
  stored {t} {x} e f v = subst (λ (t : Bool). Kept (cond t (value_of negative size ∷ []) []) (count + 1) (set out count x)) (sym (not-false t f) ∙ e) (refl, ap (set out count) v)

  -- in the phase of a number
  pub number_kept : {p : Phase} {r : ℕ} {out' : List Float} → p ≡ Number negative size → Kept (number_by negative size c) r out' → Kept (ended_by p c) r out'
  number_kept {r = r} {out'} e k = subst (λ (q : Phase). Kept (ended_by q c) r out') (sym e) k

-- in the other phases nothing has
pub nothing_kept : {p q : Phase} (c : ℕ) (out : List Float) (count : ℕ) → p ≡ q → ended_by q c ≡ [] → (count ≡ count + length (ended_by p c)) × (out ≡ kept_on (ended_by p c) out count)
nothing_kept {p} c out count e n = subst (λ (l : List Float). (count ≡ count + length l) × (out ≡ kept_on l out count)) (sym (ap (λ (k : Phase). ended_by k c) e ∙ n)) (omega arith, refl)
