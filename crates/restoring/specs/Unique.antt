-- Laws of what the entries promise: any two outcomes that a promise admits are equal, since each is an equation of the answer and of both buffers, or of the part handed out and where it lies.
use Rattle.std.specs.Prelude.{◌≡◌, List, ℕ, Result, ⊤, Float}
use Rattle.std.proofs.Common.{sym, ◌∙◌}
use Rattle.std.specs.Borrow.{MutBor}
use Rattle.packed.specs.declared.LevelsError.{LevelsError}
use Rattle.restoring.specs.declared.divided.DividedError.{DividedError}
use Rattle.restoring.specs.Restorings.{answer_of, Restored, HandedOut}
use Rattle.restoring.specs.Dividings as Dividings
use Rattle.restoring.specs.Dividings.{DividedBack, DividedOut}

pub unique_restore_levels : {low high : List Float} {f : ℕ} {packed : List Float} {n levels : ℕ} {first second : List Float} {r r' : Result ⊤ LevelsError} {a b a' b' : List Float}
    → Restored low high f packed n levels first second r a b → Restored low high f packed n levels first second r' a' b' → (r ≡ r') × (a ≡ a') × (b ≡ b')
unique_restore_levels p q = let e = p.answer ∙ sym q.answer in (e, (cc), (cc))

pub unique_restored_line : {low high : List Float} {f : ℕ} {packed : List Float} {n levels : ℕ} {first second part part' : MutBor (List Float)}
    → HandedOut low high f packed n levels first second part → HandedOut low high f packed n levels first second part' → (part.now ≡ part'.now) × (part.ref_ptr ≡ part'.ref_ptr)
unique_restored_line p q = (p.handed ∙ sym q.handed, p.lies ∙ sym q.lies)

pub unique_restoring_answer : (n f levels p a b : ℕ) {r r' : Result ⊤ LevelsError} → r ≡ answer_of n f levels p a b → r' ≡ answer_of n f levels p a b → r ≡ r'
unique_restoring_answer n f levels p a b e q = e ∙ sym q

-- ---- with a divisor
pub unique_restore_divided : {low high : List Float} {f : ℕ} {s : Float} {packed : List Float} {n levels : ℕ} {first second : List Float} {r r' : Result ⊤ DividedError} {a b a' b' : List Float}
    → DividedBack low high f s packed n levels first second r a b → DividedBack low high f s packed n levels first second r' a' b' → (r ≡ r') × (a ≡ a') × (b ≡ b')
unique_restore_divided p q = let e = p.answer ∙ sym q.answer in (e, (cc), (cc))

pub unique_divided_line : {low high : List Float} {f : ℕ} {s : Float} {packed : List Float} {n levels : ℕ} {first second part part' : MutBor (List Float)}
    → DividedOut low high f s packed n levels first second part → DividedOut low high f s packed n levels first second part' → (part.now ≡ part'.now) × (part.ref_ptr ≡ part'.ref_ptr)
unique_divided_line p q = (p.handed ∙ sym q.handed, p.lies ∙ sym q.lies)

pub unique_divided_answer : (n f : ℕ) (s : Float) (levels p a b : ℕ) {r r' : Result ⊤ DividedError} → r ≡ Dividings.answer_of n f s levels p a b → r' ≡ Dividings.answer_of n f s levels p a b → r ≡ r'
unique_divided_answer n f s levels p a b e q = e ∙ sym q
