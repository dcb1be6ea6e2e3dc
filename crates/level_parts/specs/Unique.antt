-- Laws of what the entries promise: any two outcomes that a promise admits are equal, since each is an equation of the answer, or of the part handed out and where it lies.
use Rattle.std.specs.Prelude.{◌≡◌, List, ℕ, Result, ⊤, Float}
use Rattle.std.proofs.Common.{sym, ◌∙◌}
use Rattle.std.specs.Borrow.{Bor}
use Rattle.packed.specs.declared.PartError.{PartError}
use Rattle.level_parts.specs.declared.Reading.{Reading}
use Rattle.level_parts.specs.Parts.{handing_of, HandedOut, Read}

pub unique_level_details : {n f levels level : ℕ} {packed part part' : Bor (List Float)} → HandedOut n f levels level packed part → HandedOut n f levels level packed part'
    → (part.now ≡ part'.now) × (part.ref_ptr ≡ part'.ref_ptr)
unique_level_details p q = (p.handed ∙ sym q.handed, p.lies ∙ sym q.lies)

pub unique_handing_answer : (n f levels p level : ℕ) {r r' : Result ⊤ PartError} → r ≡ handing_of n f levels p level → r' ≡ handing_of n f levels p level → r ≡ r'
unique_handing_answer n f levels p level e q = e ∙ sym q

pub unique_read_place : {n f levels level place : ℕ} {packed : List Float} {r r' : Reading} → Read n f levels level place packed r → Read n f levels level place packed r' → r ≡ r'
unique_read_place p q = p.answer ∙ sym q.answer
