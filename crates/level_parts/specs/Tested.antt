-- Laws of handing out: it is done where every test passed, and then the part is the level's; else it is empty.
use Rattle.std.specs.Prelude.{◌≡◌, refl, Bool, false, cond, List, [], ℕ, ◌+◌, ◌-◌, ◌<◌, ltb, length, take, drop, Result, Ok, Err, ⊤, Float}
use Rattle.std.proofs.Common.{sym, ◌∙◌, arith, ltb-false, lit<}
use Rattle.std.proofs.Math.Path.{ap}
use Rattle.std.specs.Borrow.{Bor}
use Rattle.numbers.specs.Words.{when_done}
use Rattle.numbers.specs.Tests.{passed, refused, kept}
use Rattle.packed.specs.declared.LevelsError.{LevelsError}
use Rattle.packed.specs.declared.PartError.{PartError}
use Rattle.packed.specs.declared.PartError.TheVariants.{NoSuchLevel, Refused}
use Rattle.packed.specs.Lengths.{levels_of, packed_length, level_start, level_count}
use Rattle.packed.specs.Answers.{when_ok, held_of, part_at}
use Rattle.packed.specs.Works.{Named}
use Rattle.packed.specs.Follow.{part_is}
use Rattle.packed.specs.Tested.{not_ok, done_alone, held_done}
use Rattle.level_parts.specs.Parts.{handing_number, handing_of, address_of, HandedOut}

-- it is done where the tests before it are and the level is there, and nowhere else
named_after : (h : Result ⊤ LevelsError) (t : Bool) (level : ℕ) → when_ok {B = Result ⊤ PartError} h (cond t (Err (NoSuchLevel level)) (Ok tt)) (λ e. Err (Refused e)) ≡ Ok tt → (h ≡ Ok tt) × (t ≡ false)
named_after (Ok done) t level e = (refl, (passed handing_number t e (lit< tt) refl).0)
named_after (Err x) t level e = absurd (not_ok e)

pub handing_done : (n f levels p level : ℕ) → handing_of n f levels p level ≡ Ok tt → Named n f levels level × (p ≡ packed_length n f levels)
unfolding handing_of
handing_done n f levels p level e =
    let q = named_after (held_of n f levels p) (ltb (levels_of levels) level) level e in
    let d = held_done n f levels p q.0 in
    (record { split = d.0; named = ltb-false (levels_of levels) level q.1 }, d.1)

-- 0 is the number of done alone
handed_alone : (r : Result ⊤ PartError) → handing_number r ≡ 0 → r ≡ Ok tt
handed_alone (Ok done) e = refl
handed_alone (Err (NoSuchLevel level)) e = absurd (omega arith)
handed_alone (Err (Refused x)) e = absurd (not_ok (done_alone (Err x) e))

-- what is not done has a number above 0
refused_after : (h : Result ⊤ LevelsError) (t : Bool) (level : ℕ)
    → let r : Result ⊤ PartError = when_ok h (cond t (Err (NoSuchLevel level)) (Ok tt)) (λ e. Err (Refused e)) in (r ≡ Ok tt → ⊥) → 0 < handing_number r
refused_after h t level n = refused handing_number handed_alone _ n

module _ {n f levels level : ℕ} {packed part : Bor (List Float)} where
  pub handed_none : (r : Result ⊤ PartError) → r ≡ handing_of n f levels (length packed.now) level → (r ≡ Ok tt → ⊥) → part.now ≡ [] → part.ref_ptr ≡ address_of packed.ref_ptr 0
      → HandedOut n f levels level packed part
  unfolding handing_of
  handed_none r e h none front =
      let k = refused_after (held_of n f levels (length packed.now)) (ltb (levels_of levels) level) level (λ q. h (e ∙ q)) in
      record { handed = none ∙ kept _ k (part_at n f levels packed.now level) []; lies = front ∙ ap (address_of packed.ref_ptr) (kept _ k (level_start n f levels level) 0) }

  pub handed_part : {start count : ℕ} → handing_of n f levels (length packed.now) level ≡ Ok tt → start ≡ level_start n f levels level → count ≡ level_count n f levels level
      → part.now ≡ take (start + count - start) (drop start packed.now) → part.ref_ptr ≡ address_of packed.ref_ptr start → HandedOut n f levels level packed part
  handed_part {start} {count} e p q there place =
      record {
        handed = there ∙ part_is n f levels level start count packed.now p q ∙ sym (ap (λ (r : Result ⊤ PartError). when_done (handing_number r) (part_at n f levels packed.now level) []) e);
        lies = place ∙ ap (address_of packed.ref_ptr) (p ∙ sym (ap (λ (r : Result ⊤ PartError). when_done (handing_number r) (level_start n f levels level) 0) e));
      }
