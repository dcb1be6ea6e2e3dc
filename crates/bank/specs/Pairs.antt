-- Laws of two tap lists, and of four: those that have taps are of one length and make a bank, so that their count may be told beside them; and the mirror rule's high taps are the front of the array that holds them.
use Rattle.std.specs.Prelude.{◌≡◌, refl, Bool, true, false, cond, not, ◌||◌, List, ℕ, ◌≤◌, eqb, length, take, Float}
use Rattle.std.proofs.Common.{sym, ap, ◌∙◌, arith, eqb-true, lit<}
use Rattle.std.proofs.lemmas.Bool.{not-false}
use Rattle.std.proofs.lemmas.List.{length-replicate}
use Rattle.std.specs.Float.{nan}
use Rattle.numbers.specs.Words.{plus_zero, at, tab, written, placed, when_done}
use Rattle.numbers.specs.Write.{length-tab, length-written, get_or-tab, take-written, written_all}
use Rattle.numbers.specs.Places.{placed_front, tab_same}
use Rattle.numbers.specs.Tests.{neither, passed}
use Rattle.bank.specs.declared.making.Making.TheVariants.{Taps, Done}
use Rattle.bank.specs.Lengths.{bad_taps, GoodTaps, Counted}
use Rattle.bank.specs.Banks.{number_of, answer_of, answer_of_four, taps_of, zeros, mirror, Mirrored}
use Rattle.bank.specs.Tested.{good_taps}

-- lists that have taps are of one length, which is how many they have, and make a bank
pub record Paired (low high : ℕ) : Type 0 where
  pub count : taps_of low high ≡ low
  pub both : high ≡ low
  pub good : GoodTaps low
  pub answer : Done ≡ answer_of low high

module _ (low high : ℕ) where
  abbrev unfit : Bool
  unfit = bad_taps low || not (eqb high low)

  counted : {t : Bool} → unfit ≡ t → taps_of low high ≡ when_done (number_of (cond t Taps Done)) low 0
  counted e = ap (λ (t : Bool). when_done (number_of (cond t Taps Done)) low 0) e

  pub paired : (taps_of low high ≡ 0 → ⊥) → Paired low high
  paired n = go unfit refl
    where
      go : (t : Bool) → unfit ≡ t → Paired low high
      go true e = absurd (n (counted e))
      go false e =
          let p = neither (bad_taps low) (not (eqb high low)) e in
          record { count = counted e; both = eqb-true high low (not-false _ p.1); good = good_taps low p.0; answer = sym (ap (λ (t : Bool). cond t Taps Done) e) }

  pub unpaired : taps_of low high ≡ 0 → Taps ≡ answer_of low high
  unpaired z = go unfit refl
    where
      go : (t : Bool) → unfit ≡ t → Taps ≡ answer_of low high
      go true e = sym (ap (λ (t : Bool). cond t Taps Done) e)
      go false e =
          let two = (good_taps low (neither (bad_taps low) (not (eqb high low)) e).0).two in
          let q = sym (counted e) ∙ z in
          absurd (omega arith)

-- what is told of two lists is a count of them
pub counted_lists : {f : ℕ} (low high : ℕ) → f ≡ taps_of low high → Counted f low high
counted_lists low high taps g =
    let p = paired low high (λ z. absurd (omega (arith, taps, g.two))) in
    let e = taps ∙ p.count in
    record { lows = omega (arith, e); highs = omega (arith, e, p.both) }

-- four lists that make a bank are of one length
pub record Alike (low high lowback highback : ℕ) : Type 0 where
  pub good : GoodTaps low
  pub highs : high ≡ low
  pub lowbacks : lowback ≡ low
  pub highbacks : highback ≡ low

pub alike : (low high lowback highback : ℕ) → answer_of_four low high lowback highback ≡ Done → Alike low high lowback highback
alike low high lowback highback e =
    let p = neither (bad_taps low || not (eqb high low) || not (eqb lowback low)) (not (eqb highback low)) (passed number_of (bad_taps low || not (eqb high low) || not (eqb lowback low) || not (eqb highback low)) e (lit< tt) refl).0 in
    let q = neither (bad_taps low || not (eqb high low)) (not (eqb lowback low)) p.0 in
    let s = neither (bad_taps low) (not (eqb high low)) q.0 in
    record { good = good_taps low s.0; highs = eqb-true high low (not-false _ s.1); lowbacks = eqb-true lowback low (not-false _ q.1); highbacks = eqb-true highback low (not-false _ p.1) }

-- ---- the mirror rule
module _ (low high : List Float) {f : ℕ} (taps : f ≡ taps_of (length low) (length high)) where
  pub mirror_refused : f ≡ 0 → Mirrored low high Taps high
  mirror_refused z = record { answer = unpaired _ _ (sym taps ∙ z); mirrored = refl }

  pub mirror_lists : (f ≡ 0 → ⊥) → Paired (length low) (length high)
  mirror_lists n = paired _ _ (λ z. n (taps ∙ z))

  pub mirror_done : {array high' : List Float} → (f ≡ 0 → ⊥) → array ≡ written (mirror low) (length low) zeros
      → high' ≡ placed (at (take f array)) 0 (length (take f array)) high → Mirrored low high Done high'
  mirror_done {array} n e h =
      let p = mirror_lists n in
      let F = length low in
      let g = mirror low in
      let front : take f array ≡ tab g F = ap (λ (k : ℕ). take k array) (taps ∙ p.count) ∙ ap (take F) e ∙ take-written g F zeros in
      record {
        answer = p.answer;
        mirrored =
            h ∙ ap (λ (l : List Float). placed (at l) 0 (length l) high) front
            ∙ ap (λ (k : ℕ). placed (at (tab g F)) 0 k high) (length-tab g F)
            ∙ placed_front (at (tab g F)) F high ∙ ap (λ (k : ℕ). written (at (tab g F)) k high) (sym p.both)
            ∙ written_all (at (tab g F)) high
            ∙ ap (tab (at (tab g F))) p.both
            ∙ tab_same (at (tab g F)) g F (λ i l. get_or-tab g F i nan l);
      }

  -- the same where the taps are written over the list itself
  pub mirror_over : {high' : List Float} → (f ≡ 0 → ⊥) → high' ≡ written (mirror low) (length low) high → Mirrored low high Done high'
  mirror_over n h =
      let p = mirror_lists n in
      record { answer = p.answer; mirrored = h ∙ ap (λ (k : ℕ). written (mirror low) k high) (sym p.both) ∙ written_all (mirror low) high ∙ ap (tab (mirror low)) p.both }

  -- the array has room for every tap
  pub mirror_room : {array : List Float} → (f ≡ 0 → ⊥) → array ≡ written (mirror low) (length low) zeros → f ≤ length array
  mirror_room {array} n e =
      let p = mirror_lists n in
      let most = p.good.most in
      let all : length zeros ≡ 64 = length-replicate 64 plus_zero in
      let l = length-written (mirror low) (length low) zeros (omega arith) in
      let q : length array ≡ length (written (mirror low) (length low) zeros) = ap length e in
      let c = taps ∙ p.count in
      omega arith
