-- `synthesis::synthesis_answer` meets its contract: the tests are the definition's, in its order.
use borrow.Author.Tests.{eq-eqb, le-leb, le-ltb, lt-leb, lt-ltb, ne_eqb}
use mathlib.Core.Path.{◌≡◌, ◌∙◌, sym}
use mathlib.Core.Bool.{true, false}
use Prim.Native.Nat.{◌+◌, ◌*◌}
use lib.Dec.{eqb, leb, ltb}
use Rattle.numbers.specs.Words.{longest}
use Rattle.bank.specs.Lengths.{bad_taps}
use native.Mathlib.Omega.{arith}
use Rattle.bank.specs.Tested.{good_taps}
use Rattle.synthesis.specs.Syntheses.{answer_of}
use Rattle.synthesis.proofs.synthesis_answer.Goals as goal
use Rattle.synthesis.proofs.synthesis_answer.Goals.{Else-approx-f}

pub returns-then-bad_taps : goal.returns-then-bad_taps
unfolding answer_of
returns-then-bad_taps c = simp (sym c.bad_taps.ensures ∙ c.if-bad_taps.true)

pub returns-then-approx-gt-LONGEST : goal.returns-then-approx-gt-LONGEST
unfolding answer_of
returns-then-approx-gt-LONGEST c = simp (sym c.bad_taps.ensures ∙ c.if-bad_taps.false, lt-ltb _ _ c.if-approx-gt-LONGEST.true)

pub returns-then-detail-gt-LONGEST : goal.returns-then-detail-gt-LONGEST
unfolding answer_of
returns-then-detail-gt-LONGEST c = simp (sym c.bad_taps.ensures ∙ c.if-bad_taps.false, le-ltb _ _ c.if-approx-gt-LONGEST.false, lt-ltb _ _ c.if-detail-gt-LONGEST.true)

pub returns-then-approx-detail : goal.returns-then-approx-detail
unfolding answer_of
returns-then-approx-detail c = simp (sym c.bad_taps.ensures ∙ c.if-bad_taps.false, le-ltb _ _ c.if-approx-gt-LONGEST.false, le-ltb _ _ c.if-detail-gt-LONGEST.false, ne_eqb _ _ c.if-approx-detail.true)

pub returns-then-approx-f : goal.returns-then-approx-f
unfolding answer_of
returns-then-approx-f c = simp (sym c.bad_taps.ensures ∙ c.if-bad_taps.false, le-ltb _ _ c.if-approx-gt-LONGEST.false, le-ltb _ _ c.if-detail-gt-LONGEST.false, eq-eqb _ _ c.if-approx-detail.false, le-leb _ _ c.if-approx-f.true)

pub idwt_length-need-requires : goal.idwt_length-need-requires
idwt_length-need-requires c = (record { taps = good_taps _ (sym c.bad_taps.ensures ∙ c.if-bad_taps.false); limit = c.if-approx-gt-LONGEST.false }, omega (arith, c.if-approx-f.false))

-- every test but the last passed
tested : (c : Else-approx-f) → let a = c.args in
    (bad_taps a.f ≡ false) × (ltb longest a.approx ≡ false) × (ltb longest a.detail ≡ false) × (eqb a.approx a.detail ≡ true) × (leb (2 * a.approx + 2) a.f ≡ false)
tested c =
    (sym c.bad_taps.ensures ∙ c.if-bad_taps.false, le-ltb _ _ c.if-approx-gt-LONGEST.false, le-ltb _ _ c.if-detail-gt-LONGEST.false, eq-eqb _ _ c.if-approx-detail.false, lt-leb _ _ c.if-approx-f.false)

pub returns-then-out-need : goal.returns-then-out-need
unfolding answer_of
returns-then-out-need c = let t = tested (goal.at.returns-then-out-need c).Else-approx-f in simp (t.0, t.1, t.2, t.3, t.4, sym c.idwt_length-need.ensures, ne_eqb _ _ c.if-out-need.true)

pub returns : goal.returns
unfolding answer_of
returns c = let t = tested (goal.at.returns c).Else-approx-f in simp (t.0, t.1, t.2, t.3, t.4, sym c.idwt_length-need.ensures, eq-eqb _ _ c.if-out-need.false)
