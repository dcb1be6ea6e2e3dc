-- `analysis::analysis_answer` meets its contract: the tests are the definition's, in its order.
use Rattle.analysis.specs.Analyses.{answer_of}
use borrow.Author.Tests.{eq-eqb, le-ltb, lt-ltb, ne_eqb}
use mathlib.Core.Path.{◌≡◌, ◌∙◌, sym}
use native.Mathlib.Omega.{arith}
use mathlib.Core.Bool.{false}
use lib.Dec.{ltb}
use Rattle.numbers.specs.Words.{longest}
use Rattle.bank.specs.Lengths.{bad_taps}
use Rattle.bank.specs.Tested.{good_taps, sound_pairs}
use Rattle.analysis.proofs.analysis_answer.Goals as goal
use Rattle.analysis.proofs.analysis_answer.Goals.{After-dwt_length-m}

pub returns-then-bad_taps : goal.returns-then-bad_taps
unfolding answer_of
returns-then-bad_taps c = simp (sym c.bad_taps.ensures ∙ c.if-bad_taps.true)

pub returns-then-n-gt-LONGEST : goal.returns-then-n-gt-LONGEST
unfolding answer_of
returns-then-n-gt-LONGEST c = simp (sym c.bad_taps.ensures ∙ c.if-bad_taps.false, lt-ltb _ _ c.if-n-gt-LONGEST.true)

pub returns-then-n-f : goal.returns-then-n-f
unfolding answer_of
returns-then-n-f c = simp (sym c.bad_taps.ensures ∙ c.if-bad_taps.false, le-ltb _ _ c.if-n-gt-LONGEST.false, lt-ltb _ _ c.if-n-f.true)

pub dwt_length-m-requires : goal.dwt_length-m-requires
dwt_length-m-requires c = record { taps = good_taps _ (sym c.bad_taps.ensures ∙ c.if-bad_taps.false); limit = omega (arith, c.if-n-gt-LONGEST.false) }

-- the first three tests passed
tested : (c : After-dwt_length-m) → let a = c.args in (bad_taps a.f ≡ false) × (ltb longest a.n ≡ false) × (ltb a.n a.f ≡ false)
tested c =
    (sym c.bad_taps.ensures ∙ c.if-bad_taps.false, le-ltb _ _ c.if-n-gt-LONGEST.false, le-ltb _ _ c.if-n-f.false)

pub returns-then-approx-m : goal.returns-then-approx-m
unfolding answer_of
returns-then-approx-m c = let t = tested (goal.at.returns-then-approx-m c).After-dwt_length-m in simp (t.0, t.1, t.2, sym c.dwt_length-m.ensures, ne_eqb _ _ c.if-approx-m.true)

pub returns-then-detail-m : goal.returns-then-detail-m
unfolding answer_of
returns-then-detail-m c = let t = tested (goal.at.returns-then-detail-m c).After-dwt_length-m in simp (t.0, t.1, t.2, sym c.dwt_length-m.ensures, eq-eqb _ _ c.if-approx-m.false, ne_eqb _ _ c.if-detail-m.true)

pub padded_length-need-requires : goal.padded_length-need-requires
padded_length-need-requires c = sound_pairs (record { taps = good_taps _ (tested (goal.at.padded_length-need-requires c).After-dwt_length-m).0; limit = omega (arith, c.if-n-gt-LONGEST.false) }) c.dwt_length-m.ensures

pub returns-then-scratch-need : goal.returns-then-scratch-need
unfolding answer_of
returns-then-scratch-need c = let t = tested (goal.at.returns-then-scratch-need c).After-dwt_length-m in
    simp (t.0, t.1, t.2, sym c.dwt_length-m.ensures, eq-eqb _ _ c.if-approx-m.false, eq-eqb _ _ c.if-detail-m.false, sym c.padded_length-need.ensures, lt-ltb _ _ c.if-scratch-need.true)

pub returns : goal.returns
unfolding answer_of
returns c = let t = tested (goal.at.returns c).After-dwt_length-m in
    simp (t.0, t.1, t.2, sym c.dwt_length-m.ensures, eq-eqb _ _ c.if-approx-m.false, eq-eqb _ _ c.if-detail-m.false, sym c.padded_length-need.ensures, le-ltb _ _ c.if-scratch-need.false)
