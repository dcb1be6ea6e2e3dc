-- Laws: a text that no test refuses is answered by `same` and by nothing else, since bands do not part from themselves.
use Rattle.std.specs.Prelude.{◌≡◌, false, List, ℕ, ◌≤◌, ltb, length, Result, Ok, Float}
use Rattle.std.proofs.Common.{ap, ◌∙◌, subst, le-ltb}
use Rattle.std.proofs.lemmas.List.{length-map}
use Rattle.std.specs.Float.{binary64}
use Rattle.std.specs.Float.Ieee.{of_int}
use Rattle.numbers.specs.Words.{when_done, headed}
use Rattle.numbers.specs.Tests.{cond_false, renewed}
use Rattle.whole.specs.Floats.{floats}
use Rattle.texts.specs.Texts.{Request, Stands}
use Rattle.texts.specs.Prints.{refusal_text}
use Rattle.parting.specs.Firsts.{same_parting}
use Rattle.printing.specs.declared.PrintError.{PrintError}
use Rattle.printing.specs.Printings.{number_of, Printed}
use Rattle.answering.specs.Answers.{refusal_of, both_text}
use Rattle.agreeing.specs.Agreements.{same_text, parting_text, agreed_text, agreed_of, Unrefused, TextAgreed}

pub same_said : (a d : List Float) → agreed_text a d ≡ same_text
same_said a d = ap parting_text (same_parting a d)

-- a request's lists are as long as floats
as_floats : (q : Request) → refusal_of (length (floats binary64 q.low)) (length (floats binary64 q.high)) (length (floats binary64 q.samples)) ≡ refusal_of (length q.low) (length q.high) (length q.samples)
as_floats q =
    ap (λ (n : ℕ). refusal_of n (length (floats binary64 q.high)) (length (floats binary64 q.samples))) (length-map q.low (of_int binary64))
    ∙ ap (λ (n : ℕ). refusal_of (length q.low) n (length (floats binary64 q.samples))) (length-map q.high (of_int binary64))
    ∙ ap (refusal_of (length q.low) (length q.high)) (length-map q.samples (of_int binary64))

pub always_same : (q : Request) → Unrefused q → agreed_of q ≡ same_text
always_same q e =
    ap (λ (n : ℕ). when_done n (both_text agreed_text (floats binary64 q.low) (floats binary64 q.high) (length (floats binary64 q.low)) q.border (floats binary64 q.samples))
    (refusal_text (refusal_of (length (floats binary64 q.low)) (length (floats binary64 q.high)) (length (floats binary64 q.samples))))) (as_floats q ∙ e)
    ∙ same_said _ _

-- so the entry says it, wherever its five bytes have room
pub says_same : {text out : List ℕ} {r : Result ℕ PrintError} {out' : List ℕ} → TextAgreed text out r out' → (q : Request) → Stands q text → Unrefused q → 5 ≤ length out → (r ≡ Ok 5) × (out' ≡ headed same_text out)
says_same {out = out} {r} {out'} p q s e h =
    let w : Printed false same_text out r out' = subst (λ (t : List ℕ). Printed false t out r out') (always_same q e) (p.request q s) in
    let d : r ≡ Ok 5 = w.answer ∙ cond_false (ltb (length out) 5) _ _ (le-ltb (length out) 5 h) in
    (d, renewed (headed same_text out) out (ap number_of d) w.held)
