-- Laws: any two outcomes that the entry's promise admits are equal. A text stands for a request or for none, which reading it decides; either way the promise is an equation of the answer and of the buffer.
use Rattle.std.specs.Prelude.{◌≡◌, refl, Bool, true, false, ◌⊎◌, List, ℕ, ltb, length, drop, Result, Float}
use Rattle.std.proofs.Common.{sym, ap, ◌∙◌, true≢false, inl, inr, arith, ltb-true, ltb-false}
use Rattle.texts.specs.Texts.{longest_text, Request, Stands}
use Rattle.parsing.specs.declared.Request as parsed
use Rattle.parsing.specs.declared.ParseError.{ParseError}
use Rattle.parsing.specs.Parses.{TextParsed}
use Rattle.modes.specs.Names.{mode_of}
use Rattle.parsing.specs.Steps.{Three, three_of}
use Rattle.parsing.specs.Decides.{Asked, next_in, is_found, known, asked}

pub decide : (t : List ℕ) → Asked t ⊎ ((q : Request) → Stands q t → ⊥)
decide t = go (ltb longest_text (length t)) (is_found (mode_of t)) (three_of (drop (next_in (mode_of t)) t)).readable refl refl refl
  where
    go : (a b c : Bool) → ltb longest_text (length t) ≡ a → is_found (mode_of t) ≡ b → (three_of (drop (next_in (mode_of t)) t)).readable ≡ c → Asked t ⊎ ((q : Request) → Stands q t → ⊥)
    go true b c e f g = inr (λ q s. absurd (omega (arith, ltb-true longest_text (length t) e, s.size)))
    go false false c e f g = inr (λ q s. true≢false (sym (ap is_found (known q t s).mode) ∙ f))
    go false true false e f g =
        inr (λ q s. let k = known q t s in
        true≢false (sym (ap (λ (l : Three). l.readable) k.lists) ∙ ap (λ (n : ℕ). (three_of (drop n t)).readable) (sym (ap next_in k.mode)) ∙ g))
    go false true true e f g = inl (asked t (ltb-false longest_text (length t) e) (λ u. true≢false (sym f ∙ ap is_found u)) g)

pub unique_parsed : {text : List ℕ} {numbers : List Float} {r r' : Result parsed.Request ParseError} {n n' : List Float} → TextParsed text numbers r n → TextParsed text numbers r' n' → (r ≡ r') × (n ≡ n')
unique_parsed {text} {r = r} {r'} {n} {n'} p q = go (decide text)
  where
    go : Asked text ⊎ ((k : Request) → Stands k text → ⊥) → (r ≡ r') × (n ≡ n')
    go (inl a) =
        let e = p.answer a.request a.stands ∙ sym (q.answer a.request a.stands) in
        let h = p.held a.request a.stands in
        let h' = q.held a.request a.stands in
        (e, (cc))
    go (inr f) = (p.unreadable f ∙ sym (q.unreadable f), p.kept f ∙ sym (q.kept f))
