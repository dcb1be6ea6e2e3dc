-- Laws: any two outcomes that an entry's promise admits are equal, whatever it says of two bands, since reading decides what a text stands for, and either way they are those of one text printed.
use Rattle.std.specs.Prelude.{◌≡◌, ◌⊎◌, List, ℕ, Result, Float}
use Rattle.std.proofs.Common.{inl, inr}
use Rattle.texts.specs.Texts.{Request, Stands}
use Rattle.parsing.specs.Decides.{Asked}
use Rattle.parsing.specs.Unique.{decide}
use Rattle.printing.specs.declared.PrintError.{PrintError}
use Rattle.printing.specs.Unique.{unique_printed}
use Rattle.answering.specs.Answers.{TextSaid, TextAnswered}

pub unique_said : {say : List Float → List Float → List ℕ} {text out : List ℕ} {r r' : Result ℕ PrintError} {o o' : List ℕ} → TextSaid say text out r o → TextSaid say text out r' o' → (r ≡ r') × (o ≡ o')
unique_said {text = text} {r = r} {r'} {o} {o'} p q = go (decide text)
  where
    go : Asked text ⊎ ((k : Request) → Stands k text → ⊥) → (r ≡ r') × (o ≡ o')
    go (inl a) = unique_printed (p.request a.request a.stands) (q.request a.request a.stands)
    go (inr f) = unique_printed (p.unreadable f) (q.unreadable f)

pub unique_answered : {text out : List ℕ} {r r' : Result ℕ PrintError} {o o' : List ℕ} → TextAnswered text out r o → TextAnswered text out r' o' → (r ≡ r') × (o ≡ o')
unique_answered p q = unique_said p q
