-- Laws of the room that an answer needs: 64 bytes hold a refusal and `same`, so with them the whole text is answered.
use Rattle.std.specs.Prelude.{◌≡◌, List, ℕ, ◌≤◌, length, Result, Ok}
use Rattle.std.proofs.Common.{ap, arith}
use Rattle.printing.specs.declared.PrintError.{PrintError}
use Rattle.answering.specs.Answers.{size_in}
use Rattle.answering.specs.Room.{Fits, said_whole, said_part}
use Rattle.agreeing.specs.Agreements.{room, agreed_text, TextAgreed}
use Rattle.agreeing.specs.Same.{same_said}

agreed_fit : Fits agreed_text room
agreed_fit = record {
  refusals = omega arith;
  bands = λ a d h k. omega (arith, ap length (same_said a d));
}

pub agreed_whole : {text out : List ℕ} {r : Result ℕ PrintError} {out' : List ℕ} → TextAgreed text out r out' → room ≤ length out → (k : ℕ) × (r ≡ Ok k) × (k ≤ length out)
agreed_whole p large = said_whole agreed_fit p large

pub agreed_part : {text out : List ℕ} {r : Result ℕ PrintError} {out' : List ℕ} → TextAgreed text out r out' → room ≤ length out → size_in r ≤ length out
agreed_part p large = said_part agreed_fit p large
