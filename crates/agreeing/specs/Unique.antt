-- Laws: any two outcomes that the entry's promise admits are equal, as those of any program that says something of a text's bands.
use Rattle.std.specs.Prelude.{◌≡◌, List, ℕ, Result}
use Rattle.printing.specs.declared.PrintError.{PrintError}
use Rattle.answering.specs.Unique.{unique_said}
use Rattle.agreeing.specs.Agreements.{TextAgreed}

pub unique_agreed : {text out : List ℕ} {r r' : Result ℕ PrintError} {o o' : List ℕ} → TextAgreed text out r o → TextAgreed text out r' o' → (r ≡ r') × (o ≡ o')
unique_agreed p q = unique_said p q
