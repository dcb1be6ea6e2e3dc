-- The number by which a comparison is told to C. Definitions only.
use Rattle.std.specs.Prelude.{ℕ, Result, Ok, Err}
use Rattle.comparing.specs.declared.Compared.{Compared}
use Rattle.comparing.specs.declared.Compared.TheVariants.{Equal, Differs}
use Rattle.comparing.specs.declared.ComparingError.{ComparingError}
use Rattle.comparing.specs.Comparings.{number_of}

-- 27 where the bands differ, since C sees no case beside the number; else the answer's own (RULES, Numbers)
abbrev pub number_told : Result Compared ComparingError → ℕ
number_told (Ok Equal) = number_of (Ok Equal)
number_told (Ok (Differs column row)) = 27
number_told (Err refusal) = number_of {A = Compared} (Err refusal)
