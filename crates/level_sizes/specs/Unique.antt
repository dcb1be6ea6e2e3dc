-- Laws of what the entries promise: any two outcomes that a promise admits are equal, since each is an equation of the answer.
use Rattle.std.specs.Prelude.{◌≡◌, ℕ, Result}
use Rattle.std.proofs.Common.{sym, ◌∙◌}
use Rattle.packed.specs.declared.LevelsError.{LevelsError}
use Rattle.packed.specs.declared.PartError.{PartError}
use Rattle.packed.specs.declared.depth.Part.{Part}
use Rattle.level_sizes.specs.Sizes.{PackedSized, ScratchSized, RestoringSized, MostSized, PartSized}

pub unique_packed_length : {n f levels : ℕ} {r r' : Result ℕ LevelsError} → PackedSized n f levels r → PackedSized n f levels r' → r ≡ r'
unique_packed_length p q = p.answer ∙ sym q.answer

pub unique_levels_scratch : {n f levels : ℕ} {r r' : Result ℕ LevelsError} → ScratchSized n f levels r → ScratchSized n f levels r' → r ≡ r'
unique_levels_scratch p q = p.answer ∙ sym q.answer

pub unique_restoring_length : {n f levels : ℕ} {r r' : Result ℕ LevelsError} → RestoringSized n f levels r → RestoringSized n f levels r' → r ≡ r'
unique_restoring_length p q = p.answer ∙ sym q.answer

pub unique_most_levels : {n f : ℕ} {r r' : Result ℕ LevelsError} → MostSized n f r → MostSized n f r' → r ≡ r'
unique_most_levels p q = p.answer ∙ sym q.answer

pub unique_level_part : {n f levels level : ℕ} {r r' : Result Part PartError} → PartSized n f levels level r → PartSized n f levels level r' → r ≡ r'
unique_level_part p q = p.answer ∙ sym q.answer
