-- Laws of what the entries promise: any two outcomes that a promise admits are equal, since each is an equation of the answer and of every lent buffer.
use Rattle.std.specs.Prelude.{◌≡◌, List, ℕ, Result, Float}
use Rattle.std.proofs.Common.{sym, ◌∙◌}
use Rattle.border.specs.declared.Border.{Border}
use Rattle.bank.specs.declared.Bank.{Bank}
use Rattle.bank.specs.declared.making.Making.{Making}
use Rattle.bank.specs.declared.sizes.SizeError.{SizeError}
use Rattle.bank.specs.Banks.{BankMade, MirrorMade, PairsMade, Mirrored}
use Rattle.bank.specs.Sizes.{BandSized, LineSized, ScratchSized}

pub unique_bank : {low high : List Float} {b : Border} {r r' : Making} {bank bank' : Bank Float}
    → BankMade low high b r bank → BankMade low high b r' bank' → (r ≡ r') × (bank ≡ bank')
unique_bank p q = let e = p.answer ∙ sym q.answer in (e, (cc))

pub unique_mirrored : {low : List Float} {b : Border} {r r' : Making} {bank bank' : Bank Float}
    → MirrorMade low b r bank → MirrorMade low b r' bank' → (r ≡ r') × (bank ≡ bank')
unique_mirrored p q = let e = p.answer ∙ sym q.answer in (e, (cc))

pub unique_two_pairs : {low high sl sh : List Float} {b : Border} {r r' : Making} {bank bank' : Bank Float}
    → PairsMade low high sl sh b r bank → PairsMade low high sl sh b r' bank' → (r ≡ r') × (bank ≡ bank')
unique_two_pairs p q = let e = p.answer ∙ sym q.answer in (e, (cc))

pub unique_mirror : {low high : List Float} {r r' : Making} {h h' : List Float} → Mirrored low high r h → Mirrored low high r' h' → (r ≡ r') × (h ≡ h')
unique_mirror p q = let e = p.answer ∙ sym q.answer in (e, (cc))

pub unique_band_length : {n f : ℕ} {r r' : Result ℕ SizeError} → BandSized n f r → BandSized n f r' → r ≡ r'
unique_band_length p q = p.answer ∙ sym q.answer

pub unique_line_length : {m f : ℕ} {r r' : Result ℕ SizeError} → LineSized m f r → LineSized m f r' → r ≡ r'
unique_line_length p q = p.answer ∙ sym q.answer

pub unique_analysis_scratch : {n f : ℕ} {r r' : Result ℕ SizeError} → ScratchSized n f r → ScratchSized n f r' → r ≡ r'
unique_analysis_scratch p q = p.answer ∙ sym q.answer
