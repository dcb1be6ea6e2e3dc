-- Laws of what the entries promise: any two outcomes that a promise admits are equal, since each is an equation of the answer and of every lent buffer.
use Rattle.std.specs.Prelude.{◌≡◌, List, ℕ, ℤ, Result, ⊤, Float}
use Rattle.std.proofs.Common.{sym, ◌∙◌}
use Rattle.std.specs.Float.{Format}
use Rattle.border.specs.declared.Border.{Border}
use Rattle.convolution.specs.declared.pads.ScratchError.{ScratchError}
use Rattle.convolution.specs.declared.ConvolutionError.{ConvolutionError}
use Rattle.convolution.specs.Sizes.{ScratchSized}
use Rattle.convolution.specs.Convolutions.{Convolved}

pub unique_convolution_scratch : {n f : ℕ} {c : ℤ} {r r' : Result ℕ ScratchError} → ScratchSized n f c r → ScratchSized n f c r' → r ≡ r'
unique_convolution_scratch p q = p.answer ∙ sym q.answer

pub unique_convolve : {w : Format} {b : Border} {line out scratch kernel : List Float} {c : ℤ} {r r' : Result ⊤ ConvolutionError} {o s o' s' : List Float}
    → Convolved w b line out scratch kernel c r o s → Convolved w b line out scratch kernel c r' o' s'
    → (r ≡ r') × (o ≡ o') × (s ≡ s')
unique_convolve p q = let e = p.answer ∙ sym q.answer in (e, (cc), (cc))
