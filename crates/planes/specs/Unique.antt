-- Laws of what the entries promise: any two outcomes that a promise admits are equal, since each is an equation of the answer; of a scratch that is written, as much as is said of it is equal.
use Rattle.std.specs.Prelude.{◌≡◌, List, ℕ, ◌<◌, length, drop, Result, Float}
use Rattle.std.proofs.Common.{sym, ◌∙◌}
use Rattle.planes.specs.declared.PlanesError.{PlanesError}
use Rattle.planes.specs.Answers.{WidthSized, HeightSized, BandSized, ScratchSized, Scratched}

pub unique_plane_band_width : {w h f : ℕ} {r r' : Result ℕ PlanesError} → WidthSized w h f r → WidthSized w h f r' → r ≡ r'
unique_plane_band_width p q = p.answer ∙ sym q.answer

pub unique_plane_band_height : {w h f : ℕ} {r r' : Result ℕ PlanesError} → HeightSized w h f r → HeightSized w h f r' → r ≡ r'
unique_plane_band_height p q = p.answer ∙ sym q.answer

pub unique_plane_band_length : {w h f : ℕ} {r r' : Result ℕ PlanesError} → BandSized w h f r → BandSized w h f r' → r ≡ r'
unique_plane_band_length p q = p.answer ∙ sym q.answer

pub unique_plane_scratch : {w h f : ℕ} {r r' : Result ℕ PlanesError} → ScratchSized w h f r → ScratchSized w h f r' → r ≡ r'
unique_plane_scratch p q = p.answer ∙ sym q.answer

-- two outcomes of a scratch: equal on a refusal, and else in their length and beyond the need
pub unique_scratch : {number need : ℕ} {x y y' : List Float} → Scratched number need x y → Scratched number need x y'
    → (0 < number → y ≡ y') × (length y ≡ length y') × (drop need y ≡ drop need y')
unique_scratch p q = ((λ h. p.refused h ∙ sym (q.refused h)), p.long ∙ sym q.long, p.beyond ∙ sym q.beyond)
