-- Laws of what the entries promise: any two outcomes that a promise admits have one answer and the same bands, and the scratch is one as far as it is said.
use Rattle.std.specs.Prelude.{◌≡◌, List, ℕ, ◌<◌, length, drop, ⊤, Result, Float}
use Rattle.std.proofs.Common.{sym, subst, ◌∙◌}
use Rattle.border.specs.declared.Border.{Border}
use Rattle.planes.specs.declared.PlanesError.{PlanesError}
use Rattle.planes.specs.Lengths.{plane_scratch}
use Rattle.planes.specs.Answers.{number_of, Scratched}
use Rattle.planes.specs.Unique.{unique_scratch}
use Rattle.plane_analysis.specs.Analyses.{Analysed}

pub unique_analyse_plane : {low high : List Float} {f : ℕ} {border : Border} {plane : List Float} {w h : ℕ} {ll lh hl hh scratch : List Float} {r r' : Result ⊤ PlanesError} {a b c d s a' b' c' d' s' : List Float}
    → Analysed low high f border plane w h ll lh hl hh scratch r a b c d s → Analysed low high f border plane w h ll lh hl hh scratch r' a' b' c' d' s'
    → (r ≡ r') × (a ≡ a') × (b ≡ b') × (c ≡ c') × (d ≡ d')
    × (0 < number_of r → s ≡ s') × (length s ≡ length s') × (drop (plane_scratch w h f) s ≡ drop (plane_scratch w h f) s')
unique_analyse_plane {f = f} {w = w} {h} {scratch = scratch} {s' = s'} p q =
    let e = p.answer ∙ sym q.answer in
    let u = unique_scratch p.scratched (subst (λ (a : Result ⊤ PlanesError). Scratched (number_of a) (plane_scratch w h f) scratch s') (sym e) q.scratched) in
    (e, (cc), (cc), (cc), (cc), u.0, u.1, u.2)
