-- Laws of what the entries promise: any two outcomes that a promise admits have one answer and the same plane, and the scratch is one as far as it is said.
use Rattle.std.specs.Prelude.{◌≡◌, List, ℕ, ◌<◌, length, drop, ⊤, Result, Float}
use Rattle.std.proofs.Common.{sym, subst, ◌∙◌}
use Rattle.planes.specs.declared.PlanesError.{PlanesError}
use Rattle.planes.specs.Lengths.{plane_scratch}
use Rattle.planes.specs.Answers.{number_of, Scratched}
use Rattle.planes.specs.Unique.{unique_scratch}
use Rattle.plane_synthesis.specs.Syntheses.{Synthesised}

pub unique_synthesise_plane : {low high : List Float} {f : ℕ} {ll lh hl hh : List Float} {w h : ℕ} {plane scratch : List Float} {r r' : Result ⊤ PlanesError} {p s p' s' : List Float}
    → Synthesised low high f ll lh hl hh w h plane scratch r p s → Synthesised low high f ll lh hl hh w h plane scratch r' p' s'
    → (r ≡ r') × (p ≡ p')
    × (0 < number_of r → s ≡ s') × (length s ≡ length s') × (drop (plane_scratch w h f) s ≡ drop (plane_scratch w h f) s')
unique_synthesise_plane {f = f} {w = w} {h} {scratch = scratch} {s' = s'} p q =
    let e = p.answer ∙ sym q.answer in
    let u = unique_scratch p.scratched (subst (λ (a : Result ⊤ PlanesError). Scratched (number_of a) (plane_scratch w h f) scratch s') (sym e) q.scratched) in
    (e, (cc), u.0, u.1, u.2)
