-- Laws of what the exports promise: any two outcomes that a promise admits are equal, since its entry's promise admits one and it is told.
-- Of the size questions, a level's part and a comparison `unique_answer_told` says so, with the entry's own law.
use Rattle.std.specs.Prelude.{◌≡◌, List, ℕ, ◌<◌, ℤ, length, drop, Float}
use Rattle.std.proofs.Common.{sym, subst, ◌∙◌, ap}
use Rattle.std.specs.Float.{Format}
use Rattle.bank.specs.Banks as Banks
use Rattle.bank.specs.Banks.{taps_of}
use Rattle.bank.specs.Unique.{unique_mirror}
use Rattle.analysis.specs.Unique.{unique_analyse}
use Rattle.direct_analysis.specs.Unique.{unique_direct}
use Rattle.synthesis.specs.Unique.{unique_synthesise}
use Rattle.convolution.specs.Unique.{unique_convolve}
use Rattle.levels.specs.Unique.{unique_analyse_levels}
use Rattle.restoring.specs.Unique.{unique_restore_levels, unique_restore_divided}
use Rattle.level_telling.specs.Readings.{value_from}
use Rattle.level_parts.specs.declared.Reading.{Reading}
use Rattle.level_parts.specs.Unique.{unique_read_place}
use Rattle.planes.specs.Lengths.{plane_scratch}
use Rattle.plane_analysis.specs.Unique.{unique_analyse_plane}
use Rattle.plane_synthesis.specs.Unique.{unique_synthesise_plane}
use Rattle.telling.specs.Unique.{unique_told_of, unique_told_under}
use Rattle.isferghul.specs.Lines.{MirrorTold, PairsTold, AnalysisTold, DirectTold, SynthesisTold, ConvolutionTold}
use Rattle.isferghul.specs.Levels.{PlaceTold, LevelsTold, RestoringTold, DividingTold}
use Rattle.isferghul.specs.Planes.{PlaneAnalysisTold, PlaneSynthesisTold}

-- two that are equal to one are equal
both : {A : Type 0} {x y z : A} → x ≡ z → y ≡ z → x ≡ y
both e q = e ∙ sym q

pub unique_mirror_told : {low high : List Float} {r r' : ℕ} {h h' : List Float} → MirrorTold low high r h → MirrorTold low high r' h' → (r ≡ r') × (h ≡ h')
unique_mirror_told p q = let u = unique_mirror p.promised q.promised in (p.given ∙ ap Banks.number_of u.0 ∙ sym q.given, u.1)

pub unique_two_pairs_told : {low high sl sh r r' : ℕ} → PairsTold low high sl sh r → PairsTold low high sl sh r' → r ≡ r'
unique_two_pairs_told p q = p.given ∙ ap Banks.number_of (both p.promised q.promised) ∙ sym q.given

pub unique_analysis_told : {f : Format} {border : ℕ} {low high line approx detail scratch : List Float} {words : List ℕ} {r r' : ℕ} {a d s a' d' s' : List Float} {w w' : List ℕ}
    → AnalysisTold f border low high line approx detail scratch words r a d s w → AnalysisTold f border low high line approx detail scratch words r' a' d' s' w'
    → (r ≡ r') × (w ≡ w') × ((a ≡ a') × (d ≡ d') × (s ≡ s'))
unique_analysis_told p q =
    unique_told_under
    (λ b x y e k l. let o = unique_analyse k l in (o.0, (o.1, o.2, o.3)))
    (λ k l. (both k.0 l.0, both k.1 l.1, both k.2 l.2)) p q

pub unique_direct_told : {f : Format} {border : ℕ} {low high line approx detail : List Float} {words : List ℕ} {r r' : ℕ} {a d a' d' : List Float} {w w' : List ℕ}
    → DirectTold f border low high line approx detail words r a d w → DirectTold f border low high line approx detail words r' a' d' w' → (r ≡ r') × (w ≡ w') × ((a ≡ a') × (d ≡ d'))
unique_direct_told p q =
    unique_told_under (λ b x y e k l. let o = unique_direct k l in (o.0, (o.1, o.2))) (λ k l. (both k.0 l.0, both k.1 l.1)) p q

pub unique_synthesis_told : {f : Format} {low high approx detail out : List Float} {words : List ℕ} {r r' : ℕ} {o o' : List Float} {w w' : List ℕ}
    → SynthesisTold f low high approx detail out words r o w → SynthesisTold f low high approx detail out words r' o' w' → (r ≡ r') × (w ≡ w') × (o ≡ o')
unique_synthesis_told p q = unique_told_of (λ x y e u v. unique_synthesise u v) p q

pub unique_convolution_told : {f : Format} {border : ℕ} {line out scratch kernel : List Float} {c : ℤ} {words : List ℕ} {r r' : ℕ} {o s o' s' : List Float} {w w' : List ℕ}
    → ConvolutionTold f border line out scratch kernel c words r o s w → ConvolutionTold f border line out scratch kernel c words r' o' s' w'
    → (r ≡ r') × (w ≡ w') × ((o ≡ o') × (s ≡ s'))
unique_convolution_told p q =
    unique_told_under (λ b x y e k l. let o = unique_convolve k l in (o.0, (o.1, o.2))) (λ k l. (both k.0 l.0, both k.1 l.1)) p q

pub unique_levels_told : {border : ℕ} {low high line : List Float} {levels : ℕ} {packed scratch : List Float} {words : List ℕ} {r r' : ℕ} {p s p' s' : List Float} {w w' : List ℕ}
    → LevelsTold border low high line levels packed scratch words r p s w → LevelsTold border low high line levels packed scratch words r' p' s' w'
    → (r ≡ r') × (w ≡ w') × ((p ≡ p') × (s ≡ s'))
unique_levels_told p q =
    unique_told_under (λ b x y e k l. let o = unique_analyse_levels k l in (o.0, (o.1, o.2))) (λ k l. (both k.0 l.0, both k.1 l.1)) p q

pub unique_restoring_told : {low high packed : List Float} {n levels : ℕ} {first second : List Float} {words : List ℕ} {r r' : ℕ} {a b a' b' : List Float} {w w' : List ℕ}
    → RestoringTold low high packed n levels first second words r a b w → RestoringTold low high packed n levels first second words r' a' b' w'
    → (r ≡ r') × (w ≡ w') × ((a ≡ a') × (b ≡ b'))
unique_restoring_told p q =
    unique_told_of (λ x y e k l. let o = unique_restore_levels k l in (o.0, (o.1, o.2))) p q

pub unique_dividing_told : {low high : List Float} {s : Float} {packed : List Float} {n levels : ℕ} {first second : List Float} {words : List ℕ} {r r' : ℕ} {a b a' b' : List Float} {w w' : List ℕ}
    → DividingTold low high s packed n levels first second words r a b w → DividingTold low high s packed n levels first second words r' a' b' w'
    → (r ≡ r') × (w ≡ w') × ((a ≡ a') × (b ≡ b'))
unique_dividing_told p q =
    unique_told_of (λ x y e k l. let o = unique_restore_divided k l in (o.0, (o.1, o.2))) p q

pub unique_place_told : {n f levels level place : ℕ} {packed value : List Float} {words : List ℕ} {r r' : ℕ} {x x' : List Float} {w w' : List ℕ}
    → PlaceTold n f levels level place packed value words r x w → PlaceTold n f levels level place packed value words r' x' w'
    → (r ≡ r') × (w ≡ w') × (x ≡ x')
unique_place_told {value = value} p q =
    unique_told_of (λ a b e u v. let k = unique_read_place u.0 v.0 in (k, u.1 ∙ ap (λ (z : Reading). value_from z value) k ∙ sym v.1)) p q

-- a plane's scratch is one as far as it is said
pub unique_plane_analysis_told : {border : ℕ} {low high plane : List Float} {w h : ℕ} {ll lh hl hh scratch : List Float} {words : List ℕ} {r r' : ℕ}
    {a b c d s a' b' c' d' s' : List Float} {x x' : List ℕ}
    → PlaneAnalysisTold border low high plane w h ll lh hl hh scratch words r a b c d s x → PlaneAnalysisTold border low high plane w h ll lh hl hh scratch words r' a' b' c' d' s' x'
    → let need = plane_scratch w h (taps_of (length low) (length high)) in
    (r ≡ r') × (x ≡ x') × ((a ≡ a') × (b ≡ b') × (c ≡ c') × (d ≡ d') × (0 < r → s ≡ s') × (length s ≡ length s') × (drop need s ≡ drop need s'))
unique_plane_analysis_told {low = low} {high} {w = w} {h} p q =
    let need = plane_scratch w h (taps_of (length low) (length high)) in
    unique_told_under
    (λ k y z e i j. let o = unique_analyse_plane i j in (o.0, (o.1, o.2, o.3, o.4, λ l. o.5 (subst (λ (m : ℕ). 0 < m) e l), o.6, o.7)))
    (λ i j. let l = both i.4 j.4 in (both i.0 j.0, both i.1 j.1, both i.2 j.2, both i.3 j.3, λ k. l, ap length l, ap (drop need) l)) p q

pub unique_plane_synthesis_told : {low high ll lh hl hh : List Float} {w h : ℕ} {plane scratch : List Float} {words : List ℕ} {r r' : ℕ} {p s p' s' : List Float} {x x' : List ℕ}
    → PlaneSynthesisTold low high ll lh hl hh w h plane scratch words r p s x → PlaneSynthesisTold low high ll lh hl hh w h plane scratch words r' p' s' x'
    → let need = plane_scratch w h (taps_of (length low) (length high)) in
    (r ≡ r') × (x ≡ x') × ((p ≡ p') × (0 < r → s ≡ s') × (length s ≡ length s') × (drop need s ≡ drop need s'))
unique_plane_synthesis_told p q =
    unique_told_of (λ y z e i j. let o = unique_synthesise_plane i j in (o.0, (o.1, λ l. o.2 (subst (λ (m : ℕ). 0 < m) e l), o.3, o.4))) p q
