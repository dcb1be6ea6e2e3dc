-- Laws of telling, beside those that hold for any answer: what restoring carries, with division or without, and a centre by another name.
use Rattle.std.specs.Prelude.{◌≡◌, refl, List, [], ◌∷◌, ℕ, Result, Ok, Err, ⊤, ℤ, Float}
use Rattle.std.proofs.Common.{sym, ap, ◌∙◌, subst, arith}
use Rattle.std.specs.Float.{Format}
use Rattle.numbers.specs.Words.{when_done}
use Rattle.numbers.specs.Tests.{kept}
use Rattle.border.specs.declared.Border.{Border}
use Rattle.convolution.specs.declared.ConvolutionError.{ConvolutionError}
use Rattle.convolution.specs.Convolutions.{Convolved}
use Rattle.packed.specs.declared.LevelsError.{LevelsError}
use Rattle.packed.specs.Lengths.{restoring_length}
use Rattle.packed.specs.Answers.{number_of, values_of}
use Rattle.packed.specs.Tested.{done_alone}
use Rattle.restoring.specs.declared.divided.DividedError.{DividedError}
use Rattle.restoring.specs.declared.divided.DividedError.TheVariants.{Divisor, Refused}
use Rattle.restoring.specs.Dividings as Dividings
use Rattle.telling.specs.Told.{Told, carried_from}
use Rattle.telling.specs.Telling.{retold}
use Rattle.isferghul.specs.Levels.{holder, back_from, values_back}

-- either kind of restoring that is refused carries what its answer does; done, where the answer carries nothing, the buffer's number and the length
module _ {A : Type 0} (number : A → ℕ) (values : A → List ℕ) (bare : (a : A) → number a ≡ 0 → values a ≡ []) (n f levels : ℕ) (a : A) {k : ℕ} {words words' : List ℕ}
    (t : Told (number a) (values a) words k words') where
  pub back_refused_from : (k ≡ 0 → ⊥) → Told (number a) (back_from number values n f levels a) words k words'
  back_refused_from h = retold refl (kept (number a) (omega (arith, t.given, h)) _ (values a)) t

  pub back_done_from : {w m r : ℕ} {words'' : List ℕ} → k ≡ 0 → w ≡ holder levels → m ≡ restoring_length n f → Told 0 (w ∷ m ∷ []) words' r words''
      → Told (number a) (back_from number values n f levels a) words r words''
  back_done_from z ew em u =
      let zero : number a ≡ 0 = sym t.given ∙ z in
      let same : words' ≡ words = t.carried ∙ ap (λ (v : List ℕ). carried_from 0 v words) (bare a zero) in
      retold (sym zero) (sym (ap (λ (j : ℕ). when_done j (holder levels ∷ restoring_length n f ∷ []) (values a)) zero)) (record { given = u.given; carried = (cc) })

-- where the number is 0 neither kind of restoring carries anything
pub levels_bare : (a : Result ⊤ LevelsError) → number_of a ≡ 0 → values_of a ≡ []
levels_bare a z = ap values_of (done_alone a z)

-- restoring that is refused carries what its answer does; done, the buffer's number and the length
module _ (n f levels : ℕ) (a : Result ⊤ LevelsError) {number : ℕ} {words words' : List ℕ} (t : Told (number_of a) (values_of a) words number words') where
  pub back_refused : (number ≡ 0 → ⊥) → Told (number_of a) (values_back n f levels a) words number words'
  back_refused h = back_refused_from number_of values_of levels_bare n f levels a t h

  pub back_done : {w m r : ℕ} {words'' : List ℕ} → number ≡ 0 → w ≡ holder levels → m ≡ restoring_length n f → Told 0 (w ∷ m ∷ []) words' r words''
      → Told (number_of a) (values_back n f levels a) words r words''
  back_done z ew em u = back_done_from number_of values_of levels_bare n f levels a t z ew em u

pub divided_bare : (a : Result ⊤ DividedError) → Dividings.number_of a ≡ 0 → Dividings.values_of a ≡ []
divided_bare (Ok done) z = refl
divided_bare (Err Divisor) z = refl
divided_bare (Err (Refused e)) z = levels_bare (Err e) z

-- what is promised of a centre is promised by any name of it
pub centred : {w : Format} {b : Border} {line out scratch kernel : List Float} {c c' : ℤ} {a : Result ⊤ ConvolutionError} {o s : List Float} → c' ≡ c
    → Convolved w b line out scratch kernel c' a o s → Convolved w b line out scratch kernel c a o s
centred {w} {b} {line} {out} {scratch} {kernel} {a = a} {o} {s} e p = subst (λ (z : ℤ). Convolved w b line out scratch kernel z a o s) e p
