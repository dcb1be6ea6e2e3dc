-- Laws of the entries: which bands are too long, and what each way through the tests keeps. The first writing, onto no place, leaves the buffer as it was and tells the need.
use Rattle.std.specs.Prelude.{◌≡◌, refl, Bool, true, false, ◌||◌, List, [], ◌++◌, ℕ, ◌≤◌, ◌<◌, ltb, length, Ok, Err, Float}
use Rattle.std.proofs.Common.{ap, ◌∙◌, arith, lt-ltb, le-ltb}
use Rattle.numbers.specs.Words.{longest}
use Rattle.texts.specs.Laying.{laid}
use Rattle.texts.specs.Laid.{laid_nowhere, laid_whole}
use Rattle.laying.specs.Lays.{Lays}
use Rattle.printing.specs.declared.PrintError.TheVariants.{InputSize, Limit}
use Rattle.printing.specs.Printings.{too_long, Printed}

-- ---- bands that are too long, or not
module _ (approx detail : List Float) where
  pub first_long : longest < length approx → too_long approx detail ≡ true
  first_long h = simp (lt-ltb longest (length approx) h)

  pub second_long : longest < length detail → too_long approx detail ≡ true
  second_long h = simp (lt-ltb longest (length detail) h) (either (ltb longest (length approx)))
    where
      either : (t : Bool) → (t || true) ≡ true
      either true = refl
      either false = refl

  pub none_long : length approx ≤ longest → length detail ≤ longest → too_long approx detail ≡ false
  none_long h k = simp (le-ltb longest (length approx) h, le-ltb longest (length detail) k)

-- ---- ways through the tests
module _ {over : Bool} {text : List ℕ} where
  pub beyond : {x : List ℕ} → over ≡ true → Printed over text x (Err Limit) x
  beyond e = record { answer = simp e; held = refl }

  pub short : {x y : List ℕ} {need : ℕ} → over ≡ false → Lays text [] need y → length (y ++ x) < need → Printed over text x (Err (InputSize need (length (y ++ x)))) (y ++ x)
  short {x} {y} {need} e p h =
      let same = laid_nowhere text x p.laying in
      record { answer = rw same (simp (e, ← p.size, lt-ltb (length x) need (rw same at h))); held = same }

  pub roomy : {x y z : List ℕ} {need n : ℕ} → over ≡ false → Lays text [] need y → need ≤ length (y ++ x) → Lays text (y ++ x) n z → Printed over text x (Ok n) z
  roomy {x} {y} {z} {need} {n} e p h q =
      let same = laid_nowhere text x p.laying in
      let fits : length text ≤ length x = omega (arith, ap length same, p.size) in
      record {
        answer = simp (e, q.size, le-ltb (length x) (length text) fits);
        held = q.laying ∙ ap (laid text) same ∙ laid_whole text x fits;
      }
