-- A list laid onto the front of a buffer, as far as it reaches. Definitions only.
use Rattle.std.specs.Prelude.{List, [], ◌∷◌}

module _ {A : Type 0} where
  -- x with its first places as l has them, as far as x reaches, and the rest as it was
  unfoldable pub laid : List A → List A → List A
  laid [] x = x
  laid (v ∷ l) [] = []
  laid (v ∷ l) (y ∷ x) = v ∷ laid l x
