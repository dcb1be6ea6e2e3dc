-- Borders by number, and the refusal of a number that names none. Definitions only.
use Rattle.std.specs.Prelude.{◌≡◌, Bool, true, false, List, [], ◌∷◌, ℕ, leb, length, get_or}
use Rattle.border.specs.declared.Border.{Border}
use Rattle.border.specs.declared.Border.TheVariants.{Clamp}
use Rattle.border.specs.Rule.{borders}
use Rattle.telling.specs.Told.{Told, ToldOf}

-- in the order of RULES, Borders; of a number that names none it is never asked
abbrev pub border_of : ℕ → Border
border_of k = get_or borders k Clamp

abbrev pub no_border : ℕ → Bool
no_border k = leb (length borders) k

-- the same under a border that is told by number; where the number names none it is 26, which carries it, and nothing that was lent has changed
pub record ToldUnder (border : ℕ) {A : Type 0} (number : A → ℕ) (values : A → List ℕ) (promise : Border → A → Type 0) (unchanged : Type 0) (words : List ℕ) (r : ℕ) (words' : List ℕ) : Type 0 where
  pub known : no_border border ≡ false → ToldOf number values (promise (border_of border)) words r words'
  pub unknown : no_border border ≡ true → Told 26 (border ∷ []) words r words' × unchanged
