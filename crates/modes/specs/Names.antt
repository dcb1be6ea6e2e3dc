-- Which border's name a text begins with. Definitions only.
use Rattle.std.specs.Prelude.{Bool, true, false, cond, ◌&&◌, List, [], ◌∷◌, ◌++◌, ℕ, eqb, length, Option, Some, None}
use Rattle.std.specs.Bool.{then_some}
use Rattle.border.specs.declared.Border.{Border}
use Rattle.border.specs.Rule.{borders}
use Rattle.texts.specs.Texts.{newline, name_of}
use Rattle.modes.specs.declared.Mode.{Mode}

unfoldable pub begins : List ℕ → List ℕ → Bool
begins [] t = true
begins (x ∷ name) [] = false
begins (x ∷ name) (y ∷ t) = eqb y x && begins name t

-- how long a name is, where the text begins with it
abbrev pub front : List ℕ → List ℕ → Option ℕ
front name t = then_some (begins name t) (length name)

-- the mode's line
abbrev pub mode_text : Border → List ℕ
mode_text b = name_of b ++ (newline ∷ [])

-- a border and where its line ends
abbrev pub found : Border → ℕ → Option Mode
found b next = Some (record { border = b; next = next })

abbrev pub tried : List ℕ → Border → Option Mode → Option Mode
tried t b other = cond (begins (mode_text b) t) (found b (length (mode_text b))) other

-- the first of a list of borders whose line the text begins with
abbrev pub found_in : List ℕ → List Border → Option Mode
found_in t [] = None
found_in t (b ∷ others) = tried t b (found_in t others)

abbrev pub mode_of : List ℕ → Option Mode
mode_of t = found_in t borders
