-- What laying a text promises, of any buffer: the text as far as the buffer reaches, and the text's length. Definitions only.
use Rattle.std.specs.Prelude.{◌≡◌, List, ℕ, length}
use Rattle.texts.specs.Laying.{laid}

pub record Lays (text out : List ℕ) (r : ℕ) (out' : List ℕ) : Type 0 where
  pub size : r ≡ length text
  pub laying : out' ≡ laid text out
