-- How an answer is told to C: its number is given back, and what it carries stands in lent words. Definitions only.
use Rattle.std.specs.Prelude.{◌≡◌, List, [], ◌∷◌, ℕ, suc, set}

-- words with the values at places k, k + 1 and so on, and the rest as it was
abbrev pub carried_from : ℕ → List ℕ → List ℕ → List ℕ
carried_from k [] words = words
carried_from k (value ∷ values) words = carried_from (suc k) values (set words k value)

-- a number and its values, told
pub record Told (number : ℕ) (values words : List ℕ) (r : ℕ) (words' : List ℕ) : Type 0 where
  pub given : r ≡ number
  pub carried : words' ≡ carried_from 0 values words

-- what an entry promises of its answer, told: the number and the values are those of an answer that the promise admits
pub record ToldOf {A : Type 0} (number : A → ℕ) (values : A → List ℕ) (promise : A → Type 0) (words : List ℕ) (r : ℕ) (words' : List ℕ) : Type 0 where
  pub answer : A
  pub promised : promise answer
  pub told : Told (number answer) (values answer) words r words'
