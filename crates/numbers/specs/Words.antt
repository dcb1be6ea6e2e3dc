-- The words that every crate's definitions use. Definitions only.
use Rattle.std.specs.Prelude.{false, List, [], ◌∷◌, ◌++◌, ℕ, zero, suc, ◌+◌, length, get_or, drop, pos, Float}
use Rattle.std.proofs.Math.ListN.{take}
use Rattle.std.specs.Float.{fin, nan}

-- the most samples of a line and the most numbers of a band that is given
abbrev pub longest : ℕ
longest = 1048576

-- the most numbers of a plane, whose sides are lines
abbrev pub largest : ℕ
largest = 16777216

-- +0
abbrev pub plus_zero : Float
plus_zero = fin false 0 (pos 0)

-- the float at a place of a list; past its end there is none, and `nan` is what the language's own account of a read has there
abbrev pub at : List Float → ℕ → Float
at l i = get_or l i nan

-- a thing at exit, by the number of the answer: new where it is 0, done, and as it was where it is a refusal's
abbrev pub when_done : {A : Type 0} → ℕ → A → A → A
when_done zero new old = new
when_done (suc number) new old = old

-- tests that come after others, of answers with their numbers: where those are done, what these say
abbrev pub and_then : {A : Type 0} → (A → ℕ) → A → A → A
and_then number before after = when_done (number before) after before

module _ {A : Type 0} where
  -- g 0, g 1 and so on, n of them
  unfoldable pub tab : (ℕ → A) → ℕ → List A
  tab g zero = []
  tab g (suc n) = tab g n ++ (g n ∷ [])

  -- x with its first n places as g has them, and the rest as it was
  unfoldable pub written : (ℕ → A) → ℕ → List A → List A
  written g n x = tab g n ++ drop n x

  -- x with n places from s on as g has them from 0 on, and the rest as it was
  unfoldable pub placed : (ℕ → A) → ℕ → ℕ → List A → List A
  unfolding written
  placed g s n x = take s x ++ written g n (drop s x)

  -- the same as g has them by their own places
  abbrev pub replaced : (ℕ → A) → ℕ → ℕ → List A → List A
  replaced g s n x = placed (λ k. g (s + k)) s n x

  -- a buffer that begins with l, which it has room for, and is as it was beyond
  abbrev pub headed : List A → List A → List A
  headed l x = l ++ drop (length l) x

-- n places of +0
abbrev pub cleared : ℕ → List Float
cleared n = tab (λ p. plus_zero) n
