-- Sums of n terms, in whatever can be added in any order. Definitions only.
use Rattle.std.specs.Prelude.{◌≡◌, ℕ, zero, suc, ◌+◌, ℤ, pos, nat_abs, ◌+ℤ◌}
use Rattle.std.proofs.Common.{zero-add, add_comm, add_assoc}
use Rattle.std.proofs.Math.IntN.{+ℤ_idl, +ℤ_comm, +ℤ_assoc}

-- a way to add, in which neither the order of terms nor brackets matter
pub record Adding (A : Type 0) : Type 0 where
  pub none : A
  pub plus : A → A → A
  pub idl : (a : A) → plus none a ≡ a
  pub comm : (a b : A) → plus a b ≡ plus b a
  pub assoc : (a b c : A) → plus (plus a b) c ≡ plus a (plus b c)

abbrev pub naturals : Adding ℕ
naturals = record { none = 0; plus = ◌+◌; idl = zero-add; comm = add_comm; assoc = add_assoc }

abbrev pub integers : Adding ℤ
integers = record { none = pos 0; plus = ◌+ℤ◌; idl = +ℤ_idl; comm = +ℤ_comm; assoc = +ℤ_assoc }

-- g 0, g 1 and so on, n of them, added
unfoldable pub sum : {A : Type 0} → Adding A → ℕ → (ℕ → A) → A
sum P zero g = P.none
sum P (suc n) g = P.plus (sum P n g) (g n)

-- the sizes of w 0, w 1 and so on, n of them, added
abbrev pub sizes_of : ℕ → (ℕ → ℤ) → ℕ
sizes_of n w = sum naturals n (λ k. nat_abs (w k))
