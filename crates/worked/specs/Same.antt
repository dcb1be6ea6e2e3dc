-- A bank made of two lists, or by the mirror rule, gives what it gave, whichever entry takes it: both of its pairs are the one that it had.
use Rattle.std.specs.Prelude.{◌≡◌, List, ℕ, zero, suc, length, Float}
use Rattle.std.proofs.Common.{sym, subst}
use Rattle.numbers.specs.Words.{at, when_done}
use Rattle.border.specs.declared.Border.{Border}
use Rattle.bank.specs.declared.Bank.{Bank}
use Rattle.bank.specs.declared.making.Making.{Making}
use Rattle.bank.specs.Banks.{number_of, zeros, mirror, held_in, array_of, bank_of, no_bank, BankMade, MirrorMade}
use Rattle.worked.specs.Before.{GivesAsBefore, AsBefore}

one_pair : (l h : List Float) (f : ℕ) (b : Border) → GivesAsBefore (held_in l h l h f b) l h f b
one_pair l h f b = record {
  analyse = λ p. p;
  synthesise = λ p. p;
  analyse_levels = λ p. p;
  restore_levels = λ p. p;
  restored_line = λ p. p;
  analyse_plane = λ p. p;
  synthesise_plane = λ p. p;
  there_and_back = λ p. p;
}

made_before : {bank : Bank Float} (k : ℕ) (low : List Float) (high : ℕ → Float) (b : Border) → bank ≡ when_done k (bank_of low high b) (no_bank b) → AsBefore bank k low high b
made_before zero low high b e = subst (λ (x : Bank Float). AsBefore x 0 low high b) (sym e) (one_pair (array_of (length low) (at low)) (array_of (length low) high) (length low) b)
made_before (suc k) low high b e = subst (λ (x : Bank Float). AsBefore x (suc k) low high b) (sym e) (one_pair zeros zeros 0 b)

pub bank_as_before : {low high : List Float} {b : Border} {r : Making} {bank : Bank Float} → BankMade low high b r bank → AsBefore bank (number_of r) low (at high) b
bank_as_before {low} {high} {b} {r} m = made_before (number_of r) low (at high) b m.made

pub mirrored_as_before : {low : List Float} {b : Border} {r : Making} {bank : Bank Float} → MirrorMade low b r bank → AsBefore bank (number_of r) low (mirror low) b
mirrored_as_before {low} {b} {r} m = made_before (number_of r) low (mirror low) b m.made
