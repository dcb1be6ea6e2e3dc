-- Laws of sums that start at +0: no number of a band and no place of a join is -0, since a sum is -0 only where both of its terms are.
use Rattle.std.specs.Prelude.{Bool, true, false, cond, List, ℕ, zero, suc, ◌+◌, ◌-◌, ◌*◌, ◌<◌, T, length, Float}
use Rattle.std.proofs.Common.{arith}
use Rattle.std.specs.Float.{nan, Format}
use Rattle.std.specs.Float.Ieee.{add, mul, fits}
use Rattle.std.specs.Float.Ieee.Fits.{add-fits, mul-fits}
use Rattle.numbers.specs.Words.{plus_zero, at, cleared}
use Rattle.numbers.specs.Write.{length-tab, get_or-tab}
use Rattle.whole.specs.Zeros.{NotMinusZero, plus_plus, add_plus}
use Rattle.border.specs.declared.Border.{Border}
use Rattle.bank.specs.Lengths.{pairs}
use Rattle.summing.specs.Sums.{dot}
use Rattle.analysis.specs.Sums.{analysed}
use Rattle.analysis.specs.Lines.{padded_at, band}
use Rattle.gathering.specs.Pairs.{onto}
use Rattle.synthesis.specs.Sums.{meets, joined}
use Rattle.synthesis.specs.Lines.{synthesised, join_of}

-- a float that the format holds, and not -0
pub record Plus (f : Format) (x : Float) : Type 0 where
  pub held : T (fits f x)
  pub plus : NotMinusZero x

zero_plus : (f : Format) → Plus f plus_zero
unfolding fits
zero_plus f = record { held = tt; plus = plus_plus }

-- one product onto a sum
step : (f : Format) (acc h x : Float) → Plus f acc → Plus f (add f acc (mul f h x))
step f acc h x p = record { held = add-fits f acc (mul f h x); plus = add_plus f acc (mul f h x) p.held (mul-fits f h x) p.plus }

-- ---- a band
dot_plus : (f : Format) (tap x : ℕ → Float) (n : ℕ) → Plus f (dot f tap x n)
unfolding dot
dot_plus f tap x zero = zero_plus f
dot_plus f tap x (suc n) = step f (dot f tap x n) (tap n) (x n) (dot_plus f tap x n)

pub band_plus : (f : Format) (taps : List Float) (F : ℕ) (b : Border) (s : List Float) (i : ℕ) → i < pairs (length s) F → Plus f (at (band f taps F b s) i)
unfolding band analysed
band_plus f taps F b s i h =
    rw (get_or-tab (analysed f F (at taps) (padded_at F b s)) (pairs (length s) F) i nan h) (dot_plus f (at taps) (λ j. padded_at F b s (2 * i + j)) F)

-- ---- a join
pair_plus : (f : Format) (t : Bool) (low high : ℕ → Float) (j : ℕ) (a d z : Float) → Plus f z → Plus f (cond t (onto f low high j a d z) z)
pair_plus f true low high j a d z p = step f (add f z (mul f (high j) d)) (low j) a (step f z (high j) d p)
pair_plus f false low high j a d z p = p

joined_plus : (f : Format) (F : ℕ) (low high a d : ℕ → Float) (P : ℕ) (held : Float) → Plus f held → (n : ℕ) → Plus f (joined f F low high a d P held n)
unfolding joined
joined_plus f F low high a d P held p zero = p
joined_plus f F low high a d P held p (suc i) =
    pair_plus f (meets F P i) low high (P - 2 * i) (a i) (d i) (joined f F low high a d P held i) (joined_plus f F low high a d P held p i)

pub join_plus : (f : Format) (F : ℕ) (low high : List Float) (n : ℕ) (a d : List Float) (p : ℕ) → p < n → Plus f (at (join_of f F low high n a d) p)
unfolding synthesised
join_plus f F low high n a d p h =
    let l : p < length (cleared n) = omega (arith, length-tab (λ q. plus_zero) n) in
    rw (get_or-tab (λ q. joined f F (at low) (at high) (at a) (at d) (q + (F - 2)) (at (cleared n) q) (length a)) (length (cleared n)) p nan l)
    (joined_plus f F (at low) (at high) (at a) (at d) (p + (F - 2)) (at (cleared n) p) (rw (get_or-tab (λ q. plus_zero) n p nan h) (zero_plus f)) (length a))
