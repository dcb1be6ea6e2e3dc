-- Laws of a number's value: a sign and a size make the float of the whole number. Negating changes a float's sign and nothing else, so it goes through rounding.
use Rattle.std.specs.Prelude.{◌≡◌, refl, Bool, true, false, not, cond, List, [], ◌∷◌, ◌++◌, ltb, nat_abs, Float}
use Prim.Native.Nat.{ℕ, zero, suc, ◌+◌, ◌-◌, ◌*◌, ◌/◌, ◌%◌, ◌^◌, ◌≤◌, compare}
use Rattle.std.proofs.Common.{arith}
use Rattle.std.specs.Float.{Format, binary64, inf}
use Rattle.std.specs.Float.Ieee.{prec, emax, low, neg, nearest, size, odd, units, round, of_int}
use Rattle.whole.specs.Floats.{signed}
use Rattle.texts.specs.Texts.{minus, decimal, numeral, greatest}
use Rattle.phases.specs.Phases.{value_of}

neg_odd : (d : ℕ) (s : Bool) (q k l : ℕ) → neg (odd d s q k l) ≡ odd d (not s) q k l
unfolding neg odd
neg_odd d s zero k l = refl
neg_odd d s (suc q) k l = refl

neg_either : (t : Bool) (s : Bool) (x y : Float) → neg x ≡ y → neg (cond t x (inf s)) ≡ cond t y (inf (not s))
unfolding neg
neg_either true s x y e = e
neg_either false s x y e = refl

neg_units : (f : Format) (s : Bool) (q k : ℕ) → neg (units f s q k) ≡ units f (not s) q k
unfolding units
neg_units f s q k =
    neg_either (ltb (q * 2 ^ k) (2 ^ (low f + suc (emax f)))) s (odd (suc (prec f)) s q k (low f)) (odd (suc (prec f)) (not s) q k (low f)) (neg_odd (suc (prec f)) s q k (low f))

neg_round : (f : Format) (s : Bool) (n d : ℕ) → neg (round f s n d) ≡ round f (not s) n d
unfolding round
neg_round f s n d =
    let m = n * 2 ^ low f in
    let k = size (m / d) - prec f in
    let u = d * 2 ^ k in
    neg_units f s (nearest (m / u) (compare (m % u * 2) u)) k

-- a number that a phase can hold: in range, and no minus before 0
pub record Valid (negative : Bool) (size : ℕ) : Type 0 where
  pub most : size ≤ greatest
  pub some : negative ≡ true → 1 ≤ size

pub value_whole : (negative : Bool) (size : ℕ) → Valid negative size → value_of negative size ≡ of_int binary64 (signed negative size)
unfolding of_int
value_whole false size v = refl
value_whole true zero v = absurd (omega (arith, v.some refl))
value_whole true (suc n) v = neg_round binary64 false (suc n) 1

pub signed_size : (negative : Bool) (size : ℕ) → nat_abs (signed negative size) ≡ size
signed_size false size = refl
signed_size true zero = refl
signed_size true (suc n) = refl

-- the sign in front of the digits
abbrev pub sign_text : Bool → List ℕ
sign_text true = minus ∷ []
sign_text false = []

pub numeral_signed : (negative : Bool) (size : ℕ) → Valid negative size → numeral (signed negative size) ≡ sign_text negative ++ decimal size
numeral_signed false size v = refl
numeral_signed true zero v = absurd (omega (arith, v.some refl))
numeral_signed true (suc n) v = refl
