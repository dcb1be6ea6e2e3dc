-- `laying::digits::pattern` meets its contract: a NaN has the bits of the number answered there.
use mathlib.Core.Path.{◌≡◌, refl, sym, ap, ◌∙◌}
use mathlib.Core.Bool.{true}
use lib.Ieee.{Float, nan, inf, fin, binary64, to_bits, is_nan}
use Rattle.laying.proofs.digits.pattern.Goals as goal

nan_bits : 0x7FF8000000000000 ≡ to_bits binary64 nan
unfolding to_bits
nan_bits = refl

the_nan : (x : Float) → is_nan x ≡ true → x ≡ nan
unfolding is_nan
the_nan nan e = refl
the_nan (inf negative) e = cc
the_nan (fin negative m k) e = cc

pub returns-then-is_nan : goal.returns-then-is_nan
returns-then-is_nan c = nan_bits ∙ sym (ap (to_bits binary64) (the_nan c.args.x (sym c.is_nan.ensures.value ∙ c.if-is_nan.true)))
