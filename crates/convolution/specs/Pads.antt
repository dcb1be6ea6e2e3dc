-- The pads of convolution and its limits, for n samples, a kernel of f taps and a centre c. Definitions only.
use Rattle.std.specs.Prelude.{Bool, ◌&&◌, ◌||◌, ℕ, ◌+◌, ◌-◌, ◌/◌, ◌%◌, ltb, eqb, ℤ, pos, negsuc, ◌-ℤ◌}
use Rattle.std.specs.Int.Signed.{lt_z}
use Rattle.numbers.specs.Words.{longest}
use Rattle.border.specs.declared.Border.{Border}
use Rattle.border.specs.declared.Border.TheVariants.{Reflect101}
use Rattle.border.specs.declared.rule.Place.{Place}
use Rattle.border.specs.declared.rule.Place.TheVariants.{Before, At}
use Rattle.border.specs.Rule.{number_of}

-- over 1,048,576 samples or 64 taps, or a centre outside -2^31 .. 2^31 - 1
unfoldable pub beyond : ℕ → ℕ → ℤ → Bool
beyond n f c = ltb longest n || ltb 64 f || (lt_z c (negsuc 2147483647) || lt_z (pos 2147483647) c)

-- the greater of 0 and a signed number
abbrev pub above : ℤ → ℕ
above (pos k) = k
above (negsuc k) = 0

-- max(0, floor(f / 2) - c), less one inside the max if f is even
unfoldable pub left_pad : ℕ → ℤ → ℕ
left_pad f c = above (pos (f / 2) -ℤ c -ℤ pos (1 - f % 2))

-- max(0, f - left)
abbrev pub right_pad : ℕ → ℤ → ℕ
right_pad f c = f - left_pad f c

-- the scratch that convolution needs
abbrev pub needed : ℕ → ℕ → ℤ → ℕ
needed n f c = n + left_pad f c + right_pad f c

-- a pad is over n - 2, with n above 1
unfoldable pub pad_over : ℕ → ℕ → ℕ → Bool
pad_over n left right = ltb 1 n && (ltb n (left + 2) || ltb n (right + 2))

-- and the border is Reflect101
abbrev pub too_far : Border → ℕ → ℕ → ℕ → Bool
too_far b n left right = pad_over n left right && eqb (number_of b) (number_of Reflect101)

-- a centre by its sign: `Before k` is -(k + 1)
abbrev pub centre_of : Place → ℤ
centre_of (Before k) = negsuc k
centre_of (At c) = pos c
