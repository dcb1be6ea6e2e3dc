-- What `bands` prints: the bits of floats, bands, and refusals. Definitions only.
use Rattle.std.specs.Prelude.{cond, List, [], ◌∷◌, ◌++◌, ℕ, zero, suc, ◌+◌, ◌/◌, ◌%◌, ltb, length, Float}
use Rattle.std.specs.Float.{binary64}
use Rattle.std.specs.Float.Ieee.{to_bits}
use Rattle.texts.specs.Texts.{newline, space, decimal}

-- a hex digit below 16, in upper case
abbrev pub hex_digit : ℕ → ℕ
hex_digit d = cond (ltb d 10) (48 + d) (55 + d)

-- the last k hex digits of n
unfoldable pub hex_of : ℕ → ℕ → List ℕ
hex_of zero n = []
hex_of (suc k) n = hex_of k (n / 16) ++ (hex_digit (n % 16) ∷ [])

-- a float: the 16 digits of its bits
abbrev pub bits_text : Float → List ℕ
bits_text x = hex_of 16 (to_bits binary64 x)

-- floats, a line each
abbrev pub floats_text : List Float → List ℕ
floats_text [] = []
floats_text (x ∷ l) = bits_text x ++ (newline ∷ floats_text l)

-- a word, a number, and the end of the line
abbrev pub head_text : List ℕ → ℕ → List ℕ
head_text word n = word ++ (space ∷ (decimal n ++ (newline ∷ [])))

abbrev pub band_text : List ℕ → List Float → List ℕ
band_text word band = head_text word (length band) ++ floats_text band

-- the words of the output: approx, detail, refused
abbrev pub approx_word : List ℕ
approx_word = 97 ∷ 112 ∷ 112 ∷ 114 ∷ 111 ∷ 120 ∷ []

abbrev pub detail_word : List ℕ
detail_word = 100 ∷ 101 ∷ 116 ∷ 97 ∷ 105 ∷ 108 ∷ []

abbrev pub refused_word : List ℕ
refused_word = 114 ∷ 101 ∷ 102 ∷ 117 ∷ 115 ∷ 101 ∷ 100 ∷ []

abbrev pub bands_text : List Float → List Float → List ℕ
bands_text approx detail = band_text approx_word approx ++ band_text detail_word detail

abbrev pub refusal_text : ℕ → List ℕ
refusal_text number = head_text refused_word number
