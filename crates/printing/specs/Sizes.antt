-- Laws of texts: how long each is at most, and that floats come a line after a line.
use Rattle.std.specs.Prelude.{◌≡◌, refl, Bool, true, false, cond, List, [], ◌∷◌, ◌++◌, ℕ, zero, suc, ◌+◌, ◌*◌, ◌/◌, ◌%◌, ◌≤◌, ◌<◌, ltb, length, get_or, take, Float}
use Rattle.std.proofs.Common.{sym, ap, ◌∙◌, append_assoc, add-one, arith, length-append, take-suc}
use Rattle.std.specs.Float.{nan, binary64}
use Rattle.std.specs.Float.Ieee.{to_bits}
use Rattle.texts.specs.Texts.{newline, digit, digits_of, decimal}
use Rattle.texts.specs.Prints.{hex_digit, hex_of, bits_text, floats_text}
use Rattle.printing.specs.Printings.{count_text}

length_hex : (k n : ℕ) → length (hex_of k n) ≡ k
unfolding hex_of
length_hex zero n = refl
length_hex (suc k) n = omega (arith, length-append (hex_of k (n / 16)) (hex_digit (n % 16) ∷ []), length_hex k (n / 16))

length_bits : (x : Float) → length (bits_text x) ≡ 16
length_bits x = length_hex 16 (to_bits binary64 x)

length_digits : (k n : ℕ) → length (digits_of k n) ≤ k
unfolding digits_of
length_digits zero n = omega arith
length_digits (suc k) n = go (ltb n 10) (length_digits k (n / 10))
  where
    go : (t : Bool) → length (digits_of k (n / 10)) ≤ k → length (cond t (digit n ∷ []) (digits_of k (n / 10) ++ (digit (n % 10) ∷ []))) ≤ suc k
    go true h = omega arith
    go false h = omega (arith, length-append (digits_of k (n / 10)) (digit (n % 10) ∷ []))

length-decimal : (n : ℕ) → length (decimal n) ≤ 20
length-decimal n = length_digits 20 n

pub length-line : (n : ℕ) → length (decimal n ++ (newline ∷ [])) ≤ 21
length-line n = omega (arith, length-append (decimal n) (newline ∷ []), length-decimal n)

-- one float more
floats_snoc : (l : List Float) (x : Float) → floats_text (l ++ (x ∷ [])) ≡ floats_text l ++ (bits_text x ++ (newline ∷ []))
floats_snoc [] x = refl
floats_snoc (y ∷ l) x =
    ap (λ (t : List ℕ). bits_text y ++ (newline ∷ t)) (floats_snoc l x)
    ∙ sym (append_assoc (bits_text y) (newline ∷ floats_text l) (bits_text x ++ (newline ∷ [])))

pub floats_more : (l : List Float) (i : ℕ) → i < length l → floats_text (take (i + 1) l) ≡ floats_text (take i l) ++ (bits_text (get_or l i nan) ++ (newline ∷ []))
floats_more l i h = ap (λ (k : ℕ). floats_text (take k l)) (add-one i) ∙ ap floats_text (take-suc l i nan h) ∙ floats_snoc (take i l) (get_or l i nan)

pub length-floats : (l : List Float) → length (floats_text l) ≡ 17 * length l
length-floats [] = refl
length-floats (x ∷ l) = omega (arith, length-append (bits_text x) (newline ∷ floats_text l), length_bits x, length-floats l)

pub length-count : (word : List ℕ) (n : ℕ) → length (count_text word n) ≤ length word + 21
length-count word n = omega (arith, length-append word (decimal n ++ (newline ∷ [])), length-line n)

pub length-band : (word : List ℕ) (l : List Float) → length (count_text word (length l) ++ floats_text l) ≤ length word + 21 + 17 * length l
length-band word l = omega (arith, length-append (count_text word (length l)) (floats_text l), length-count word (length l), length-floats l)
