-- Laws of the room that an answer needs: where a buffer holds a refusal and whatever is said of two bands, nothing but the whole text is answered, since a readable text has few numbers; `roomiest` bytes hold both bands.
use Rattle.std.specs.Prelude.{◌≡◌, refl, false, ◌⊎◌, List, [], ◌∷◌, ◌++◌, ℕ, zero, suc, ◌+◌, ◌*◌, ◌≤◌, ltb, length, Result, Ok, Float}
use Rattle.std.proofs.Common.{sym, ◌∙◌, subst, inl, inr, arith, le-ltb, length-append}
use Rattle.std.specs.Float.{binary64}
use Rattle.numbers.specs.Words.{when_done}
use Rattle.numbers.specs.Tests.{cond_false}
use Rattle.whole.specs.Floats.{floats}
use Rattle.border.specs.declared.Border.{Border}
use Rattle.analysis.specs.Lines.{band}
use Rattle.analysis.specs.Taps.{length-band}
use Rattle.texts.specs.Texts.{newline, space, decimal, Request, Stands}
use Rattle.texts.specs.Prints.{floats_text, head_text, band_text, bands_text, refusal_text, refused_word, approx_word, detail_word}
use Rattle.parsing.specs.Decides.{Asked}
use Rattle.parsing.specs.Unique.{decide}
use Rattle.printing.specs.declared.PrintError.{PrintError}
use Rattle.printing.specs.Printings.{Printed}
use Rattle.printing.specs.Sizes as Printed
use Rattle.answering.specs.Answers.{most_numbers, most_pairs, roomiest, size_in, refusal_of, both_text, said_text, TextSaid, TextAnswered}
use Rattle.answering.specs.Answering.{few_samples}
use Rattle.answering.specs.Asking.{unrefused}

pub length_head : (word : List ℕ) (n : ℕ) → length (head_text word n) ≤ length word + 22
length_head word n = omega (arith, length-append word (space ∷ (decimal n ++ (newline ∷ []))), Printed.length-line n)

length-band_text : (word : List ℕ) (l : List Float) → length (band_text word l) ≤ length word + 22 + 17 * length l
length-band_text word l = omega (arith, length-append (head_text word (length l)) (floats_text l), length_head word (length l), Printed.length-floats l)

length-bands : (a d : List Float) (m : ℕ) → length a ≤ m → length d ≤ m → length (bands_text a d) ≤ 56 + 34 * m
length-bands a d m h k = omega (arith, length-append (band_text approx_word a) (band_text detail_word d), length-band_text approx_word a, length-band_text detail_word d)

length_refusal : (k : ℕ) → length (refusal_text k) ≤ 29
length_refusal k = omega (arith, length_head refused_word k)

-- ---- of a program that says something of two bands
-- bytes that hold a refusal, and what is said of any text's bands
pub record Fits (say : List Float → List Float → List ℕ) (room : ℕ) : Type 0 where
  pub refusals : 29 ≤ room
  pub bands : (a d : List Float) → length a ≤ most_pairs → length d ≤ most_pairs → length (say a d) ≤ room

module _ {say : List Float → List Float → List ℕ} {room : ℕ} (f : Fits say room) where
  -- the answer to lists of few samples
  fits : (b : Border) (low high line : List Float) → length line ≤ most_numbers → length (said_text say b low high line) ≤ room
  fits b low high line short = go (refusal_of (length low) (length high) (length line)) refl
    where
      go : (k : ℕ) → refusal_of (length low) (length high) (length line) ≡ k → length (when_done k (both_text say low high (length low) b line) (refusal_text k)) ≤ room
      go zero e =
          let most = (unrefused (length low) (length high) (length line) e).taps.most in
          let a = length-band binary64 low (length low) b line in
          let d = length-band binary64 high (length low) b line in
          f.bands (band binary64 low (length low) b line) (band binary64 high (length low) b line) (omega (arith, a)) (omega (arith, d))
      go (suc k) e = omega (arith, length_refusal (suc k), f.refusals)

  -- with that room the answer is done
  always : {t out : List ℕ} {r : Result ℕ PrintError} {out' : List ℕ} → Printed false t out r out' → length t ≤ room → room ≤ length out → r ≡ Ok (length t)
  always {t = t} {out} p h k = p.answer ∙ cond_false (ltb (length out) (length t)) _ _ (le-ltb (length out) (length t) (omega arith))

  pub said_whole : {text out : List ℕ} {r : Result ℕ PrintError} {out' : List ℕ} → TextSaid say text out r out' → room ≤ length out → (k : ℕ) × (r ≡ Ok k) × (k ≤ length out)
  said_whole {text} {out} {r} {out'} p large = go (decide text)
    where
      done : {t : List ℕ} → Printed false t out r out' → length t ≤ room → (k : ℕ) × (r ≡ Ok k) × (k ≤ length out)
      done {t} w h = (length t, always w h large, omega (arith, h, large))

      go : Asked text ⊎ ((q : Request) → Stands q text → ⊥) → (k : ℕ) × (r ≡ Ok k) × (k ≤ length out)
      go (inl a) =
          let q = a.request in
          done (p.request q a.stands) (fits q.border (floats binary64 q.low) (floats binary64 q.high) (floats binary64 q.samples) (few_samples q text a.stands))
      go (inr g) = done (p.unreadable g) (omega (arith, length_refusal 14, f.refusals))

  -- so what is answered is a part of the buffer
  pub said_part : {text out : List ℕ} {r : Result ℕ PrintError} {out' : List ℕ} → TextSaid say text out r out' → room ≤ length out → size_in r ≤ length out
  said_part {out = out} p large = let w = said_whole p large in subst (λ (k : Result ℕ PrintError). size_in k ≤ length out) (sym w.1) w.2

-- ---- `bands`
bands_fit : Fits bands_text roomiest
bands_fit = record {
  refusals = omega arith;
  bands = λ a d h k. omega (arith, length-bands a d most_pairs h k);
}

pub printed_whole : {text out : List ℕ} {r : Result ℕ PrintError} {out' : List ℕ} → TextAnswered text out r out' → roomiest ≤ length out → (k : ℕ) × (r ≡ Ok k) × (k ≤ length out)
printed_whole p large = said_whole bands_fit p large

pub printed_part : {text out : List ℕ} {r : Result ℕ PrintError} {out' : List ℕ} → TextAnswered text out r out' → roomiest ≤ length out → size_in r ≤ length out
printed_part p large = said_part bands_fit p large
