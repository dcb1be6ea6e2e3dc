-- Laws of the part handed out, whatever is done to a joined line: none on a refusal, else the front of the buffer that holds the line.
use Rattle.std.specs.Prelude.{◌≡◌, Bool, cond, List, [], eqb, length, take, Float}
use Rattle.std.proofs.Math.Path.{refl, ap}
use Rattle.std.proofs.Common.{sym, ◌∙◌, arith}
use Prim.Native.Nat.{ℕ, zero, suc, ◌-◌, ◌%◌, ◌<◌}
use Rattle.std.specs.Float.{Format}
use Rattle.std.specs.Float.Ieee.{binary64}
use Rattle.std.specs.Borrow.{MutBor}
use Rattle.numbers.specs.Words.{when_done}
use Rattle.numbers.specs.Tests.{kept}
use Rattle.bank.specs.Lengths.{line_length}
use Rattle.synthesis.specs.Runs.{length_join}
use Rattle.packed.specs.Lengths.{levels_of, line_after, restoring_length}
use Rattle.packed.specs.Answers.{part_at}
use Rattle.packed.specs.Tested.{first_line}
use Rattle.packed.specs.Follow.{length_part, whole_length}
use Rattle.restoring.specs.Lines.{joined_by, first_by, second_by}
use Rattle.restoring.specs.Joins.{whole_front}
use Rattle.restoring.specs.Works.{Restoring, Fronted}

-- the whole line has the first level's synthesis length, whatever is done to a joined line that keeps its length
pub length-joined : (done : List Float → List Float) (g : Format) (low high packed : List Float) (n F levels p a b : ℕ) → ((l : List Float) → length (done l) ≡ length l)
    → Restoring n F levels p a b → length packed ≡ p → length (joined_by done g F low high packed n levels levels) ≡ restoring_length n F
unfolding joined_by line_after
length-joined done g low high packed n F zero p a b long w e = absurd (omega (arith, w.packs.some))
length-joined done g low high packed n F (suc j) p a b long w e =
    let one : suc j - j ≡ 1 = omega arith in
    long _
    ∙ length_join g F low high _ _ (part_at n F (suc j) packed (suc j - j))
    ∙ ap (λ (k : ℕ). line_length (length (part_at n F (suc j) packed k)) F) one
    ∙ ap (λ (m : ℕ). line_length m F) (length_part n F (suc j) 1 packed w.packs.sound.taps.two (omega arith) (e ∙ whole_length w.packs))

-- ---- the part handed out, by the answer's number: none on a refusal, else the front of the buffer that holds the line
abbrev pub Out : ℕ → List Float → ℕ → MutBor (List Float) → MutBor (List Float) → List Float → ℕ × ℕ → Type 0
Out number line levels first second part lies =
    (part ≡ when_done number line []) × (lies ≡ when_done number (cond (eqb (levels_of levels % 2) 0) second.ref_ptr first.ref_ptr) first.ref_ptr)

pub none_out : (number : ℕ) (line : List Float) (levels : ℕ) (first second : MutBor (List Float)) → 0 < number → Out number line levels first second [] first.ref_ptr
none_out number line levels first second h = (kept number h line [], kept number h _ _)

module _ (done : List Float → List Float) (long : (l : List Float) → length (done l) ≡ length l) (low high : List Float) (f : ℕ) (packed : List Float) (n levels : ℕ)
    (first second : MutBor (List Float)) {first' second' : List Float} (all : Restoring n f (levels_of levels) (length packed) (length first.now) (length second.now))
    (firsts : first' ≡ first_by done binary64 f low high packed n (levels_of levels) (levels_of levels) first.now)
    (seconds : second' ≡ second_by done binary64 f low high packed n (levels_of levels) (levels_of levels) second.now) where
  abbrev even : Bool
  even = eqb (levels_of levels % 2) 0

  abbrev line : List Float
  line = joined_by done binary64 f low high packed n (levels_of levels) (levels_of levels)

  -- the front of the buffer that holds the line is the line
  pub front_line : take (restoring_length n f) (cond even second' first') ≡ line
  front_line =
      ap (λ (l : List Float). take (restoring_length n f) (cond even l first')) seconds
      ∙ ap (λ (l : List Float). take (restoring_length n f) (cond even (second_by done binary64 f low high packed n (levels_of levels) (levels_of levels) second.now) l)) firsts
      ∙ whole_front done binary64 f low high packed n (levels_of levels) (restoring_length n f) first.now second.now all.packs.some
      (sym (length-joined done binary64 low high packed n f (levels_of levels) _ _ _ long all refl))

  pub line_out : {number : ℕ} {part : List Float} {lies : ℕ × ℕ} → number ≡ 0 → part ≡ take (restoring_length n f) (cond even second' first') → lies ≡ cond even second.ref_ptr first.ref_ptr
      → Out number line levels first second part lies
  line_out z e q = (e ∙ front_line ∙ sym (ap (λ (k : ℕ). when_done k line []) z), q ∙ sym (ap (λ (k : ℕ). when_done k (cond even second.ref_ptr first.ref_ptr) first.ref_ptr) z))

-- the work buffers have room for it
pub fronted : {n f p a b : ℕ} (levels : ℕ) → Restoring n f (levels_of levels) p a b → Fronted n f a b
fronted levels w = record { ready = first_line {levels = levels} (record { sound = w.packs.sound; long = w.packs.long }); room = w.room; space = w.space }
