-- Laws of the tests and of the whole: an answer is done where every test passed, which gives each part of the work what it asks for, and the parts together are the plane.
use Rattle.std.specs.Prelude.{◌≡◌, refl, not, List, ◌++◌, ℕ, ◌+◌, ◌-◌, ◌*◌, ◌%◌, ◌≤◌, eqb, length, take, drop, Ok, Float}
use Rattle.std.proofs.Common.{sym, ◌∙◌, append_assoc, mul_comm, arith, eqb-true, lit<, length-append, take_at, drop_at, drop-drop}
use Rattle.std.proofs.Math.Path.{ap}
use Rattle.std.proofs.Math.Nat.{add-mul}
use Rattle.std.proofs.lemmas.Bool.{not-false}
use borrow.Rule.Slice.PartMut.{put_mid}
use Rattle.std.specs.Float.{Format}
use Rattle.numbers.specs.Tests.{passed}
use Rattle.numbers.specs.Places.{drop_further}
use Rattle.bank.specs.Lengths.{pairs, line_length, GoodTaps}
use Rattle.synthesis.specs.Lines.{join_of}
use Rattle.synthesis.specs.Runs.{length_join}
use Rattle.planes.specs.Lengths.{band_length, plane_scratch}
use Rattle.planes.specs.Answers.{number_of, held_of, bands_of}
use Rattle.planes.specs.Tested.{both_done, held_done, bands_done}
use Rattle.tables.specs.Tables.{stored, crossing, crossed}
use Rattle.tables.specs.Works.{Crossable}
use Rattle.tables.specs.Stored.{length-stored}
use Rattle.tables.specs.Crosses.{crossed_behind}
use Rattle.plane_synthesis.specs.Joins.{column_join, plane_joined}
use Rattle.plane_synthesis.specs.Syntheses.{sides_of, answer_of}
use Rattle.plane_synthesis.specs.Works.{Columning, Rowing, row_held, Synthesising, Joined}
use Rattle.plane_synthesis.specs.Steps.{rows_joined}

-- a side that synthesis gives is even
even_side : (n f : ℕ) → GoodTaps f → n ≡ line_length (pairs n f) f → n % 2 ≡ 0
even_side n f t e = omega (arith, e, t.even, t.two)

pub synthesising : (w h f p s ll lh hl hh : ℕ) → answer_of w h f p s ll lh hl hh ≡ Ok tt → Synthesising w h f p s ll lh hl hh
unfolding answer_of
synthesising w h f p s ll lh hl hh e =
    let q = both_done _ (sides_of w h f) e in
    let k = both_done (held_of w h f p s) (bands_of (band_length w h f) ll lh hl hh) q.0 in
    let t = passed number_of (not (eqb h (line_length (pairs h f) f))) q.1 (lit< tt) refl in
    let u = passed number_of (not (eqb w (line_length (pairs w f) f))) t.1 (lit< tt) refl in
    let held = held_done w h f p s k.0 in
    record {
      held = held;
      bands = bands_done (band_length w h f) ll lh hl hh k.1;
      even = record {
        sides = held.sides;
        wide = even_side w f held.sides.taps (eqb-true w (line_length (pairs w f) f) (not-false _ u.0));
        high = even_side h f held.sides.taps (eqb-true h (line_length (pairs h f) f) (not-false _ t.0));
      };
    }

-- ---- the parts of the work, in a scratch of s: the columns of either half from its front, and their crossing
module _ {w h f p s ll lh hl hh : ℕ} (a : Synthesising w h f p s ll lh hl hh) (m : ℕ) (em : m ≡ pairs w f) where
  half : m * h ≡ pairs w f * h
  half = ap (λ (k : ℕ). k * h) em

  pub room : m * h + m * h + (m * h + m * h) ≤ s
  room = omega (arith, half, a.held.room)

  pub columning : {lo hi out : ℕ} → lo ≡ band_length w h f → hi ≡ band_length w h f → out ≡ m * h → Columning w h f lo hi out
  columning lows highs outs = record { even = a.even; lows = lows; highs = highs; filled = outs ∙ half }

  pub crossable : {s' : ℕ} → s' ≡ s → Crossable s' (m + m) h
  crossable e = record { tall = omega (arith, em, a.held.sides.taps.two, a.held.sides.wide); wide = a.held.sides.high; room = omega (arith, e, room, add-mul m m h) }

  pub rowing : {bands out : ℕ} → bands ≡ m * h + m * h → out ≡ p → Rowing w h f bands out
  rowing held out = record { even = a.even; held = held ∙ omega (arith, add-mul m m h, mul_comm (m + m) h) ∙ ap (λ (k : ℕ). h * (k + k)) em; filled = out ∙ a.held.filled }

  -- all of it: s₂ has the columns of either half, t their crossing as well, and the rows are read there
  module _ (g : Format) (low high bll blh bhl bhh x s₁ s₂ y t : List Float) (ex : length x ≡ s)
      (e₁ : s₁ ≡ stored (column_join g f low high h bll blh) (pairs w f) ++ drop (m * h) x) (ey : y ≡ stored (column_join g f low high h bhl bhh) (pairs w f))
      (e₂ : s₂ ≡ put_mid (m * h) (m * h + m * h - m * h) s₁ y) (long : length s₂ ≡ length x) (et : t ≡ crossed (m + m) h s₂) (lt : length t ≡ length s₂) where
    abbrev cl : ℕ → List Float
    cl = column_join g f low high h bll blh

    abbrev ch : ℕ → List Float
    ch = column_join g f low high h bhl bhh

    length_half : (b b' : List Float) → length (stored (column_join g f low high h b b') m) ≡ m * h
    length_half b b' = length-stored (column_join g f low high h b b') h m (λ c q. length_join g f low high h _ _)

    halves : s₂ ≡ stored cl m ++ (stored ch m ++ drop (m * h + m * h) x)
    halves =
        e₂
        ∙ ap (λ (n : ℕ). put_mid (m * h) n s₁ y) (let z : m * h + m * h - m * h ≡ m * h = omega arith in z)
        ∙ ap (λ (l : List Float). take (m * h) l ++ (y ++ drop (m * h) (drop (m * h) l))) (e₁ ∙ ap (λ (k : ℕ). stored cl k ++ drop (m * h) x) (sym em))
        ∙ ap (λ (l : List Float). l ++ (y ++ drop (m * h) (drop (m * h) (stored cl m ++ drop (m * h) x)))) (take_at (stored cl m) (drop (m * h) x) (m * h) (length_half bll blh))
        ∙ ap (λ (l : List Float). stored cl m ++ (y ++ drop (m * h) l)) (drop_at (stored cl m) (drop (m * h) x) (m * h) (length_half bll blh))
        ∙ ap (λ (l : List Float). stored cl m ++ (y ++ l)) (drop-drop (m * h) (m * h) x)
        ∙ ap (λ (l : List Float). stored cl m ++ (l ++ drop (m * h + m * h) x)) (ey ∙ ap (stored ch) (sym em))

    w₂ : Crossable (length s₂) (m + m) h
    w₂ = crossable (long ∙ ex)

    rest : drop (m * h + m * h) s₂ ≡ drop (m * h + m * h) x
    rest =
        ap (drop (m * h + m * h)) (halves ∙ sym (append_assoc (stored cl m) (stored ch m) (drop (m * h + m * h) x)))
        ∙ drop_at (stored cl m ++ stored ch m) (drop (m * h + m * h) x) (m * h + m * h) (length-append (stored cl m) (stored ch m) ∙ omega (arith, length_half bll blh, length_half bhl bhh))

    far : drop (plane_scratch w h f) t ≡ drop (plane_scratch w h f) x
    far =
        drop_further ((m + m) * h + (m + m) * h) (plane_scratch w h f) t s₂ (omega (arith, half, add-mul m m h)) (ap (drop ((m + m) * h + (m + m) * h)) et ∙ crossed_behind (m + m) h s₂ w₂)
        ∙ drop_further (m * h + m * h) (plane_scratch w h f) s₂ x (omega (arith, half)) rest

    pub joined : {plane : List Float} (n : ℕ) → n ≡ m * h + m * h → plane ≡ stored (row_held g f low high w (pairs w f) (take n (drop (m * h + m * h) t))) h
        → Joined g f low high w h bll blh bhl bhh x plane t
    unfolding plane_joined
    joined n en e = record {
      joined = e
          ∙ ap (λ (k : ℕ). stored (row_held g f low high w k (take n (drop (m * h + m * h) t))) h) (sym em)
          ∙ ap (λ (k : ℕ). stored (row_held g f low high w m (take n (drop k t))) h) (sym (add-mul m m h))
          ∙ rows_joined cl ch m h (λ c. length_join g f low high h _ _) (λ c. length_join g f low high h _ _) s₂ t (drop (m * h + m * h) x) halves w₂ et g f low high w n (omega (arith, en, add-mul m m h))
          ∙ ap (λ (k : ℕ). stored (λ r. join_of g f low high w (crossing cl k r) (crossing ch k r)) h) em;
      long = lt ∙ long;
      beyond = far;
    }
