-- Laws of the tests and of the whole: an answer is done where every test passed, which gives each part of the work what it asks for, and the parts together are the four bands.
use Rattle.std.specs.Prelude.{◌≡◌, refl, ℕ, ◌+◌, ◌*◌, ◌≤◌, ltb, length, drop, Ok, Float, List}
use Rattle.std.proofs.Common.{ap, sym, ◌∙◌, mul_comm, arith, ltb-false, lit<}
use Rattle.std.specs.Float.{Format}
use Rattle.numbers.specs.Tests.{passed}
use Rattle.numbers.specs.Places.{drop_further}
use Rattle.border.specs.declared.Border.{Border}
use Rattle.bank.specs.Lengths.{pairs, padded_length}
use Rattle.planes.specs.Lengths.{band_length, plane_scratch}
use Rattle.planes.specs.Answers.{number_of, held_of}
use Rattle.planes.specs.Tested.{both_done, held_done, bands_done}
use Rattle.tables.specs.Tables.{crossed}
use Rattle.tables.specs.Works.{Crossable}
use Rattle.tables.specs.Crosses.{crossed_behind}
use Rattle.plane_analysis.specs.Analyses.{answer_of}
use Rattle.plane_analysis.specs.Works.{line_bands, Rowing, Rowed, Columning, Still, Analysing, Split}
use Rattle.plane_analysis.specs.Steps.{area_halves, low_bands, high_bands}

pub analysing : (w h f p s ll lh hl hh : ℕ) → answer_of w h f p s ll lh hl hh ≡ Ok tt → Analysing w h f p s ll lh hl hh
unfolding answer_of
analysing w h f p s ll lh hl hh e =
    let q = both_done (held_of w h f p s) _ e in
    let t = passed number_of (ltb w f) q.1 (lit< tt) refl in
    let u = passed number_of (ltb h f) t.1 (lit< tt) refl in
    record {
      held = held_done w h f p s q.0;
      wide = ltb-false w f t.0;
      high = ltb-false h f u.0;
      bands = bands_done (band_length w h f) ll lh hl hh u.1;
    }

-- ---- the parts of the work, in a scratch of s: rows from its front, their crossing, and from `start` on a padded line
module _ {w h f p s ll lh hl hh : ℕ} (a : Analysing w h f p s ll lh hl hh) (m : ℕ) (em : m ≡ pairs w f) where
  abbrev start : ℕ
  start = h * (m + m) + h * (m + m)

  four : start ≡ 4 * (pairs w f * h)
  four = omega (arith, area_halves h m, ap (λ (k : ℕ). k * h) em)

  pub room : (start + padded_length w f ≤ s) × (start + padded_length h f ≤ s)
  room = (omega (arith, four, a.held.room), omega (arith, four, a.held.room))

  pub rowing : Rowing f w h m p s start
  rowing = record {
    ready = record { taps = a.held.sides.taps; limit = a.held.sides.across; enough = a.wide };
    filled = a.held.filled ∙ mul_comm w h;
    many = em;
    before = omega arith;
    room = room.0;
  }

  pub crossable : {s' : ℕ} → s' ≡ s → Crossable s' h (m + m)
  crossable e = record { tall = a.held.sides.high; wide = omega (arith, a.held.sides.taps.two, a.held.sides.wide); room = omega (arith, e, room) }

  pub columning : (base : ℕ) {s' lo hi : ℕ} → base + m * h ≤ start → s' ≡ s → lo ≡ band_length w h f → hi ≡ band_length w h f → Columning f base m h start s' lo hi
  columning base before e lows highs = record {
    ready = record { taps = a.held.sides.taps; limit = a.held.sides.down; enough = a.high };
    lows = lows ∙ columns;
    highs = highs ∙ columns;
    before = before;
    room = omega (arith, e, room);
  }
    where
      columns : band_length w h f ≡ m * pairs h f
      columns = ap (λ (k : ℕ). k * pairs h f) (sym em)

  -- all of it: rows, their crossing, and the columns of either half of it
  module _ (g : Format) (low high : List Float) (b : Border) (plane x s₁ s₂ s₃ s₄ bll blh bhl bhh : List Float) (ep : length plane ≡ p) (ex : length x ≡ s)
      (r : Rowed g low high f b plane w h m (start + padded_length w f) x s₁) (c : s₂ ≡ crossed h (m + m) s₁) (long : length s₂ ≡ length s₁)
      (t : Still start (start + padded_length h f) s₂ s₃) (u : Still start (start + padded_length h f) s₃ s₄) where
    w₁ : Crossable (length s₁) h (m + m)
    w₁ = crossable (r.long ∙ ex)

    filled : length plane ≡ h * w
    filled = ep ∙ a.held.filled ∙ mul_comm w h

    -- what lies beyond the need is touched by none of them
    far : drop (plane_scratch w h f) s₄ ≡ drop (plane_scratch w h f) x
    far =
        drop_further (start + padded_length h f) (plane_scratch w h f) s₄ s₂ (omega (arith, four)) (u.beyond ∙ t.beyond)
        ∙ drop_further start (plane_scratch w h f) s₂ s₁ (omega (arith, four)) (ap (drop start) c ∙ crossed_behind h (m + m) s₁ w₁)
        ∙ drop_further (start + padded_length w f) (plane_scratch w h f) s₁ x (omega (arith, four)) r.beyond

    pub split : bll ≡ line_bands g low f b (h * (m + m)) m h s₂ → blh ≡ line_bands g high f b (h * (m + m)) m h s₂
        → bhl ≡ line_bands g low f b (h * (m + m) + m * h) m h s₃ → bhh ≡ line_bands g high f b (h * (m + m) + m * h) m h s₃
        → Split g low high f b plane w h x bll blh bhl bhh s₄
    split e₁ e₂ e₃ e₄ = record {
      lls = e₁ ∙ low_bands g low high f b plane w h m em filled s₁ s₂ s₂ r.front w₁ c refl refl low;
      lhs = e₂ ∙ low_bands g low high f b plane w h m em filled s₁ s₂ s₂ r.front w₁ c refl refl high;
      hls = e₃ ∙ high_bands g low high f b plane w h m em filled s₁ s₂ s₃ r.front w₁ c t.long t.front low;
      hhs = e₄ ∙ high_bands g low high f b plane w h m em filled s₁ s₂ s₃ r.front w₁ c t.long t.front high;
      long = u.long ∙ t.long ∙ long ∙ r.long;
      beyond = far;
    }
