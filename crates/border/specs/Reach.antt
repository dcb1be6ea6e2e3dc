-- What may be asked of the border rule, the ways that borders go on beyond a line, and where a padded line fits. Definitions only.
use Rattle.std.specs.Prelude.{◌≡◌, cond, ◌⊎◌, List, ℕ, ◌+◌, ◌-◌, ◌*◌, ◌≤◌, ◌<◌, eqb, take, drop, Float}
use Rattle.numbers.specs.Words.{longest, plus_zero, at, replaced}
use Rattle.border.specs.declared.Border.{Border}
use Rattle.border.specs.declared.Border.TheVariants.{Reflect101}
use Rattle.border.specs.declared.rule.Place.{Place}
use Rattle.border.specs.declared.rule.Place.TheVariants.{Before, At}
use Rattle.border.specs.declared.rule.Way.{Way}
use Rattle.border.specs.declared.rule.Way.TheVariants.{Ends, Nothing, Laps}
use Rattle.border.specs.Rule.{Source, Sample, Zero, nearest, modulo, turned, outside, place_in, padded}

-- at most n - 2 places past either end: as far as Reflect101 goes
abbrev pub Near : Place → ℕ → Type 0
Near (Before k) n = k + 3 ≤ n
Near (At i) n = i + 3 ≤ 2 * n

-- outside the line
abbrev pub Past : Place → ℕ → Type 0
Past (Before k) n = 0 < n
Past (At i) n = n ≤ i

-- the place may be asked for
pub record Reach (b : Border) (p : Place) (n : ℕ) : Type 0 where
  pub some : 0 < n
  pub few : n ≤ longest
  pub near : b ≡ Reflect101 → 1 < n → Near p n

-- what stands beyond n samples, the way they go on
abbrev pub along : Way → Place → ℕ → Source
along Ends p n = Sample (nearest p n)
along Nothing p n = Zero
along (Laps period turn top) p n = Sample (turned turn top (modulo p period))

-- how many places a lap has that goes `turn` there and `back` back, and leaves out as many at either end as `once` says
abbrev pub period_of : ℕ → ℕ → ℕ → ℕ
period_of turn back once = turn + back - 2 * once

-- such laps over n samples; one sample repeats itself
abbrev pub laps_of : ℕ → ℕ → ℕ → ℕ → Way
laps_of n turn back once = cond (eqb n 1) Ends (Laps (period_of turn back once) turn (period_of turn back once + once - 1))

-- they may be asked for
pub record Lap (n turn back once : ℕ) : Type 0 where
  pub there : turn ≤ n
  pub down : back ≤ n
  pub few : n ≤ longest
  pub end : once ≤ 1
  pub some : (n ≡ 1 → ⊥) → 2 * once < turn + back

-- laps over n samples: each of their places is a sample
pub record Lapped (n period turn top : ℕ) : Type 0 where
  pub some : 0 < period
  pub few : period ≤ 2 * longest
  pub whole : period ≤ top + 1
  pub there : turn ≤ n
  pub back : top < turn + n

abbrev pub Sound : Way → ℕ → Type 0
Sound Ends n = 0 < n
Sound Nothing n = 0 < n
Sound (Laps period turn top) n = Lapped n period turn top

-- that way a border goes on beyond n samples
pub record Goes (b : Border) (n : ℕ) (w : Way) : Type 0 where
  pub sound : Sound w n
  pub same : (p : Place) → Past p n → Reach b p n → outside b p n ≡ along w p n

-- a lap is no shorter than its line
abbrev pub Long : Way → ℕ → Type 0
Long Ends n = 0 < n
Long Nothing n = 0 < n
Long (Laps period turn top) n = n ≤ period

-- n samples can be padded by `left` places in front and `right` behind
pub record Paddable (b : Border) (n left right : ℕ) : Type 0 where
  pub some : 0 < n
  pub few : n ≤ longest
  pub near : b ≡ Reflect101 → 1 < n → (left + 2 ≤ n) × (right + 2 ≤ n)

-- n samples are in place from `left` on in a list of `len`: `count` places from `from` on, apart from them, can be filled
pub record Fillable (b : Border) (n len left from count : ℕ) : Type 0 where
  pub some : 0 < n
  pub few : n ≤ longest
  pub line : left + n ≤ len
  pub room : from + count ≤ len
  pub apart : (from + count ≤ left) ⊎ (left + n ≤ from)
  pub near : b ≡ Reflect101 → 1 < n → (left + 2 ≤ n + from) × (from + count + 2 ≤ left + 2 * n)

-- those places, filled
abbrev pub filled : Border → ℕ → ℕ → ℕ → ℕ → List Float → List Float
filled b left n from count x = replaced (padded plus_zero b (take n (drop left x)) left) from count x

-- n samples are in place from `left` on in a list of `len`: `count` places from `from` on, apart from them, can be walked over
pub record Walkable (n len left from count period turn top : ℕ) : Type 0 where
  pub laps : Lapped n period turn top
  pub line : left + n ≤ len
  pub room : from + count ≤ len
  pub apart : (from + count ≤ left) ⊎ (left + n ≤ from)

-- what such a walk puts at place q
abbrev pub lap_at : ℕ → ℕ → ℕ → ℕ → List Float → ℕ → Float
lap_at left period turn top x q = at x (left + turned turn top (modulo (place_in left q) period))

-- n numbers from `from` on can go to the n places from `to` on, within a list of `len`
pub record Movable (len from n to : ℕ) : Type 0 where
  pub line : from + n ≤ len
  pub room : to + n ≤ len
  pub apart : (to + n ≤ from) ⊎ (from + n ≤ to)

-- the padded line of those numbers fits into the same list, from `to` on and apart from them
pub record PaddableWithin (b : Border) (len from n to left right : ℕ) : Type 0 where
  pub pads : Paddable b n left right
  pub line : from + n ≤ len
  pub room : to + (left + n + right) ≤ len
  pub apart : (to + (left + n + right) ≤ from) ⊎ (from + n ≤ to)
