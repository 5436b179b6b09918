-- Turns and when two of them conflict (document 01: turns and when they clash; requests R-2, R-5). Assumes nothing.
use Rattle.std.specs.Prelude.{◌≡◌, ◌≢◌, Bool, ◌&&◌, ◌||◌, ℕ, ◌+◌, ◌≤◌, ◌<◌, ltb, eqb}

-- the turns of a sheet: how many, the free minutes that a groomer or a driver needs between two turns, and what each turn has, by turn number from 0; driver 0 stands for none
pub record Turns : Type 0 where
  pub count : ℕ
  pub gap : ℕ
  pub slope : ℕ → ℕ
  pub groomer : ℕ → ℕ
  pub start : ℕ → ℕ
  pub end : ℕ → ℕ
  pub worth : ℕ → ℕ
  pub driver : ℕ → ℕ

-- two stretches of minutes overlap: each starts before the other's end plus the gap. With a gap of 0, stretches of a minute or more overlap exactly if they share a minute; to touch is not enough
unfoldable pub overlapping : ℕ → ℕ → ℕ → ℕ → ℕ → Bool
overlapping gap start end from until = ltb start (until + gap) && ltb from (end + gap)

-- two turns overlap, each needing the free minutes of the gap after it
unfoldable pub overlap : Turns → ℕ → ℕ → Bool
overlap T x y = overlapping T.gap (T.start x) (T.end x) (T.start y) (T.end y)

-- they are on one slope
unfoldable pub by_slope : Turns → ℕ → ℕ → Bool
by_slope T x y = eqb (T.slope x) (T.slope y)

-- they have one groomer
unfoldable pub one_groomer : Turns → ℕ → ℕ → Bool
one_groomer T x y = eqb (T.groomer x) (T.groomer y)

-- they have one groomer and overlap
unfoldable pub by_groomer : Turns → ℕ → ℕ → Bool
by_groomer T x y = one_groomer T x y && overlap T x y

-- they have one driver, and that is one: not 0
unfoldable pub one_driver : Turns → ℕ → ℕ → Bool
one_driver T x y = ltb 0 (T.driver x) && eqb (T.driver x) (T.driver y)

-- they have one driver and overlap
unfoldable pub by_driver : Turns → ℕ → ℕ → Bool
by_driver T x y = one_driver T x y && overlap T x y

-- two different turns conflict (they clash) by any of these ways: one slope, or one groomer and an overlap, or one driver and an overlap. A turn stands in this relation to itself as well
unfoldable pub conflict : Turns → ℕ → ℕ → Bool
conflict T x y = by_slope T x y || (by_groomer T x y || by_driver T x y)

-- ---- as statements

-- turn x holds a minute, lengthened by the gap at its end: the minute of its start or a later one, before its end and the gap
pub record Holds (T : Turns) (x minute : ℕ) : Type 0 where
  pub begun : T.start x ≤ minute
  pub not_over : minute < T.end x + T.gap

-- two turns name a driver, both the same
pub record OneDriver (T : Turns) (x y : ℕ) : Type 0 where
  pub named : T.driver x ≢ 0
  pub same : T.driver x ≡ T.driver y

-- conflict in words, a constructor for each way
pub data Conflict (T : Turns) (x y : ℕ) : Type 0 where
  same_slope : T.slope x ≡ T.slope y → Conflict T x y
  same_groomer : T.groomer x ≡ T.groomer y → (minute : ℕ) → Holds T x minute → Holds T y minute → Conflict T x y
  same_driver : OneDriver T x y → (minute : ℕ) → Holds T x minute → Holds T y minute → Conflict T x y

-- the same minutes without lengthening a turn: x and y share a minute of their own, or one starts when the other has ended, fewer minutes after that than the gap
pub data Near (T : Turns) (x y : ℕ) : Type 0 where
  shared : (minute : ℕ) → T.start x ≤ minute → minute < T.end x → T.start y ≤ minute → minute < T.end y → Near T x y
  after : (free : ℕ) → free < T.gap → T.start y ≡ T.end x + free → Near T x y
  before : (free : ℕ) → free < T.gap → T.start x ≡ T.end y + free → Near T x y

-- every turn is at least a minute long
abbrev pub PositiveLengths : Turns → Type 0
PositiveLengths T = (t : ℕ) → t < T.count → T.start t < T.end t

-- no turn names a driver
abbrev pub NoDrivers : Turns → Type 0
NoDrivers T = (t : ℕ) → t < T.count → T.driver t ≡ 0
