-- A groomer's day on a board: from when to when its turns are worked where some have a delay, and what it does in each minute (request R-13). Assumes nothing.
use Rattle.std.specs.Prelude.{◌≡◌, ◌↔◌, Bool, true, false, cond, ◌&&◌, List, [], ◌∷◌, ◌++◌, ℕ, suc, ◌+◌, ◌-◌, ◌≤◌, ◌<◌, max, eqb, ltb, length, get_or}
use Rattle.lists.specs.Lists.{every}
use Rattle.model.specs.Turns.{Turns}
use Rattle.model.specs.Choice.{has}
use Rattle.instance_spec.specs.Problem.{shift_gap}
use Rattle.instance_spec.specs.ByStart.{order_by_start}
use Rattle.assign_spec.specs.Numbering.{Before}
use Rattle.play_spec.specs.declared.Stint.{Stint}

-- driving over takes the free minutes that a groomer needs between two turns
abbrev pub over_minutes : ℕ
over_minutes = shift_gap

-- the longest delay that a turn may have, in minutes
abbrev pub most_delay : ℕ
most_delay = 120

-- a turn's delay in a table of delays
abbrev pub delay_in : List ℕ → ℕ → ℕ
delay_in delays u = get_or delays u 0

-- the delays of the first n turns are within the limit
unfoldable pub delays_fit : List ℕ → ℕ → Bool
delays_fit delays n = every (λ u. ltb (delay_in delays u) (suc most_delay)) n

-- turn u as it is worked by a groomer that is free from a minute on: it begins at its start or, if later, at that minute, and lasts its length and its delay
unfoldable pub stint_of : Turns → (ℕ → ℕ) → ℕ → ℕ → Stint
stint_of T delay free u =
    let begin = max (T.start u) free in
    record { turn = u; begin = begin; end = begin + (T.end u - T.start u) + delay u }

-- turns worked one after another: after each the groomer drives over, and is free then
unfoldable pub stints_from : Turns → (ℕ → ℕ) → ℕ → List ℕ → List Stint
stints_from T delay free [] = []
stints_from T delay free (u ∷ us) = let s = stint_of T delay free u in s ∷ stints_from T delay (s.end + over_minutes) us

-- groomer h takes turn u: it is chosen, and the groomer's
unfoldable pub takes : Turns → List Bool → ℕ → ℕ → Bool
takes T S h u = has S u && eqb (T.groomer u) h

-- of some turns, those that it takes
unfoldable pub taken_of : Turns → List Bool → ℕ → List ℕ → List ℕ
taken_of T S h [] = []
taken_of T S h (u ∷ us) = cond (takes T S h u) (u ∷ []) [] ++ taken_of T S h us

-- groomer h's day: its chosen turns by start, one after another; nothing holds up the first
unfoldable pub day_of : Turns → List Bool → (ℕ → ℕ) → ℕ → List Stint
day_of T S delay h = stints_from T delay 0 (taken_of T S h (order_by_start T))

-- what a groomer does in a minute
pub data Doing : Type 0 where
  works : ℕ → Doing
  drives : Doing
  stands : Doing

-- before a turn begins the groomer stands, until it ends it works, then it drives over; afterwards the next turn counts
unfoldable pub doing_at : List Stint → ℕ → Doing
doing_at [] m = stands
doing_at (s ∷ ss) m =
    let after = doing_at ss m in
    cond (ltb m s.begin) stands (cond (ltb m s.end) (works s.turn) (cond (ltb m (s.end + over_minutes)) drives after))

-- whether it works, drives over, stands
unfoldable pub is_work : Doing → Bool
is_work (works u) = true
is_work drives = false
is_work stands = false

unfoldable pub is_drive : Doing → Bool
is_drive (works u) = false
is_drive drives = true
is_drive stands = false

unfoldable pub is_stand : Doing → Bool
is_stand (works u) = false
is_stand drives = false
is_stand stands = true

-- ---- as statements

-- the stint at place i of a day
abbrev pub stint_at : List Stint → ℕ → Stint
stint_at day i = get_or day i (record { turn = 0; begin = 0; end = 0 })

-- turn u is chosen, and groomer h's
pub record Takes (T : Turns) (S : List Bool) (h u : ℕ) : Type 0 where
  pub inside : u < T.count
  pub chosen : has S u ≡ true
  pub groomer_is : T.groomer u ≡ h

-- a day of groomer h, whoever made it
pub record DayIs (T : Turns) (S : List Bool) (delay : ℕ → ℕ) (h : ℕ) (day : List Stint) : Type 0 where
  -- its stints are of turns that the groomer takes
  pub its_own : (i : ℕ) → i < length day → Takes T S h (stint_at day i).turn
  -- each of those turns has one
  pub all_taken : (u : ℕ) → Takes T S h u → (i : ℕ) × (i < length day) × ((stint_at day i).turn ≡ u)
  -- they come by start, then turn number, so that none comes twice
  pub rising : (i j : ℕ) → i < j → j < length day → Before T (stint_at day i).turn (stint_at day j).turn
  -- the first begins at its start
  pub first : 0 < length day → (stint_at day 0).begin ≡ T.start (stint_at day 0).turn
  -- each other at its start, or when the groomer has driven over from the one before it, whichever is later
  pub others : (i : ℕ) → suc i < length day → (stint_at day (suc i)).begin ≡ max (T.start (stint_at day (suc i)).turn) ((stint_at day i).end + over_minutes)
  -- each lasts its length and its delay
  pub lasts : (i : ℕ) → i < length day → (stint_at day i).end ≡ (stint_at day i).begin + (T.end (stint_at day i).turn - T.start (stint_at day i).turn) + delay (stint_at day i).turn

-- minute m is one of a stint's
abbrev pub InStint : Stint → ℕ → Type 0
InStint k m = (k.begin ≤ m) × (m < k.end)

-- minute m is one of driving over after it
abbrev pub OverFrom : Stint → ℕ → Type 0
OverFrom k m = (k.end ≤ m) × (m < k.end + over_minutes)

-- in minute m of a day, d is what is done
pub record DoingIs (day : List Stint) (m : ℕ) (d : Doing) : Type 0 where
  -- a turn is worked exactly in the minutes of its stint
  pub works_iff : (u : ℕ) → (d ≡ works u) ↔ ((i : ℕ) × (i < length day) × ((stint_at day i).turn ≡ u) × InStint (stint_at day i) m)
  -- the groomer drives over exactly in the minutes that follow one
  pub drives_iff : (d ≡ drives) ↔ ((i : ℕ) × (i < length day) × OverFrom (stint_at day i) m)
  -- and stands in all other minutes
  pub stands_iff : (d ≡ stands) ↔ ((i : ℕ) → i < length day → (InStint (stint_at day i) m → ⊥) × (OverFrom (stint_at day i) m → ⊥))

-- stints one after another, from some minute on: each begins when the groomer is free or later, does not end before it begins, and driving over follows
pub data Laid : ℕ → List Stint → Type 0 where
  none : {free : ℕ} → Laid free []
  more : {free : ℕ} {s : Stint} {ss : List Stint} → free ≤ s.begin → s.begin ≤ s.end → Laid (s.end + over_minutes) ss → Laid free (s ∷ ss)

-- the same turns, none of which begins earlier in the second day than in the first
pub data NoEarlier : List Stint → List Stint → Type 0 where
  none : NoEarlier [] []
  more : {s t : Stint} {ss ts : List Stint} → s.turn ≡ t.turn → s.begin ≤ t.begin → NoEarlier ss ts → NoEarlier (s ∷ ss) (t ∷ ts)

-- in a day turn u is worked in its planned minutes, and in no others
pub record OnTime (T : Turns) (day : List Stint) (u : ℕ) : Type 0 where
  pub planned : (m : ℕ) → T.start u ≤ m → m < T.end u → doing_at day m ≡ works u
  pub only : (m : ℕ) → doing_at day m ≡ works u → (T.start u ≤ m) × (m < T.end u)
