-- The charging hall: its windows, what they draw from the supply, and which sets of them are allowed (request R-14). Assumes nothing.
use Rattle.std.specs.Prelude.{◌≡◌, ◌≢◌, Bool, true, not, cond, ◌&&◌, List, ◌∷◌, ℕ, ◌+◌, ◌-◌, ◌*◌, ◌≤◌, ◌<◌, ltb, leb, eqb}
use Rattle.lists.specs.Lists.{every, sum_over, All}
use Rattle.model.specs.Turns.{Turns, overlapping, PositiveLengths}
use Rattle.model.specs.Choice.{has, chosen, members}
use Rattle.model.specs.Feasible.{Distinct}

-- the most units that a hall has, of which there is at least one
abbrev pub most_units : ℕ
most_units = 48

-- the most vehicles, likewise
abbrev pub most_vehicles : ℕ
most_vehicles = 60

-- the free minutes between two windows: none
abbrev pub hall_gap : ℕ
hall_gap = 0

-- a hall: the units of its supply, and its windows, which are turns whose slope is the vehicle and whose groomer is the draw; their gap and drivers play no part
pub record Hall : Type 0 where
  pub units : ℕ
  pub windows : Turns

-- how many windows there are
abbrev pub window_count : Hall → ℕ
window_count H = H.windows.count

-- the vehicle of window t
abbrev pub vehicle : Hall → ℕ → ℕ
vehicle H t = H.windows.slope t

-- the units that it draws, at each of its minutes
abbrev pub draw : Hall → ℕ → ℕ
draw H t = H.windows.groomer t

-- two windows are of one vehicle; a window is so with itself
unfoldable pub same_vehicle : Hall → ℕ → ℕ → Bool
same_vehicle H x y = eqb (vehicle H x) (vehicle H y)

-- they share a minute; to touch is not enough, and no free minutes are needed
unfoldable pub share_minute : Hall → ℕ → ℕ → Bool
share_minute H x y = overlapping hall_gap (H.windows.start x) (H.windows.end x) (H.windows.start y) (H.windows.end y)

-- a minute is one of window t's: from its start on, before its end
unfoldable pub charges_at : Hall → ℕ → ℕ → Bool
charges_at H minute t = leb (H.windows.start t) minute && ltb minute (H.windows.end t)

-- what window t draws at a minute
unfoldable pub draw_at : Hall → ℕ → ℕ → ℕ
draw_at H minute t = cond (charges_at H minute t) (draw H t) 0

-- a draw is wide that is more than half of the units
unfoldable pub wide_draw : ℕ → ℕ → Bool
wide_draw units d = ltb units (2 * d)

-- a wide window has a wide draw
unfoldable pub is_wide : Hall → ℕ → Bool
is_wide H t = wide_draw H.units (draw H t)

-- every other one is small
unfoldable pub is_small : Hall → ℕ → Bool
is_small H t = not (is_wide H t)

-- what the chosen windows draw at a minute, added up
unfoldable pub drawn_at : Hall → List Bool → ℕ → ℕ
drawn_at H S minute = chosen (window_count H) S (draw_at H minute)

-- none of the chosen windows is of j's vehicle
unfoldable pub vehicle_free : Hall → List Bool → ℕ → Bool
vehicle_free H S j = every (λ t. not (has S t && same_vehicle H t j)) (window_count H)

-- at each of j's minutes the chosen windows leave room for what j draws
unfoldable pub supply_lasts : Hall → List Bool → ℕ → Bool
supply_lasts H S j = every (λ i. leb (drawn_at H S (H.windows.start j + i) + draw H j) H.units) (H.windows.end j - H.windows.start j)

-- with j among them the chosen windows are still allowed
unfoldable pub stays_allowed : Hall → List Bool → ℕ → Bool
stays_allowed H S j = vehicle_free H S j && supply_lasts H S j

-- ---- as statements

-- an allowed set of windows: numbers of the sheet's windows, each at most once; different windows are of different vehicles; and whatever the minute, what they draw then is within the units
pub record Allowed (H : Hall) (R : List ℕ) : Type 0 where
  pub numbers : All (λ t. t < window_count H) R
  pub once : Distinct R
  pub vehicles : All (λ t. All (λ u. t ≢ u → vehicle H t ≢ vehicle H u) R) R
  pub supply : (minute : ℕ) → sum_over (draw_at H minute) R ≤ H.units

-- the chosen windows are an allowed set
abbrev pub AllowedChoice : Hall → List Bool → Type 0
AllowedChoice H S = Allowed H (members (window_count H) S)

-- no further window of a kind could be chosen: with one the chosen windows are no allowed set
abbrev pub FullAmong : Hall → (ℕ → Bool) → List Bool → Type 0
FullAmong H kind S = (t : ℕ) → kind t ≡ true → Allowed H (t ∷ members (window_count H) S) → ⊥

-- what every accepted charging sheet keeps to: there are units, each window is at least a minute long, and draws something, and no more than the units
pub record HallInRange (H : Hall) : Type 0 where
  pub supplied : 0 < H.units
  pub lengths : PositiveLengths H.windows
  pub draws_from : (t : ℕ) → t < window_count H → 0 < draw H t
  pub draws_to : (t : ℕ) → t < window_count H → draw H t ≤ H.units
