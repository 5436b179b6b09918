-- Playing a board with delays: any bytes as a sheet, any as a board, any table of delays, and a lent list of standings (request R-13). Assumes nothing.
use Rattle.std.specs.Prelude.{◌≡◌, ◌≢◌, ℕ, suc, ◌≤◌, ◌<◌, Bool, not, ◌&&◌, List, [], ◌∷◌, ◌++◌, length, drop, eqb}
use Rattle.refusal.specs.Number.{bad_delays}
use Rattle.refusal.specs.Cause.{Cause, ◌when◌, FirstAmong}
use Rattle.lists.specs.Lists.{tab}
use Rattle.turn.specs.Turn.{shift_minutes}
use Rattle.sheet.specs.Read.{counts_in, turn_count}
use Rattle.instance_spec.specs.Problem.{sheet_turns}
use Rattle.board.specs.Board.{board_choice}
use Rattle.sheet.specs.Accepted.{place_of}
use Rattle.check_spec.specs.Check.{check_causes, CheckCause}
use Rattle.play_spec.specs.declared.Stint.{Stint}
use Rattle.play_spec.specs.Day.{most_delay, delay_in, delays_fit, day_of}
use Rattle.play_spec.specs.declared.Standing.{Standing}
use Rattle.play_spec.specs.declared.PlayAnswer.{PlayAnswer}
use Rattle.play_spec.specs.Standing.{standing_after}
use Rattle.refusal.specs.Outcome.{Outcome, beside, unless, then_room}
use Rattle.refusal.specs.Words.{Only, Then, ThenRoom}

-- a number for each of n turns, and none above the limit
unfoldable pub serves_for : ℕ → List ℕ → Bool
serves_for n delays = eqb (length delays) n && delays_fit delays (length delays)

-- what may be wrong with what is lent, for so many groomers and n turns: the table of delays, then a list that is shorter than there are groomers
unfoldable pub lent_causes : ℕ → ℕ → List ℕ → ℕ → List Cause
lent_causes groomers n delays = then_room (bad_delays when not (serves_for n delays) ∷ []) groomers

-- after the check's causes
unfoldable pub play_causes : List ℕ → List ℕ → List ℕ → ℕ → List Cause
play_causes s b delays places = check_causes s b ++ lent_causes (counts_in s).groomers (turn_count s) delays places

-- the day of the groomer at place g of the list; groomers are numbered from 1
unfoldable pub day_at : List ℕ → List ℕ → List ℕ → ℕ → List Stint
day_at s b delays g = day_of (sheet_turns s) (board_choice b) (delay_in delays) (suc g)

-- the standings of all groomers when the shift is over
unfoldable pub standings_of : List ℕ → List ℕ → List ℕ → List Standing
standings_of s b delays = tab (counts_in s).groomers (λ g. standing_after (day_at s b delays g) shift_minutes)

-- a refusal returns its number and no groomers
abbrev pub play_refused : ℕ → PlayAnswer
play_refused k = record { refusal = k; groomers = 0 }

-- on success the number of groomers, and each one's standing at its place, then what was there; on a refusal all as before
unfoldable pub play_of : List ℕ → List ℕ → List ℕ → List Standing → Outcome PlayAnswer (List Standing)
play_of s b delays lent =
    unless (play_causes s b delays (length lent)) (beside (record { refusal = 0; groomers = (counts_in s).groomers }) (standings_of s b delays ++ drop (counts_in s).groomers lent)) (λ k. beside (play_refused k) lent)

-- ---- as statements

-- each turn of the sheet has a delay within the limit, and there are no more numbers
pub record DelaysServe (s delays : List ℕ) : Type 0 where
  pub each : length delays ≡ turn_count s
  pub within : (u : ℕ) → u < turn_count s → delay_in delays u ≤ most_delay

-- there is not one delay for each turn, or one is too long
pub data DelaysFail (s delays : List ℕ) : Type 0 where
  other_count : length delays ≢ turn_count s → DelaysFail s delays
  long_delay : (u : ℕ) → u < length delays → most_delay < delay_in delays u → DelaysFail s delays

-- a cause to refuse what is lent: the delays, and after them that there is not a place for each groomer
abbrev pub LentPlayCause : List ℕ → List ℕ → ℕ → ℕ → ℕ → Type 0
LentPlayCause s delays = ThenRoom (Only bad_delays (DelaysFail s delays)) 1 (counts_in s).groomers

-- a cause to refuse is there, at its place in the order: after a sheet's places the board's six stand at 1 to 6, so these begin at 7
abbrev pub PlayCause : List ℕ → List ℕ → List ℕ → ℕ → ℕ → ℕ → Type 0
PlayCause s b delays places = Then (CheckCause s b) (place_of (turn_count s) 7) (LentPlayCause s delays places)

-- the first of them has number k
abbrev pub FirstPlayCause : List ℕ → List ℕ → List ℕ → ℕ → ℕ → Type 0
FirstPlayCause s b delays places k = FirstAmong (PlayCause s b delays places) k
