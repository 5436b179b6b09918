-- What a board played with delays hands back where nothing is refused (request R-13). Assumes nothing.
use Rattle.std.specs.Prelude.{◌≡◌, ◌↔◌, true, cond, List, ℕ, suc, ◌-◌, ◌<◌, eqb, get_or, take, drop}
use Rattle.turn.specs.Turn.{shift_minutes}
use Rattle.sheet.specs.Read.{counts_in, turn_count}
use Rattle.model.specs.Choice.{has, chosen}
use Rattle.instance_spec.specs.Problem.{sheet_turns}
use Rattle.board.specs.Board.{board_choice}
use Rattle.play_spec.specs.declared.Standing.{Standing}
use Rattle.play_spec.specs.Day.{delay_in, works, doing_at, DayIs, DoingIs, OnTime}
use Rattle.play_spec.specs.Standing.{last_minute, fresh_of, total_of, StandingIs}
use Rattle.play_spec.specs.DayTable.{Days}
use Rattle.play_spec.specs.Play.{day_at, play_of}
use Rattle.play_spec.specs.Minutes.{minute_of, minutes_from}

-- ---- as statements

-- the caller's list as `minute` moves it from minute 0 on, by a table that holds the days
pub record MovedByMinutes (s b delays : List ℕ) (lent : List Standing) (table : List ℕ) : Type 0 where
  -- a minute more is one more move of the list
  pub one_minute : (m : ℕ) → minutes_from (suc m) 0 (counts_in s).groomers lent table ≡ minute_of (counts_in s).groomers 0 (minutes_from m 0 (counts_in s).groomers lent table) table m
  -- when minute m is over it holds at each groomer's place the standing of the minutes up to m
  pub standings : (m : ℕ) → m < shift_minutes → (g : ℕ) → g < (counts_in s).groomers → StandingIs (day_at s b delays g) m (get_or (minutes_from (suc m) 0 (counts_in s).groomers lent table) g fresh_of)
  -- and after those places what was there
  pub behind : (m : ℕ) → m < shift_minutes → drop (counts_in s).groomers (minutes_from (suc m) 0 (counts_in s).groomers lent table) ≡ drop (counts_in s).groomers lent
  -- after the shift's last minute it is the answer's list
  pub last : minutes_from shift_minutes 0 (counts_in s).groomers lent table ≡ (play_of s b delays lent).lent

-- of an answer that refuses nothing
pub record PlayPromised (s b delays : List ℕ) (lent : List Standing) : Type 0 where
  -- the answer counts the groomers of the sheet
  pub groomers_are : (play_of s b delays lent).answer.groomers ≡ (counts_in s).groomers
  -- at each groomer's place the list holds its standing after the shift's last minute
  pub standings : (g : ℕ) → g < (counts_in s).groomers → StandingIs (day_at s b delays g) last_minute (get_or (play_of s b delays lent).lent g fresh_of)
  -- of which the three counts make the whole shift
  pub whole : (g : ℕ) → g < (counts_in s).groomers → total_of (get_or (play_of s b delays lent).lent g fresh_of) ≡ shift_minutes
  -- after those places it is as it was
  pub behind : drop (counts_in s).groomers (play_of s b delays lent).lent ≡ drop (counts_in s).groomers lent
  -- the day that is spoken of is that of the groomer, whose number is one above its place
  pub days : (g : ℕ) → DayIs (sheet_turns s) (board_choice b) (delay_in delays) (suc g) (day_at s b delays g)
  -- and what is done in a minute of that day is what the words give for it
  pub doings : (g m : ℕ) → DoingIs (day_at s b delays g) m (doing_at (day_at s b delays g) m)
  -- a turn that is worked there is chosen, and the groomer's
  pub its_own : (g m u : ℕ) → doing_at (day_at s b delays g) m ≡ works u → (has (board_choice b) u ≡ true) × ((sheet_turns s).groomer u ≡ suc g)
  -- without delays every chosen turn has its groomer's place in the list, and is worked there in its planned minutes and in no others
  pub on_time : ((u : ℕ) → delay_in delays u ≡ 0) → (u : ℕ) → has (board_choice b) u ≡ true → (g : ℕ) × (g < (counts_in s).groomers) × ((sheet_turns s).groomer u ≡ suc g) × OnTime (sheet_turns s) (day_at s b delays g) u
  -- so that at its place the minutes worked are the lengths of its chosen turns, added up, and a turn is in hand at the end exactly if it is one of them and ends with the shift
  pub on_time_worked : ((u : ℕ) → delay_in delays u ≡ 0) → (g : ℕ) → g < (counts_in s).groomers →
      (get_or (play_of s b delays lent).lent g fresh_of).working ≡ chosen (turn_count s) (board_choice b) (λ u. cond (eqb ((sheet_turns s).groomer u) (suc g)) ((sheet_turns s).end u - (sheet_turns s).start u) 0)
  pub on_time_turn : ((u : ℕ) → delay_in delays u ≡ 0) → (g : ℕ) → g < (counts_in s).groomers → (u : ℕ) → u < turn_count s →
      ((get_or (play_of s b delays lent).lent g fresh_of).turn ≡ u) ↔ ((has (board_choice b) u ≡ true) × ((sheet_turns s).groomer u ≡ suc g) × ((sheet_turns s).end u ≡ shift_minutes))
  -- there is a table that holds the days, and by each such table the list is moved minute by minute
  pub table_there : (table : List ℕ) × Days (sheet_turns s) (board_choice b) (delay_in delays) table
  pub by_minutes : (table : List ℕ) → Days (sheet_turns s) (board_choice b) (delay_in delays) table → MovedByMinutes s b delays lent table

-- of two lists that are lent for one board and one table of delays: what they hold plays no part
pub record PlayedAlike (s b delays : List ℕ) (lent other : List Standing) : Type 0 where
  pub answer : (play_of s b delays lent).answer ≡ (play_of s b delays other).answer
  pub standings : (play_of s b delays lent).answer.refusal ≡ 0 → take (counts_in s).groomers (play_of s b delays lent).lent ≡ take (counts_in s).groomers (play_of s b delays other).lent
