-- The numbers that the format's description fixes, on one page: each is said of a definition with a literal, mostly as an equation (documents 01, 02 and 03). Assumes nothing.
use Rattle.std.specs.Prelude.{ℕ, ◌+◌, ◌-◌, ◌*◌, ◌/◌, ◌%◌, ◌^◌, ◌≤◌, ◌<◌, max, min, ◌≡◌, Bool, true, false, cond, ◌&&◌, ◌||◌, ◌↔◌, List, [], ◌∷◌, ◌++◌, ltb, eqb, leb, length, get_or, drop, replicate, pos, neg_ℤ}
use Rattle.lists.specs.Lists.{sum_over, tab, below, keep}
use Rattle.refusal.specs.Number.{truncated, bad_magic, bad_counts, too_many_turns, bad_map, bad_slope, bad_groomer, bad_time, bad_worth, trailing_bytes, buffer_too_small, malformed_board, chosen_conflict, not_maximal, wrong_step, turn_left_open, wrong_sums, partial_turn, bad_driver, too_many_for_short, not_single_turns, too_many_to_search, bad_seed, bad_delays, bad_draw, bad_prices}
use Rattle.wire.specs.Number.{value_at, Bytes}
use Rattle.wire.specs.Mark.{sheet_mark, board_mark, kept_mark, charging_mark}
use Rattle.turn.specs.declared.Counts.{Counts}
use Rattle.turn.specs.declared.Turn.{Turn}
use Rattle.turn.specs.Turn.{shift_minutes, most_worth, most_driver, row_numbers, outside_range, past_shift}
use Rattle.sheet.specs.Kind.{first_map, full_map, most_groomers, most_slopes, most_turns, shift_sheet}
use Rattle.sheet.specs.Record.{width_of, turn_from}
use Rattle.sheet.specs.Read.{header_bytes, counts_in, turn_count, read_of}
use Rattle.sheet.specs.Accepted.{Legal, Accepted}
use Rattle.sheet.specs.Short.{short_turns, short_sheet, read_short_of, AcceptedShort}
use Rattle.write_spec.specs.Write.{write_of}
use Rattle.archive_spec.specs.Column.{values_of, column_of, columns_of}
use Rattle.archive_spec.specs.Kept.{archive}
use Rattle.choice_map.specs.Choice.{map_bytes, chosen_in}
use Rattle.archive_spec.specs.AcceptedKept.{AcceptedKept}
use Rattle.archive_spec.specs.Archive.{keep_of, restore_of}
use Rattle.board.specs.Board.{turns_place, step_count_place, tally_place, worth_place, board_header, step_size, board_length, step_at, written_steps}
use Rattle.instance_spec.specs.Problem.{shift_gap, sheet_turns}
use Rattle.model.specs.Turns.{Turns, NoDrivers, by_driver}
use Rattle.model.specs.Choice.{has, fits, choose_each}
use Rattle.model.specs.Feasible.{Feasible, worth_of, OneTurnASlope}
use Rattle.model.specs.Promises.{Promises}
use Rattle.local_ratio.specs.Bounds.{least_residual}
use Rattle.plan_spec.specs.Plan.{plan_of}
use Rattle.check_spec.specs.Check.{BoardKeeps}
use Rattle.list_spec.specs.List.{sheet_listing, list_of}
use Rattle.assign_spec.specs.Assign.{assign_of}
use Rattle.best_spec.specs.Best.{best_of}
use Rattle.improve_spec.specs.Improve.{most_searched, improve_of}
use Rattle.draw_spec.specs.Draw.{most_draw, next_draw, draw_number, turn_draws, turn_drawn}
use Rattle.draw_spec.specs.DrawnSheet.{drawn_sheet, draw_of}
use Rattle.play_spec.specs.Day.{over_minutes, most_delay}
use Rattle.play_spec.specs.declared.Standing.{Standing}
use Rattle.play_spec.specs.Standing.{no_turn_number}
use Rattle.play_spec.specs.Play.{play_of}
use Rattle.charge_spec.specs.Hall.{most_units, most_vehicles, hall_gap, Hall, window_count, draw, same_vehicle, share_minute, charges_at, is_wide, stays_allowed, Allowed}
use Rattle.charge_spec.specs.Plan.{small_takes, small_steps, hall_worth}
use Rattle.charge_spec.specs.Promises.{worth_of_windows, HallPromises}
use Rattle.charge_spec.specs.Charge.{charging_sheet, AcceptedCharging, charge_of}
use Rattle.limit_spec.specs.Prices.{slope_price, turn_price, pays_turn, paid_by, counts_for}
use Rattle.limit_spec.specs.Limit.{limit_of}
use Rattle.refine_spec.specs.Rounds.{next_change, greatest_of}
use Rattle.refine_spec.specs.Selection.{poorer_first, by_worth}
use Rattle.refine_spec.specs.Shift.{relaxed_set, moved_price, turn_change, shift_rule, greatest_worth, shift_start}
use Rattle.refine_spec.specs.Refine.{refine_of}
use Rattle.hall_by_prices_spec.specs.Prices.{minutes_cost, window_pays, window_counts, minute_price, supply_cost, hall_relaxed}
use Rattle.hall_by_prices_spec.specs.Hall.{moved_minute, hall_rule, hall_start}
use Rattle.hall_by_prices_spec.specs.Refine.{charge_refine_of}
use Rattle.hall_by_prices_spec.specs.Limit.{charge_limit_of}

pub record Figures : Type 0 where
  -- ---- turns

  -- a sheet has up to 16 groomers, 120 slopes and 400 turns
  pub groomers : most_groomers ≡ 16
  pub slopes : most_slopes ≡ 120
  pub turns : most_turns ≡ 400
  -- a turn has ended by minute 960, and is worth up to 60,000; a driver's number is up to 40
  pub minutes : shift_minutes ≡ 960
  pub worth : most_worth ≡ 60000
  pub driver : most_driver ≡ 40
  -- groomers, slopes and worths are counted from 1: 0 is out of their range
  pub from_one : (most : ℕ) → outside_range 0 most ≡ true
  -- in range are exactly the numbers from 1 to the greatest
  pub to_most : (x most : ℕ) → (outside_range x most ≡ false) ↔ ((1 ≤ x) × (x ≤ most))
  -- a length is at least 1, and an end of 960 is still right
  pub times : (start len : ℕ) → (past_shift start len ≡ false) ↔ ((1 ≤ len) × (start + len ≤ 960))
  -- the least that can remain of a worth
  pub least_left : least_residual ≡ neg_ℤ (pos 59999)
  -- ten free minutes between two turns of a groomer or of a driver, on every sheet
  pub gap : shift_gap ≡ 10
  pub sheet_gap : (s : List ℕ) → (sheet_turns s).gap ≡ 10
  -- ---- the sheet

  -- the marks: GRM, GRB, GRC, GRE
  pub sheet_mark_lem : sheet_mark ≡ 0x47 ∷ 0x52 ∷ 0x4D ∷ []
  pub board_mark_lem : board_mark ≡ 0x47 ∷ 0x52 ∷ 0x42 ∷ []
  pub kept_mark_lem : kept_mark ≡ 0x47 ∷ 0x52 ∷ 0x43 ∷ []
  pub charging_mark_lem : charging_mark ≡ 0x47 ∷ 0x52 ∷ 0x45 ∷ []
  -- numbers of two and of four bytes have their high byte first
  pub two_bytes : (s : List ℕ) (at : ℕ) → value_at s at 2 ≡ 256 * get_or s at 0 + get_or s (at + 1) 0
  pub four_bytes : (s : List ℕ) (at : ℕ) → value_at s at 4 ≡ 65536 * value_at s at 2 + value_at s (at + 2) 2
  -- a header of 7 bytes: after the mark a byte of groomers, a byte of slopes, two bytes of turns
  pub header : header_bytes ≡ 7
  pub header_counts : (s : List ℕ) → counts_in s ≡ record { groomers = value_at s 3 1; slopes = value_at s 4 1 }
  pub header_turns : (s : List ℕ) → turn_count s ≡ value_at s 5 2
  -- the map of a first record that names no driver, and of one with every field
  pub first_map_lem : first_map ≡ 0x1F
  pub full_map_lem : full_map ≡ 0x3F
  -- the bits of a map, from the lowest: slope, groomer, start, length, worth, driver; how many bytes each stands for
  pub slope_bytes : width_of 1 ≡ 1
  pub groomer_bytes : width_of 2 ≡ 1
  pub start_bytes : width_of 4 ≡ 2
  pub length_bytes : width_of 8 ≡ 2
  pub worth_bytes : width_of 16 ≡ 2
  pub driver_bytes : width_of 32 ≡ 1
  -- a record with one bit alone takes that field from its bytes, and all others from the turn before
  pub bit_0 : (s : List ℕ) (at : ℕ) (p : Turn) → turn_from s at 1 p ≡ record { slope = value_at s at 1; groomer = p.groomer; start = p.start; length = p.length; worth = p.worth; driver = p.driver }
  pub bit_1 : (s : List ℕ) (at : ℕ) (p : Turn) → turn_from s at 2 p ≡ record { slope = p.slope; groomer = value_at s at 1; start = p.start; length = p.length; worth = p.worth; driver = p.driver }
  pub bit_2 : (s : List ℕ) (at : ℕ) (p : Turn) → turn_from s at 4 p ≡ record { slope = p.slope; groomer = p.groomer; start = value_at s at 2; length = p.length; worth = p.worth; driver = p.driver }
  pub bit_3 : (s : List ℕ) (at : ℕ) (p : Turn) → turn_from s at 8 p ≡ record { slope = p.slope; groomer = p.groomer; start = p.start; length = value_at s at 2; worth = p.worth; driver = p.driver }
  pub bit_4 : (s : List ℕ) (at : ℕ) (p : Turn) → turn_from s at 16 p ≡ record { slope = p.slope; groomer = p.groomer; start = p.start; length = p.length; worth = value_at s at 2; driver = p.driver }
  pub bit_5 : (s : List ℕ) (at : ℕ) (p : Turn) → turn_from s at 32 p ≡ record { slope = p.slope; groomer = p.groomer; start = p.start; length = p.length; worth = p.worth; driver = value_at s at 1 }
  -- with all bits the fields stand in this order
  pub every_bit :
      (s : List ℕ) (at : ℕ) (p : Turn)
      → turn_from s at 0x3F p ≡ record { slope = value_at s at 1; groomer = value_at s (at + 1) 1; start = value_at s (at + 2) 2; length = value_at s (at + 4) 2; worth = value_at s (at + 6) 2; driver = value_at s (at + 8) 1 }
  -- a turn has six numbers in a table
  pub row : row_numbers ≡ 6
  -- the reader needs six places a turn
  pub reader_need : {s : List ℕ} → Bytes s → (lent : List ℕ) → ((read_of s lent).answer.refusal ≡ 0) ↔ (Accepted s × (6 * turn_count s ≤ length lent))
  -- the four kinds of sheet: mark, greatest counts, maps, and the refusals of counts, turns, slope and groomer. A shift's
  pub shift_sheet_kind :
      shift_sheet
      ≡ record { mark = 0x47 ∷ 0x52 ∷ 0x4D ∷ []; most = record { groomers = 16; slopes = 120; turns = 400 }; maps = record { first = 0x1F; full = 0x3F }; refusals = record { counts = 3; turns = 4; slope = 6; groomer = 7 } }
  -- the short reader's
  pub short_sheet_kind :
      short_sheet
      ≡ record { mark = 0x47 ∷ 0x52 ∷ 0x4D ∷ []; most = record { groomers = 16; slopes = 120; turns = 96 }; maps = record { first = 0x1F; full = 0x3F }; refusals = record { counts = 3; turns = 20; slope = 6; groomer = 7 } }
  -- the one that is kept by column
  pub kept_kind :
      archive
      ≡ record { mark = 0x47 ∷ 0x52 ∷ 0x43 ∷ []; most = record { groomers = 16; slopes = 120; turns = 400 }; maps = record { first = 0x1F; full = 0x3F }; refusals = record { counts = 3; turns = 4; slope = 6; groomer = 7 } }
  -- its columns, after the maps: slopes, groomers, starts, lengths, worths, drivers; each field with its place in a row, what its bit counts for in a map, and how many bytes it has
  pub columns :
      (maps : List ℕ) (ts : List Turn)
      → columns_of maps ts
      ≡ column_of (record { place = 0; unit = 1; width = 1 }) maps (values_of (record { place = 0; unit = 1; width = 1 }) ts)
      ++ (column_of (record { place = 1; unit = 2; width = 1 }) maps (values_of (record { place = 1; unit = 2; width = 1 }) ts)
      ++ (column_of (record { place = 2; unit = 4; width = 2 }) maps (values_of (record { place = 2; unit = 4; width = 2 }) ts)
      ++ (column_of (record { place = 3; unit = 8; width = 2 }) maps (values_of (record { place = 3; unit = 8; width = 2 }) ts)
      ++ (column_of (record { place = 4; unit = 16; width = 2 }) maps (values_of (record { place = 4; unit = 16; width = 2 }) ts)
      ++ column_of (record { place = 5; unit = 32; width = 1 }) maps (values_of (record { place = 5; unit = 32; width = 1 }) ts)))))
  -- the hall's: units and vehicles stand for groomers and slopes
  pub charging_kind :
      charging_sheet
      ≡ record { mark = 0x47 ∷ 0x52 ∷ 0x45 ∷ []; most = record { groomers = 48; slopes = 60; turns = 400 }; maps = record { first = 0x1F; full = 0x1F }; refusals = record { counts = 3; turns = 4; slope = 6; groomer = 25 } }
  -- ---- the board

  -- a header of 15 bytes: after the mark turns and steps, two bytes each, then tally and worth, four bytes each
  pub board_header_lem : board_header ≡ 15
  pub board_turns_lem : turns_place ≡ 3
  pub board_steps_lem : step_count_place ≡ 5
  pub board_tally_lem : tally_place ≡ 7
  pub board_worth_lem : worth_place ≡ 11
  -- then a bit a turn, in whole bytes, and four bytes a step
  pub map_bytes_lem : (n : ℕ) → map_bytes n ≡ (n + 7) / 8
  pub step_bytes_lem : step_size ≡ 4
  -- step i of them: two bytes for its turn, two for its amount
  pub step_at_lem : (bytes : List ℕ) (i : ℕ) → step_at bytes i ≡ record { turn = value_at bytes (4 * i) 2; amount = value_at bytes (4 * i + 2) 2 }
  pub written_steps_lem : (b : List ℕ) → written_steps b ≡ tab (value_at b 5 2) (step_at (drop (15 + (value_at b 3 2 + 7) / 8) b))
  -- the bit of turn t is bit t % 8, from the lowest, of byte t / 8 of the map
  pub map_bit : (map : List ℕ) (t : ℕ) → chosen_in map t ≡ eqb (get_or map (t / 8) 0 / 2 ^ (t % 8) % 2) 1
  pub board_bytes : (n m : ℕ) → board_length n m ≡ 15 + (n + 7) / 8 + 4 * m
  -- the planner needs the bytes of a board with as many steps as turns
  pub planner_need : {s : List ℕ} → Bytes s → (lent : List ℕ) → ((plan_of s lent).answer.refusal ≡ 0) ↔ (Accepted s × (15 + (turn_count s + 7) / 8 + 4 * turn_count s ≤ length lent))
  -- ---- what the other entries accept, and how long a lent place must be

  -- the short reader: as the reader's
  pub short_reader_need : {s : List ℕ} → Bytes s → (lent : List ℕ) → ((read_short_of s lent).answer.refusal ≡ 0) ↔ (AcceptedShort s × (6 * turn_count s ≤ length lent))
  -- the writer, for a table that it accepts: the bytes that it writes
  pub write_need :
      (counts : Counts) (table place : List ℕ) → (write_of counts table place).answer.refusal ≡ 0
      → (lent : List ℕ) → ((write_of counts table lent).answer.refusal ≡ 0) ↔ ((write_of counts table place).answer.bytes ≤ length lent)
  -- drawing: a seed from 1 to 2,147,483,646, counts and turns that a header may have, and the bytes of the sheet
  pub draw_need :
      (seed : ℕ) (counts : Counts) (turns : ℕ) (lent : List ℕ)
      → ((draw_of seed counts turns lent).answer.refusal ≡ 0) ↔ (((1 ≤ seed) × (seed ≤ 2147483646)) × Legal shift_sheet counts turns × (length (drawn_sheet seed counts turns) ≤ length lent))
  -- keeping by column and restoring: as many bytes as are given
  pub keep_need : {s : List ℕ} → Bytes s → (lent : List ℕ) → ((keep_of s lent).answer.refusal ≡ 0) ↔ (Accepted s × (length s ≤ length lent))
  pub restore_need : {k : List ℕ} → Bytes k → (lent : List ℕ) → ((restore_of k lent).answer.refusal ≡ 0) ↔ (AcceptedKept k × (length k ≤ length lent))
  -- the listing: its own bytes
  pub list_need : {s : List ℕ} → Bytes s → (lent : List ℕ) → ((list_of s lent).answer.refusal ≡ 0) ↔ (Accepted s × (length (sheet_listing s) ≤ length lent))
  -- numbering all turns: a place a turn
  pub assign_need : {s : List ℕ} → Bytes s → (lent : List ℕ) → ((assign_of s lent).answer.refusal ≡ 0) ↔ (Accepted s × (turn_count s ≤ length lent))
  -- the best worth: one turn a slope, no drivers, and a bit a turn
  pub best_need :
      {s : List ℕ} → Bytes s → (lent : List ℕ)
      → ((best_of s lent).answer.refusal ≡ 0) ↔ (Accepted s × NoDrivers (sheet_turns s) × OneTurnASlope (sheet_turns s) × ((turn_count s + 7) / 8 ≤ length lent))
  -- the search: at most 64 turns, and a bit a turn; 22 exactly for more turns
  pub improve_need :
      {s : List ℕ} → Bytes s → (lent : List ℕ) (limit : ℕ)
      → ((improve_of s limit lent).answer.refusal ≡ 0) ↔ (Accepted s × (turn_count s ≤ 64) × ((turn_count s + 7) / 8 ≤ length lent))
  pub improve_many : {s : List ℕ} → Bytes s → Accepted s → (lent : List ℕ) (limit : ℕ) → ((improve_of s limit lent).answer.refusal ≡ 22) ↔ (64 < turn_count s)
  -- playing: a board that keeps the rules, for each turn a delay of at most 120 and no further number, and a place a groomer
  pub play_need :
      {s : List ℕ} → Bytes s → (b delays : List ℕ) (lent : List Standing)
      → ((play_of s b delays lent).answer.refusal ≡ 0)
      ↔ (Accepted s × BoardKeeps s b × ((length delays ≡ turn_count s) × ((u : ℕ) → u < turn_count s → get_or delays u 0 ≤ 120)) × (value_at s 3 1 ≤ length lent))
  -- the hall: a bit a window
  pub charge_need : {s : List ℕ} → Bytes s → (lent : List ℕ) → ((charge_of s lent).answer.refusal ≡ 0) ↔ (AcceptedCharging s × ((turn_count s + 7) / 8 ≤ length lent))
  -- rounds: the planner's bytes and a number for each slope and each turn; in a hall a bit a window and 960 numbers
  pub refine_need :
      {s : List ℕ} → Bytes s → (rounds : ℕ) (board prices : List ℕ)
      → ((refine_of s rounds board prices).refusal ≡ 0)
      ↔ (Accepted s × (15 + (turn_count s + 7) / 8 + 4 * turn_count s ≤ length board) × (value_at s 4 1 + value_at s 5 2 ≤ length prices))
  pub charge_refine_need :
      {s : List ℕ} → Bytes s → (rounds : ℕ) (map prices : List ℕ)
      → ((charge_refine_of s rounds map prices).refusal ≡ 0) ↔ (AcceptedCharging s × ((turn_count s + 7) / 8 ≤ length map) × (960 ≤ length prices))
  -- ---- the other parts

  -- the short reader shows 96 turns; 64 turns are searched
  pub short_turns_lem : short_turns ≡ 96
  pub searched : most_searched ≡ 64
  -- a delay is up to 120 minutes, driving over takes ten, and 65,535 in hand is no turn
  pub delay : most_delay ≡ 120
  pub driving_over : over_minutes ≡ 10
  pub no_turn_lem : no_turn_number ≡ 65535
  -- a hall has up to 48 units and 60 vehicles, and no free minutes between windows
  pub units : most_units ≡ 48
  pub vehicles : most_vehicles ≡ 60
  pub hall_gap_lem : hall_gap ≡ 0
  -- a window is wide where twice its draw is above the units
  pub wide : (H : Hall) (t : ℕ) → is_wide H t ≡ ltb H.units (2 * draw H t)
  -- a step takes from a small window of another vehicle that shares a minute: twice its draw times the amount, by the units, rounded up
  pub small_share : (H : Hall) (j amount t : ℕ) → same_vehicle H j t ≡ false → share_minute H j t ≡ true → small_takes H j amount t ≡ (2 * draw H t * amount + (H.units - 1)) / H.units
  -- from one of the same vehicle its amount, from any other nothing
  pub small_same : (H : Hall) (j amount t : ℕ) → same_vehicle H j t ≡ true → small_takes H j amount t ≡ amount
  pub small_none : (H : Hall) (j amount t : ℕ) → same_vehicle H j t ≡ false → share_minute H j t ≡ false → small_takes H j amount t ≡ 0
  -- ---- drawn sheets

  -- the generator, the greatest seed, and the ten-thousandth draw from seed 1
  pub next_draw_lem : (x : ℕ) → next_draw x ≡ 16807 * x % 2147483647
  pub seed : most_draw ≡ 2147483646
  pub ten_thousandth : draw_number 10000 1 ≡ 1043618065
  -- a turn uses five draws
  pub draws : turn_draws ≡ 5
  -- of them slope and groomer are numbers from 1 to their counts, the start is one of 841, and the worth a number from 1 to 60,000
  pub drawn_slope : (counts : Counts) (a b c d e : ℕ) → (turn_drawn counts a b c d e).slope ≡ 1 + a % counts.slopes
  pub drawn_groomer : (counts : Counts) (a b c d e : ℕ) → (turn_drawn counts a b c d e).groomer ≡ 1 + b % counts.groomers
  pub drawn_start : (counts : Counts) (a b c d e : ℕ) → (turn_drawn counts a b c d e).start ≡ c % 841
  pub drawn_worth : (counts : Counts) (a b c d e : ℕ) → (turn_drawn counts a b c d e).worth ≡ 1 + e % 60000
  -- the driver is none
  pub drawn_driver : (counts : Counts) (a b c d e : ℕ) → (turn_drawn counts a b c d e).driver ≡ 0
  -- the length goes by the draw's remainder by 100
  pub to_39 : (counts : Counts) (a b c d e : ℕ) → d % 100 ≤ 39 → (turn_drawn counts a b c d e).length ≡ 30
  pub to_69 : (counts : Counts) (a b c d e : ℕ) → 40 ≤ d % 100 → d % 100 ≤ 69 → (turn_drawn counts a b c d e).length ≡ 45
  pub to_89 : (counts : Counts) (a b c d e : ℕ) → 70 ≤ d % 100 → d % 100 ≤ 89 → (turn_drawn counts a b c d e).length ≡ 60
  pub to_99 : (counts : Counts) (a b c d e : ℕ) → 90 ≤ d % 100 → (turn_drawn counts a b c d e).length ≡ 90
  -- ---- prices

  -- a price list of a shift has a number for each slope and each turn, one of a hall has 960
  pub shift_list : {s : List ℕ} → Bytes s → (prices : List ℕ) → ((limit_of s prices).refusal ≡ 0) ↔ (Accepted s × (length prices ≡ value_at s 4 1 + value_at s 5 2))
  pub hall_list : {s : List ℕ} → Bytes s → (prices : List ℕ) → ((charge_limit_of s prices).refusal ≡ 0) ↔ (AcceptedCharging s × (length prices ≡ 960))
  -- first the slopes in order, then the turns; in a hall the minutes in order
  pub slope_place : (prices : List ℕ) (slope : ℕ) → slope_price prices slope ≡ get_or prices (slope - 1) 0
  pub turn_place_lem : (slopes : ℕ) (prices : List ℕ) (u : ℕ) → turn_price slopes prices u ≡ get_or prices (slopes + u) 0
  pub minute_place : (prices : List ℕ) (minute : ℕ) → minute_price prices minute ≡ get_or prices minute 0
  -- a turn pays the price of its slope; if it has a driver, also that of each turn of this driver that overlaps it and ends no later, itself among them. It counts for what is left of its worth, not below 0
  pub pays_turn_lem : (T : Turns) (u t : ℕ) → pays_turn T u t ≡ (by_driver T u t && leb (T.end u) (T.end t))
  pub turn_pays :
      (T : Turns) (slopes : ℕ) (prices : List ℕ) (t : ℕ)
      → paid_by T slopes prices t ≡ slope_price prices (T.slope t) + sum_over (λ u. cond (pays_turn T u t) (turn_price slopes prices u) 0) (below T.count)
  pub turn_counts : (T : Turns) (slopes : ℕ) (prices : List ℕ) (t : ℕ) → counts_for T slopes prices t ≡ T.worth t - paid_by T slopes prices t
  -- a hall's prices are sixteenths; a window counts for what is left of its worth, not below 0
  pub minutes_cost_lem : (H : Hall) (prices : List ℕ) (t : ℕ) → minutes_cost H prices t ≡ sum_over (λ m. cond (charges_at H m t) (minute_price prices m) 0) (below 960)
  pub window_pays_lem : (H : Hall) (prices : List ℕ) (t : ℕ) → window_pays H prices t ≡ draw H t * minutes_cost H prices t / 16
  pub window_counts_lem : (H : Hall) (prices : List ℕ) (t : ℕ) → window_counts H prices t ≡ H.windows.worth t - window_pays H prices t
  pub supply_costs : (H : Hall) (prices : List ℕ) → supply_cost H prices ≡ H.units * sum_over (minute_price prices) (below 960) / 16
  -- the first change: the greatest worth by 4, in a hall by 8, rounded up; the next change is fifteen sixteenths of the last, rounded down, at least 1
  pub first_change_lem : (T : Turns) (groomers slopes : ℕ) → (shift_start T groomers slopes).change ≡ (greatest_worth T + 3) / 4
  pub first_hall_change : (H : Hall) (vehicles : ℕ) → (hall_start H vehicles).change ≡ (greatest_of H.windows.worth (below (window_count H)) + 7) / 8
  pub next_change_lem : (change : ℕ) → next_change change ≡ max 1 (15 * change / 16)
  -- a turn's price changes by half of it, and at least by 1
  pub turn_change_lem : (change : ℕ) → turn_change change ≡ max 1 (change / 2)
  -- a price that no turn pays falls by the change, not below 0; one that a single turn pays stays
  pub price_without_payers : (change price : ℕ) → moved_price change 0 price ≡ price - change
  pub lone_price : (change price : ℕ) → moved_price change 1 price ≡ price
  -- a price that k turns pay, k above 1, rises to 60,000 at most; one of a minute in which more than the units is drawn, to 65,535; one of another minute falls, not below 0
  pub highest_price_lem : (change k price : ℕ) → 2 ≤ k → moved_price change k price ≡ min 60000 (price + (k - 1) * change)
  pub highest_minute : (change units drawn price : ℕ) → units < drawn → moved_minute change units drawn price ≡ min 65535 (price + (change * (drawn - units) + (units - 1)) / units)
  pub lower_minute : (change units drawn price : ℕ) → drawn ≤ units → moved_minute change units drawn price ≡ price - change * (units - drawn) / units
  -- a look's choice goes by the sheet's worths: first the relaxed set, then all, each from the greatest worth down (`by_worth` from its end) wherever it fits
  pub shift_chooses :
      (T : Turns) (groomers slopes : ℕ) (prices : List ℕ)
      → (shift_rule T groomers slopes).choice prices ≡ choose_each (fits T) (by_worth T) (choose_each (fits T) (keep (has (relaxed_set T slopes prices)) (by_worth T)) (replicate T.count false))
  pub hall_chooses :
      (H : Hall) (vehicles : ℕ) (prices : List ℕ)
      → (hall_rule H vehicles).choice prices
      ≡ choose_each (stays_allowed H) (by_worth H.windows) (choose_each (stays_allowed H) (keep (has (hall_relaxed H prices)) (by_worth H.windows)) (replicate (window_count H) false))
  -- a turn stands in that order before another exactly if it is worth less, or as much and has no lower number
  pub by_worth_lem : (T : Turns) (x y : ℕ) → poorer_first T x y ≡ (ltb (T.worth x) (T.worth y) || (eqb (T.worth x) (T.worth y) && leb y x))
  -- ---- the factors in the promises

  -- the worth of a set is the sum of its turns' worths, and 0 of the empty set
  pub empty_worth : (T : Turns) → worth_of T [] ≡ 0
  pub added_worth : (T : Turns) (t : ℕ) (R : List ℕ) → worth_of T (t ∷ R) ≡ T.worth t + worth_of T R
  -- without drivers no feasible set is worth more than twice the tally
  pub factor : {T : Turns} {S : List Bool} {tallied worth bound : ℕ} → Promises T S tallied worth bound → NoDrivers T → (R : List ℕ) → Feasible T R → worth_of T R ≤ 2 * tallied
  -- with drivers, than three times the tally, or twice where no slope has two turns
  pub driven_factor : {T : Turns} {S : List Bool} {tallied worth bound : ℕ} → Promises T S tallied worth bound → (R : List ℕ) → Feasible T R → worth_of T R ≤ 3 * tallied
  pub driven_one_turn : {T : Turns} {S : List Bool} {tallied worth bound : ℕ} → Promises T S tallied worth bound → OneTurnASlope T → (R : List ℕ) → Feasible T R → worth_of T R ≤ 2 * tallied
  -- no allowed set of windows is worth more than five times the hall's plan, and the units for each step of the small draws
  pub hall_factor : {H : Hall} → HallPromises H → (R : List ℕ) → Allowed H R → worth_of_windows H R ≤ 5 * hall_worth H + H.units * length (small_steps H)
  -- ---- the refusals

  -- each by its name; what it is given for stands beside its definition
  pub truncated_is : truncated ≡ 1
  pub bad_magic_is : bad_magic ≡ 2
  pub bad_counts_is : bad_counts ≡ 3
  pub too_many_turns_is : too_many_turns ≡ 4
  pub bad_map_is : bad_map ≡ 5
  pub bad_slope_is : bad_slope ≡ 6
  pub bad_groomer_is : bad_groomer ≡ 7
  pub bad_time_is : bad_time ≡ 8
  pub bad_worth_is : bad_worth ≡ 9
  pub trailing_bytes_is : trailing_bytes ≡ 10
  pub buffer_too_small_is : buffer_too_small ≡ 11
  pub malformed_board_is : malformed_board ≡ 12
  pub chosen_conflict_is : chosen_conflict ≡ 13
  pub not_maximal_is : not_maximal ≡ 14
  pub wrong_step_is : wrong_step ≡ 15
  pub turn_left_open_is : turn_left_open ≡ 16
  pub wrong_sums_is : wrong_sums ≡ 17
  pub partial_turn_is : partial_turn ≡ 18
  pub bad_driver_is : bad_driver ≡ 19
  pub too_many_for_short_is : too_many_for_short ≡ 20
  pub not_single_turns_is : not_single_turns ≡ 21
  pub too_many_to_search_is : too_many_to_search ≡ 22
  pub bad_seed_is : bad_seed ≡ 23
  pub bad_delays_is : bad_delays ≡ 24
  pub bad_draw_is : bad_draw ≡ 25
  pub bad_prices_is : bad_prices ≡ 26
