-- What is promised, each promise in full: of the bytes that an entry is given, of what it returns, and of what the lent places hold then (documents 01, 02 and 03). No other record of promises is cited, so that what another record leaves out is noticed here. Assumes nothing.
use Rattle.std.specs.Prelude.{ℕ, suc, ◌+◌, ◌-◌, ◌*◌, ◌/◌, ◌%◌, ◌^◌, ◌≤◌, ◌<◌, ◌≡◌, ◌↔◌, ◌≢◌, ◌⊎◌, Bool, true, false, cond, List, [], ◌∷◌, ◌++◌, eqb, ℤ, length, get_or, take, drop, replicate}
use Rattle.lists.specs.Lists.{sum_over, below, All, In}
use Rattle.lists.specs.Order.{how_many}
use Rattle.refusal.specs.Outcome.{Outcome, beside}
use Rattle.refusal.specs.Written.{Written, kept, wrote, written_part}
use Rattle.wire.specs.Number.{Bytes}
use Rattle.wire.specs.Mark.{sheet_mark}
use Rattle.turn.specs.declared.Counts.{Counts}
use Rattle.turn.specs.declared.Turn.{Turn}
use Rattle.turn.specs.Turn.{counts_of, rows, table_rows, table_turns}
use Rattle.sheet.specs.Kind.{Kind, shift_sheet, with_turns}
use Rattle.sheet.specs.Read.{counts_in, turn_count, turns_of, read_refused, Reading, read_for, read_of}
use Rattle.sheet.specs.Layout.{header_for}
use Rattle.sheet.specs.Accepted.{SheetFor, AcceptedFor, Accepted, SheetCause, FirstReadCause}
use Rattle.sheet.specs.Short.{short_sheet, read_short_of, FirstShortCause}
use Rattle.write_spec.specs.Order.{SameTurns, InWrittenOrder}
use Rattle.write_spec.specs.Write.{write_of}
use Rattle.write_spec.specs.WriteCause.{FirstWriteCause}
use Rattle.draw_spec.specs.Draw.{draw_number, LengthAt}
use Rattle.draw_spec.specs.DrawnSheet.{draw_of}
use Rattle.draw_spec.specs.DrawCause.{FirstDrawCause}
use Rattle.archive_spec.specs.Kept.{records_body, sheet_maps, kept_of, kept_maps, kept_turns, restored_of}
use Rattle.archive_spec.specs.Archive.{keep_of, restore_of}
use Rattle.archive_spec.specs.AcceptedKept.{KeptFor, FirstKeepCause, FirstRestoreCause}
use Rattle.model.specs.Turns.{Turns, Conflict, NoDrivers}
use Rattle.model.specs.Steps.{Step, initial, after_step, total, tally}
use Rattle.model.specs.Pick.{steps}
use Rattle.model.specs.Choice.{has, chosen, fits, fill, choice}
use Rattle.model.specs.Filling.{FilledUp}
use Rattle.model.specs.Feasible.{Feasible, worth_of, OneTurnASlope}
use Rattle.model.specs.Ceiling.{step_cost, ceiling, Fewest}
use Rattle.model.specs.Rules.{Independent, Maximal, Right}
use Rattle.model.specs.IntervalSelection.{Selects}
use Rattle.instance_spec.specs.Problem.{sheet_turns, SheetConflict}
use Rattle.choice_map.specs.Choice.{map_bytes, map_of, chosen_in, choice_in, ones_in}
use Rattle.board.specs.Board.{board_turns, board_steps, board_tally, board_worth, board_map, board_choice, written_steps}
use Rattle.board_open.specs.Open.{open_of, steps_part, WellFormed, FirstOpenCause}
use Rattle.board_open.specs.Chosen.{count_of, turn_chosen}
use Rattle.board_open.specs.Part.{steps_part_at}
use Rattle.plan_spec.specs.Plan.{planned_board, plan_of, FirstPlanCause}
use Rattle.check_spec.specs.Check.{BoardKeeps, BoardCause, CheckCause, FirstCheckCause, check_of, checked}
use Rattle.list_spec.specs.Round.{round_of, Rising}
use Rattle.list_spec.specs.Text.{listing_of}
use Rattle.list_spec.specs.List.{list_of, FirstListCause}
use Rattle.assign_spec.specs.Numbering.{number_in, GreedyNumbers, Assignment, different, held_together}
use Rattle.assign_spec.specs.Assign.{assign_refused, assign_of, FirstAssignCause}
use Rattle.best_spec.specs.Table.{best_choice, is_among, Later}
use Rattle.best_spec.specs.Groomers.{groomer_worth, groomers_worth, OwnSet}
use Rattle.best_spec.specs.Best.{Earned, best_refused, best_of, FirstBestCause}
use Rattle.improve_spec.specs.Search.{none_taken, from_plan}
use Rattle.improve_spec.specs.Sets.{whole_visits, sets_of, sets_within, visit_costs, compared_all, ListedSet, SetOf, SetsInOrder, FirstMost}
use Rattle.improve_spec.specs.Improve.{Improvement, improve_refused, improved_for, improve_of, FirstImproveCause}
use Rattle.play_spec.specs.declared.Standing.{Standing}
use Rattle.play_spec.specs.declared.Stint.{Stint}
use Rattle.play_spec.specs.declared.PlayAnswer.{PlayAnswer}
use Rattle.play_spec.specs.Day.{delay_in, works, doing_at, is_work, is_drive, is_stand, DayIs, DoingIs}
use Rattle.play_spec.specs.Standing.{fresh_of, total_of, in_hand}
use Rattle.play_spec.specs.DayTable.{Days}
use Rattle.play_spec.specs.Minutes.{minute_of, minutes_from}
use Rattle.play_spec.specs.Play.{day_at, play_refused, play_of, FirstPlayCause}
use Rattle.limit_spec.specs.Prices.{turn_price, counts_for, priced_turns, price_sum, GroomerSet}
use Rattle.limit_spec.specs.Limit.{price_count, limit_is, limit_refused, limit_of, FirstLimitCause}
use Rattle.refine_spec.specs.Rounds.{greatest_of, LowestKept, BestKept}
use Rattle.refine_spec.specs.Shift.{greatest_worth, shift_rule}
use Rattle.refine_spec.specs.Refine.{Refinement, not_refined, refine_of, FirstRefineCause}
use Rattle.charge_spec.specs.Hall.{Hall, window_count, vehicle, is_wide, is_small, Allowed, AllowedChoice, FullAmong}
use Rattle.charge_spec.specs.Plan.{ChosenAmong, WideRun, SmallRun, wide_steps, small_steps, wide_choice, small_choice, worth_in, hall_choice}
use Rattle.charge_spec.specs.Charge.{hall_of, Charged, charge_refused, charge_of, FirstChargeCause}
use Rattle.hall_by_prices_spec.specs.Prices.{window_counts, richest_of, vehicle_best, supply_cost}
use Rattle.hall_by_prices_spec.specs.Hall.{hall_rule}
use Rattle.hall_by_prices_spec.specs.Limit.{charge_limit_of, FirstChargeLimitCause}
use Rattle.hall_by_prices_spec.specs.Refine.{ChargeRefinement, not_charge_refined, charge_refine_of, FirstChargeRefineCause}

-- ---- words for this page

-- no feasible set of these turns is worth more; no allowed set of a hall's windows is
abbrev pub CapsShift : Turns → ℕ → Type 0
CapsShift T most = (R : List ℕ) → Feasible T R → worth_of T R ≤ most

abbrev pub CapsHall : Hall → ℕ → Type 0
CapsHall H most = (R : List ℕ) → Allowed H R → sum_over H.windows.worth R ≤ most

-- a number above 0 is given exactly if the first cause has it, and then all that is returned and lent is as refused says
abbrev pub Refuses : {A : Type 0} → (ℕ → Type 0) → ℕ → A → (ℕ → A) → Type 0
Refuses first number x refused = ((k : ℕ) → (k ≡ 0 → ⊥) → (number ≡ k) ↔ first k) × ((number ≡ 0 → ⊥) → x ≡ refused number)

-- the map in lent bytes, a bit for each turn of the sheet; the turns whose bits are set
abbrev pub map_in : List ℕ → List ℕ → List ℕ
map_in s lent = take (map_bytes (turn_count s)) lent

abbrev pub shown_in : List ℕ → List ℕ → List Bool
shown_in s lent = choice_in (turn_count s) (map_in s lent)

-- ---- reading and writing

-- 01, the sheet; of the short reader, R-8. The reader accepts exactly a sheet with six places for each turn in the table; then answer and table have its counts and turns, and after them the table is as it was
pub record Reads (K : Kind) (s lent : List ℕ) (x : Reading) : Type 0 where
  pub accepts : (x.answer.refusal ≡ 0) ↔ ((a : AcceptedFor K s) × (6 * length a.turns ≤ length lent))
  pub answers : x.answer.refusal ≡ 0 → (a : AcceptedFor K s) → x.answer ≡ record { refusal = 0; groomers = a.counts.groomers; slopes = a.counts.slopes; turns = length a.turns }
  pub turns : x.answer.refusal ≡ 0 → (a : AcceptedFor K s) → take (6 * length a.turns) x.lent ≡ rows a.turns
  pub behind : x.answer.refusal ≡ 0 → (a : AcceptedFor K s) → drop (6 * length a.turns) x.lent ≡ drop (6 * length a.turns) lent

-- R-8, of two readings into the lent tables a and b: one answer, the same turns, and after them either table is as it was
pub record ReadsAlike (a b : List ℕ) (x y : Reading) : Type 0 where
  pub answer : x.answer ≡ y.answer
  pub turns : take (6 * x.answer.turns) x.lent ≡ take (6 * y.answer.turns) y.lent
  pub behind : drop (6 * x.answer.turns) x.lent ≡ drop (6 * x.answer.turns) a
  pub behind_too : drop (6 * y.answer.turns) y.lent ≡ drop (6 * y.answer.turns) b

-- R-1, R-5. The bytes b that were written are an accepted sheet of these counts
pub record Writes (counts : Counts) (table lent b : List ℕ) (x : Written) : Type 0 where
  pub many : length b ≡ x.answer.bytes
  pub bytes : Bytes b
  pub accepted : Accepted b
  pub counts_are : counts_in b ≡ counts
  -- read back they give the table's turns, each as often, in the written order
  pub read_answer : (place : List ℕ) → length table ≤ length place → (read_of b place).answer ≡ record { refusal = 0; groomers = counts.groomers; slopes = counts.slopes; turns = table_rows table }
  pub read_turns : (place : List ℕ) → length table ≤ length place → InWrittenOrder (table_turns table) (table_turns (take (length table) (read_of b place).lent))
  pub read_behind : (place : List ℕ) → length table ≤ length place → drop (length table) (read_of b place).lent ≡ drop (length table) place
  -- no sheet of these turns in that order is shorter, and none as short has other bytes
  pub shortest : {s : List ℕ} {ts : List Turn} → SheetFor shift_sheet s counts ts → InWrittenOrder (table_turns table) ts → length b ≤ length s
  pub only : {s : List ℕ} {ts : List Turn} → SheetFor shift_sheet s counts ts → InWrittenOrder (table_turns table) ts → length s ≡ length b → s ≡ b
  -- read and written again they are the same, and whatever order the table has
  pub again :
      (place other : List ℕ) → length table ≤ length place → length b ≤ length other
      → write_of (counts_of (read_of b place).answer.groomers (read_of b place).answer.slopes) (take (length table) (read_of b place).lent) other ≡ wrote b other
  pub one_sheet : (other : List ℕ) → SameTurns (table_turns table) (table_turns other) → length other % 6 ≡ 0 → write_of counts other lent ≡ x
  -- the first map is 3F if the first turn has a driver, and else 1F
  pub first_map_lem : (t : Turn) (ts : List Turn) → InWrittenOrder (table_turns table) (t ∷ ts) → (get_or b 7 0 ≡ 0x3F) ↔ (t.driver ≢ 0)
  pub first_map_else : (t : Turn) (ts : List Turn) → InWrittenOrder (table_turns table) (t ∷ ts) → t.driver ≡ 0 → get_or b 7 0 ≡ 0x1F
  pub behind : drop x.answer.bytes x.lent ≡ drop x.answer.bytes lent

-- R-11. Turn k of a seed, from 0, goes by draws 5k + 1 to 5k + 5, and has no driver
pub record Draws (counts : Counts) (seed k : ℕ) (t : Turn) : Type 0 where
  pub slope : t.slope ≡ 1 + draw_number (5 * k + 1) seed % counts.slopes
  pub groomer : t.groomer ≡ 1 + draw_number (5 * k + 2) seed % counts.groomers
  pub start : t.start ≡ draw_number (5 * k + 3) seed % 841
  pub length : LengthAt (draw_number (5 * k + 4) seed % 100) t.length
  pub worth : t.worth ≡ 1 + draw_number (5 * k + 5) seed % 60000
  pub driver : t.driver ≡ 0

-- R-12. A sheet s and a kept form k have the same counts, maps and turns: one record by record, the other by column
pub record TwoForms (s k : List ℕ) (counts : Counts) (maps : List ℕ) (turns : List Turn) : Type 0 where
  pub by_record : s ≡ header_for sheet_mark counts (length turns) ++ records_body maps turns
  pub by_column : KeptFor k counts maps turns

-- ---- the check and the claim

-- 01, third demand, of a board that passes: its turns S, its tally and worth, the ceiling that comes back. No two chosen turns conflict, every other conflicts with a chosen one
pub record Binds (T : Turns) (S : List Bool) (tallied worth bound : ℕ) : Type 0 where
  pub apart : Independent T S
  pub full : Maximal T S
  pub covered : tallied ≤ worth
  -- without drivers no feasible set is worth more than twice the tally, nor, where no slope has two turns, more than the board
  pub twice : NoDrivers T → CapsShift T (2 * tallied)
  pub exact : NoDrivers T → OneTurnASlope T → CapsShift T worth
  -- R-5, on every sheet, drivers or not: none is worth more than three times the tally, nor, where no slope has two turns, more than twice
  pub thrice : CapsShift T (3 * tallied)
  pub twice_single : OneTurnASlope T → CapsShift T (2 * tallied)
  -- R-7: nor more than the ceiling, which is the tally or more, and at most three times the tally, without drivers at most twice
  pub capped : CapsShift T bound
  pub ceiling_from : tallied ≤ bound
  pub ceiling_to : bound ≤ 3 * tallied
  pub ceiling_twice : NoDrivers T → bound ≤ 2 * tallied
  pub ceiling_exact : NoDrivers T → OneTurnASlope T → (bound ≡ tallied) × (tallied ≡ worth)

-- 01, third demand, of any two strings of bytes. A sheet is accepted exactly if no cause up to 10 is there, and what is read of it is what its bytes say
pub record Checks (s b : List ℕ) : Type 0 where
  pub accepted : Accepted s ↔ ((k r : ℕ) → SheetCause s k r → ⊥)
  pub counts : (a : Accepted s) → counts_in s ≡ a.counts
  pub turns : (a : Accepted s) → turns_of s ≡ a.turns
  pub count : (a : Accepted s) → turn_count s ≡ length a.turns
  -- a board passes exactly if the sheet is accepted and it keeps the rules, which is that it gives none of the causes 12 to 17
  pub exactly : ((check_of s b).refusal ≡ 0) ↔ (Accepted s × BoardKeeps s b)
  pub keeps : Accepted s → BoardKeeps s b ↔ ((k r : ℕ) → BoardCause (sheet_turns s) b k r → ⊥)
  pub passes : ((check_of s b).refusal ≡ 0) ↔ ((k r : ℕ) → CheckCause s b k r → ⊥)
  -- then tally and worth come back as they stand in it, with the ceiling
  pub answers : (check_of s b).refusal ≡ 0 → check_of s b ≡ checked 0 (board_tally b) (board_worth b) (ceiling (sheet_turns s) (written_steps b))
  -- R-7: the ceiling is what the steps count for, added up; a right step counts for its amount times the least number of groups that hold what it touches
  pub ceiling_sums : (xs : List Step) → ceiling (sheet_turns s) xs ≡ total (after_step (sheet_turns s)) (step_cost (sheet_turns s)) (initial (sheet_turns s)) xs
  pub counted : (r : List ℤ) (x : Step) → Right (sheet_turns s) r x → (k : ℕ) × Fewest (sheet_turns s) r x.turn k × (step_cost (sheet_turns s) r x ≡ k * x.amount)
  -- it binds every feasible set, whoever made it
  pub binds : (check_of s b).refusal ≡ 0 → Binds (sheet_turns s) (board_choice b) (board_tally b) (board_worth b) (check_of s b).ceiling

-- ---- the planner

-- 01, second demand, of the bytes b that the planner wrote: they pass
pub record Plans (s b : List ℕ) (T : Turns) : Type 0 where
  pub passes : (check_of s b).refusal ≡ 0
  -- the published algorithm returns a choice and makes steps, and whatever they are, the board has the choice, filled up in turn order, these steps, and their sums
  pub method_returns : (S : List Bool) × (xs : List Step) × Selects T S xs
  pub method : (S : List Bool) (xs : List Step) → Selects T S xs →
      (board_choice b ≡ fill (fits T) T.count S) × FilledUp T S (board_choice b) × (written_steps b ≡ xs) × (board_tally b ≡ tally xs) × (board_worth b ≡ chosen T.count (board_choice b) T.worth)

-- ---- the others by request

-- 01, the program slopes; R-7: the text is of the planner's board b, which chooses S, and of the check's answer for it
pub record ListsBoard (s b lent : List ℕ) (T : Turns) (S : List Bool) (x : Written) : Type 0 where
  pub passes : (check_of s b).refusal ≡ 0
  pub writes : x ≡ wrote (listing_of (counts_in s).groomers T S (record { worth = (check_of s b).worth; tally = (check_of s b).tally; ceiling = (check_of s b).ceiling })) lent
  -- below a groomer's heading stand exactly its chosen turns, by start; there are as many as ones in the map
  pub turns : (h u : ℕ) → In u (round_of T S h) ↔ ((u < T.count) × (has S u ≡ true) × (T.groomer u ≡ h))
  pub by_start : (h : ℕ) → Rising T (round_of T S h)
  pub turn_lines : sum_over (λ k. length (round_of T S (k + 1))) (below (counts_in s).groomers) ≡ ones_in (board_map b)

-- R-4. Each turn's number is the smallest that is free when its turn comes, and between two turns of one number lie ten minutes or more
pub record AssignsAll (T : Turns) (numbers : List ℕ) (used : ℕ) : Type 0 where
  pub greedy : GreedyNumbers T numbers
  pub apart : Assignment T (number_in numbers)
  -- how many are used comes back; it is the most turns that hold one minute, each ten minutes longer, and no assignment uses fewer
  pub used_are : different (number_in numbers) T.count ≡ used
  pub together_most : (minute : ℕ) → held_together T minute ≤ used
  pub together_some : (minute : ℕ) × (held_together T minute ≡ used)
  pub fewest : (f : ℕ → ℕ) → Assignment T f → used ≤ different f T.count

-- R-9. The set S that is shown has no conflict and earns the worth, and no feasible set earns more
pub record FindsBest (s lent : List ℕ) (T : Turns) (S : List Bool) (x : Earned) : Type 0 where
  pub set : S ≡ best_choice T
  pub places : length S ≡ T.count
  pub apart : Independent T S
  pub earns : chosen T.count S T.worth ≡ x.answer.worth
  pub attained : (R : List ℕ) × Feasible T R × (worth_of T R ≡ x.answer.worth)
  pub capped : CapsShift T x.answer.worth
  -- on equal worth the later turn is left out
  pub latest : (R : List ℕ) → Feasible T R → worth_of T R ≡ x.answer.worth → (u : ℕ) → has S u ≡ true → is_among R u ≡ false → (v : ℕ) × (is_among R v ≡ true) × (has S v ≡ false) × Later T v u
  -- the worth is the groomers' own bests added up
  pub by_groomer_lem : x.answer.worth ≡ groomers_worth T (counts_in s).groomers
  pub groomer_attained : (g : ℕ) → (R : List ℕ) × OwnSet T g R × (worth_of T R ≡ groomer_worth T g)
  pub groomer_most : (g : ℕ) (R : List ℕ) → OwnSet T g R → worth_of T R ≤ groomer_worth T g
  -- the planned board has this worth, this tally and this map
  pub planned_worth : board_worth (planned_board s) ≡ x.answer.worth
  pub planned_tally : board_tally (planned_board s) ≡ x.answer.worth
  pub planned_map : map_in s x.lent ≡ board_map (planned_board s)
  pub map : map_in s x.lent ≡ map_of S
  pub behind : drop (map_bytes (turn_count s)) x.lent ≡ drop (map_bytes (turn_count s)) lent

-- R-10. The turns S that come back have no conflict and earn the worth, no less than the planned board
pub record Searches (s : List ℕ) (limit : ℕ) (lent : List ℕ) (T : Turns) (S : List Bool) (x : Improvement) : Type 0 where
  pub places : length S ≡ T.count
  pub apart : Independent T S
  pub earns : chosen T.count S T.worth ≡ x.answer.worth
  pub no_less : board_worth (planned_board s) ≤ x.answer.worth
  -- there are as many visits as in the whole search, or the limit where that is less; the whole search ran exactly if the limit allows it
  pub all_used : limit ≤ whole_visits T → x.answer.visits ≡ limit
  pub all_made : whole_visits T ≤ limit → x.answer.visits ≡ whole_visits T
  pub countable : whole_visits T < 2 ^ 64
  pub ran_whole : (x.answer.whole ≡ true) ↔ (whole_visits T ≤ limit)
  -- if it ran whole, no feasible set earns more; a larger limit earns no less; worth and `above` make the plan's ceiling
  pub capped : x.answer.whole ≡ true → CapsShift T x.answer.worth
  pub larger : (more : ℕ) → limit ≤ more → (place : List ℕ) → map_bytes (turn_count s) ≤ length place → x.answer.worth ≤ (improve_of s more place).answer.worth
  pub to_ceiling : x.answer.worth + x.answer.above ≡ (check_of s (planned_board s)).ceiling
  pub ceiling_is : x.answer.worth + x.answer.above ≡ ceiling T (steps T)
  pub ceiling_caps : CapsShift T (x.answer.worth + x.answer.above)
  -- compared are the planned set, then the sets without conflict, those with a turn before those without it, as far as the visits pay; only greater worth replaces
  pub starts : board_choice (planned_board s) ≡ choice T
  pub sets : (U : List Bool) → ListedSet U (sets_of T T.count) ↔ SetOf T T.count U
  pub ordered : SetsInOrder (sets_of T T.count)
  pub all : whole_visits T ≤ limit → sets_within T limit ≡ sets_of T T.count
  pub worth_is : x.answer.worth ≡ (compared_all T (sets_within T limit) (from_plan T limit)).worth
  pub best_is : S ≡ (compared_all T (sets_within T limit) (from_plan T limit)).best
  pub first_most : FirstMost T S (choice T ∷ sets_within T limit)
  pub costs : length (visit_costs T T.count 0 (none_taken T)) ≡ length (sets_of T T.count)
  pub cost_all : sum_over (λ c. c) (visit_costs T T.count 0 (none_taken T)) ≡ whole_visits T
  pub plan_kept : x.answer.worth ≤ board_worth (planned_board s) → map_in s x.lent ≡ board_map (planned_board s)
  pub found : x ≡ improved_for T limit lent
  pub map : map_in s x.lent ≡ map_of S
  pub room : map_bytes (turn_count s) ≤ length lent
  pub behind : drop (map_bytes (turn_count s)) x.lent ≡ drop (map_bytes (turn_count s)) lent

-- R-13: a standing after minute m of a day has how many minutes were worked, driven over and stood, and the turn in hand
pub record StandsSo (day : List Stint) (m : ℕ) (x : Standing) : Type 0 where
  pub working : x.working ≡ how_many (λ k. is_work (doing_at day k)) (suc m)
  pub driving : x.driving ≡ how_many (λ k. is_drive (doing_at day k)) (suc m)
  pub standing : x.standing ≡ how_many (λ k. is_stand (doing_at day k)) (suc m)
  pub turn : x.turn ≡ in_hand (doing_at day m)
  pub minutes : x.working + x.driving + x.standing ≡ suc m

-- R-13, of a list moved from minute 0 on: one minute a step, each groomer's standing after each minute, and after the last the list that comes back
pub record MovesSo (n : ℕ) (day : ℕ → List Stint) (lent after : List Standing) (table : List ℕ) : Type 0 where
  pub one_minute : (m : ℕ) → minutes_from (suc m) 0 n lent table ≡ minute_of n 0 (minutes_from m 0 n lent table) table m
  pub each_minute : (m : ℕ) → m < 960 → (g : ℕ) → g < n → StandsSo (day g) m (get_or (minutes_from (suc m) 0 n lent table) g fresh_of)
  pub behind : (m : ℕ) → m < 960 → drop n (minutes_from (suc m) 0 n lent table) ≡ drop n lent
  pub last : minutes_from 960 0 n lent table ≡ after

-- R-13. The number n of groomers comes back; each one's day has its chosen turns by start, each late by its delay, and every minute is working, driving over or standing
pub record PlaysShift (T : Turns) (turns : ℕ) (S : List Bool) (delay : ℕ → ℕ) (n : ℕ) (day : ℕ → List Stint) (lent : List Standing) (x : Outcome PlayAnswer (List Standing)) : Type 0 where
  pub groomers : x.answer.groomers ≡ n
  pub days : (g : ℕ) → DayIs T S delay (suc g) (day g)
  pub doings : (g m : ℕ) → DoingIs (day g) m (doing_at (day g) m)
  pub own : (g m u : ℕ) → doing_at (day g) m ≡ works u → (has S u ≡ true) × (T.groomer u ≡ suc g)
  -- after the shift the list has each one's standing; its three counts make 960
  pub standings : (g : ℕ) → g < n → StandsSo (day g) 959 (get_or x.lent g fresh_of)
  pub whole : (g : ℕ) → g < n → total_of (get_or x.lent g fresh_of) ≡ 960
  pub behind : drop n x.lent ≡ drop n lent
  -- without delays each chosen turn is worked in exactly its planned minutes
  pub on_time : ((u : ℕ) → delay u ≡ 0) → (u : ℕ) → has S u ≡ true → (g : ℕ) × (g < n) × (T.groomer u ≡ suc g) × ((m : ℕ) → (doing_at (day g) m ≡ works u) ↔ ((T.start u ≤ m) × (m < T.end u)))
  -- then a groomer's minutes worked are the lengths of its chosen turns, added up; at the end a turn is in hand there exactly if it is chosen, of that groomer, and ends at 960
  pub on_time_worked : ((u : ℕ) → delay u ≡ 0) → (g : ℕ) → g < n → (get_or x.lent g fresh_of).working ≡ chosen turns S (λ u. cond (eqb (T.groomer u) (suc g)) (T.end u - T.start u) 0)
  pub on_time_turn : ((u : ℕ) → delay u ≡ 0) → (g : ℕ) → g < n → (u : ℕ) → u < turns → ((get_or x.lent g fresh_of).turn ≡ u) ↔ ((has S u ≡ true) × (T.groomer u ≡ suc g) × (T.end u ≡ 960))
  -- the list is moved minute by minute by any table of these days, and there is one
  pub table_there : (table : List ℕ) × Days T S delay table
  pub moves : (table : List ℕ) → Days T S delay table → MovesSo n day lent x.lent table

-- ---- prices

-- P-1. Whatever the prices, no feasible set earns more than the limit
pub record LimitsShift (s prices : List ℕ) (T : Turns) (most : ℕ → ℕ) (limit : ℕ) : Type 0 where
  pub capped : CapsShift T limit
  pub boards_capped : (b : List ℕ) → (check_of s b).refusal ≡ 0 → board_worth b ≤ limit
  -- what stands in the list for turns without a driver plays no part
  pub driverless :
      (other : List ℕ) → length other ≡ length prices → ((k : ℕ) → k < (counts_in s).slopes → get_or other k 0 ≡ get_or prices k 0)
      → ((u : ℕ) → u < turn_count s → T.driver u ≢ 0 → turn_price (counts_in s).slopes other u ≡ turn_price (counts_in s).slopes prices u) → limit_of s other ≡ limit_of s prices
  -- it is the prices and, groomer by groomer, the most that a set without conflict by groomer counts for
  pub parts : limit ≡ price_sum T (counts_in s).slopes prices + sum_over (λ k. most (k + 1)) (below (counts_in s).groomers)
  pub attained : (g : ℕ) → (R : List ℕ) × GroomerSet T g R × (sum_over (counts_for T (counts_in s).slopes prices) R ≡ most g)
  pub greatest : (g : ℕ) (R : List ℕ) → GroomerSet T g R → sum_over (counts_for T (counts_in s).slopes prices) R ≤ most g
  -- at prices of 0 it is R-9's worth, where that entry refuses nothing
  pub free : ((k : ℕ) → get_or prices k 0 ≡ 0) → limit ≡ groomers_worth T (counts_in s).groomers
  pub free_best : ((k : ℕ) → get_or prices k 0 ≡ 0) → (lent : List ℕ) → (best_of s lent).answer.refusal ≡ 0 → limit ≡ (best_of s lent).answer.worth

-- P-2, of the board b and the prices p that were written. The board passes, with the planned steps and tally, and is worth what comes back, no less than the planned one
pub record RefinesShift (s : List ℕ) (rounds : ℕ) (board prices b p : List ℕ) (T : Turns) (x : Refinement) : Type 0 where
  pub many : length b ≡ x.bytes
  pub passes : (check_of s b).refusal ≡ 0
  pub steps_same : written_steps b ≡ written_steps (planned_board s)
  pub tally_same : board_tally b ≡ board_tally (planned_board s)
  pub worth_is : board_worth b ≡ x.worth
  pub no_less : board_worth (planned_board s) ≤ x.worth
  -- at the prices that are written P-1 gives the same limit, which no feasible set exceeds; if it is the worth, none earns more than the board
  pub limit_is_lem : limit_of s p ≡ limit_is x.limit
  pub capped : CapsShift T x.limit
  pub worth_within : x.worth ≤ x.limit
  pub best : x.limit ≡ x.worth → CapsShift T (board_worth b)
  pub boards_capped : (c : List ℕ) → (check_of s c).refusal ≡ 0 → board_worth c ≤ x.limit
  pub best_board : x.limit ≡ x.worth → (c : List ℕ) → (check_of s c).refusal ≡ 0 → board_worth c ≤ board_worth b
  -- of the looks made, one more than the rounds, the prices are those of the first with the lowest limit; the choice is that of the first look whose choice is worth most, if it is worth more than the planned one
  pub prices_kept : LowestKept (shift_rule T (counts_in s).groomers (counts_in s).slopes) ((greatest_worth T + 3) / 4) (replicate (price_count s) 0) x.rounds x.limit p
  pub choice_kept : BestKept (shift_rule T (counts_in s).groomers (counts_in s).slopes) ((greatest_worth T + 3) / 4) (replicate (price_count s) 0) (board_choice (planned_board s)) x.rounds (board_choice b)
  -- more rounds give no less worth and no higher limit, as many give the same, whatever is lent
  pub more : (more : ℕ) (c q : List ℕ) → rounds ≤ more → (refine_of s more c q).refusal ≡ 0 → (x.worth ≤ (refine_of s more c q).worth) × ((refine_of s more c q).limit ≤ x.limit)
  pub places_apart : (c q : List ℕ) → (refine_of s rounds c q).refusal ≡ 0 → ((refine_of s rounds c q).worth ≡ x.worth) × ((refine_of s rounds c q).limit ≡ x.limit) × ((refine_of s rounds c q).rounds ≡ x.rounds)
  -- it ends at the first look at which limit and worth meet, or when the rounds are used up
  pub made : x.rounds ≤ rounds
  pub ended : (x.rounds ≡ rounds) ⊎ (x.limit ≡ x.worth)
  pub not_before : (k : ℕ) (c q : List ℕ) → k < x.rounds → (refine_of s k c q).refusal ≡ 0 → (refine_of s k c q).limit ≢ (refine_of s k c q).worth
  -- a turn that no driver is named for has price 0
  pub driverless : (u : ℕ) → u < T.count → T.driver u ≡ 0 → turn_price (counts_in s).slopes p u ≡ 0
  pub board_behind : drop x.bytes x.board ≡ drop x.bytes board
  pub prices_behind : drop (price_count s) x.prices ≡ drop (price_count s) prices

-- ---- the hall

-- R-14. The windows S are allowed and of one kind, and earn the worth
pub record ChargesHall (s lent : List ℕ) (H : Hall) (S : List Bool) (x : Charged) : Type 0 where
  pub allowed : AllowedChoice H S
  pub one_kind : ((t : ℕ) → has S t ≡ true → is_wide H t ≡ true) ⊎ ((t : ℕ) → has S t ≡ true → is_small H t ≡ true)
  pub earns : worth_in H S ≡ x.answer.worth
  -- they are the plan of greater worth, of the small draws on a tie, and no further window of the kind could be chosen
  pub set : S ≡ hall_choice H
  pub tie : worth_in H (wide_choice H) ≡ worth_in H (small_choice H) → hall_choice H ≡ small_choice H
  pub covers_wide : worth_in H (wide_choice H) ≤ x.answer.worth
  pub covers_small : worth_in H (small_choice H) ≤ x.answer.worth
  pub wide_plan : worth_in H (small_choice H) < worth_in H (wide_choice H) → S ≡ wide_choice H
  pub small_plan : worth_in H (wide_choice H) ≤ worth_in H (small_choice H) → S ≡ small_choice H
  -- each plan goes back over its steps and fills up; each step is on the window to pick, until none is open
  pub wide_run : WideRun H (wide_steps H)
  pub small_run : SmallRun H (small_steps H)
  pub wide_chosen : ChosenAmong H (is_wide H) (wide_steps H) (wide_choice H)
  pub small_chosen : ChosenAmong H (is_small H) (small_steps H) (small_choice H)
  pub wide_full : worth_in H (small_choice H) < worth_in H (wide_choice H) → FullAmong H (is_wide H) S
  pub small_full : worth_in H (wide_choice H) ≤ worth_in H (small_choice H) → FullAmong H (is_small H) S
  -- no allowed set is worth more than five times the plan and the units for each step of the small draws
  pub capped : CapsHall H (5 * x.answer.worth + H.units * length (small_steps H))
  -- an allowed set of wide windows is worth at most twice the wide tally; one of small windows at most three times the small tally and the units for each small step; each plan is worth its tally or more
  pub wide_capped : (R : List ℕ) → Allowed H R → All (λ t. is_wide H t ≡ true) R → sum_over H.windows.worth R ≤ 2 * tally (wide_steps H)
  pub wide_covered : tally (wide_steps H) ≤ worth_in H (wide_choice H)
  pub small_capped : (R : List ℕ) → Allowed H R → All (λ t. is_small H t ≡ true) R → sum_over H.windows.worth R ≤ 3 * tally (small_steps H) + H.units * length (small_steps H)
  pub small_covered : tally (small_steps H) ≤ worth_in H (small_choice H)
  pub map : map_in s x.lent ≡ map_of S
  pub behind : drop (map_bytes (turn_count s)) x.lent ≡ drop (map_bytes (turn_count s)) lent

-- P-3. Whatever the prices, no allowed set earns more than the limit
pub record LimitsHall (s prices : List ℕ) (H : Hall) (limit : ℕ) : Type 0 where
  pub capped : CapsHall H limit
  -- it is what the units cost and, vehicle by vehicle, the most that a window counts for
  pub parts : limit ≡ supply_cost H prices + sum_over (λ k. (vehicle_best H prices (k + 1)).worth) (below (counts_in s).slopes)
  pub greatest : (v t : ℕ) → t < window_count H → vehicle H t ≡ v → window_counts H prices t ≤ (vehicle_best H prices v).worth
  pub attained : (v : ℕ) → ((vehicle_best H prices v).worth ≡ 0) ⊎ ((t : ℕ) × (t < window_count H) × (vehicle H t ≡ v) × (window_counts H prices t ≡ (vehicle_best H prices v).worth))
  -- at prices of 0 it is the sum of the worths of the vehicles' richest windows
  pub free : ((k : ℕ) → get_or prices k 0 ≡ 0) → limit ≡ sum_over (λ k. (richest_of H H.windows.worth (k + 1) (turn_count s)).worth) (below (counts_in s).slopes)

-- P-3, by rounds. The windows S written are allowed and worth what comes back, no less than R-14's plan
pub record RefinesHall (s : List ℕ) (rounds : ℕ) (map prices : List ℕ) (H : Hall) (S : List Bool) (x : ChargeRefinement) : Type 0 where
  pub allowed : AllowedChoice H S
  pub map_is : map_in s x.map ≡ map_of S
  pub worth_is : worth_in H S ≡ x.worth
  pub no_less : (charge_of s map).answer.worth ≤ x.worth
  -- the rest as in P-2
  pub limit_is_lem : charge_limit_of s (take 960 x.prices) ≡ limit_is x.limit
  pub capped : CapsHall H x.limit
  pub worth_within : x.worth ≤ x.limit
  pub best : x.limit ≡ x.worth → CapsHall H (worth_in H S)
  pub prices_kept : LowestKept (hall_rule H (counts_in s).slopes) ((greatest_of H.windows.worth (below (window_count H)) + 7) / 8) (replicate 960 0) x.rounds x.limit (take 960 x.prices)
  pub choice_kept : BestKept (hall_rule H (counts_in s).slopes) ((greatest_of H.windows.worth (below (window_count H)) + 7) / 8) (replicate 960 0) (hall_choice H) x.rounds S
  pub more : (more : ℕ) (c q : List ℕ) → rounds ≤ more → (charge_refine_of s more c q).refusal ≡ 0 → (x.worth ≤ (charge_refine_of s more c q).worth) × ((charge_refine_of s more c q).limit ≤ x.limit)
  pub places_apart : (c q : List ℕ) → (charge_refine_of s rounds c q).refusal ≡ 0 →
      ((charge_refine_of s rounds c q).worth ≡ x.worth) × ((charge_refine_of s rounds c q).limit ≡ x.limit) × ((charge_refine_of s rounds c q).rounds ≡ x.rounds)
  pub made : x.rounds ≤ rounds
  pub ended : (x.rounds ≡ rounds) ⊎ (x.limit ≡ x.worth)
  pub not_before : (k : ℕ) (c q : List ℕ) → k < x.rounds → (charge_refine_of s k c q).refusal ≡ 0 → (charge_refine_of s k c q).limit ≢ (charge_refine_of s k c q).worth
  pub map_behind : drop (map_bytes (turn_count s)) x.map ≡ drop (map_bytes (turn_count s)) map
  pub prices_behind : drop 960 x.prices ≡ drop 960 prices

-- ---- the promises, of each entry's own answer and bytes, for all strings of bytes

pub record Promised : Type 0 where
  pub read : {s : List ℕ} → Bytes s → (lent : List ℕ) → Reads shift_sheet s lent (read_of s lent)
  pub read_short : {s : List ℕ} → Bytes s → (lent : List ℕ) → Reads short_sheet s lent (read_short_of s lent)
  -- R-8: what the short reader accepts it reads as a shift does
  pub read_alike : (s lent : List ℕ) → (read_short_of s lent).answer.refusal ≡ 0 → read_short_of s lent ≡ read_of s lent
  -- the two readers are one, at limits of 400 and 96. For any limits m and n, and numbers i and j for more turns: what both accept they read alike, and a sheet within both limits gets the same from both
  pub reader_is : (s lent : List ℕ) → read_of s lent ≡ read_for (with_turns shift_sheet 400 4) s lent
  pub short_reader_is : (s lent : List ℕ) → read_short_of s lent ≡ read_for (with_turns shift_sheet 96 20) s lent
  pub limits_alike : (K : Kind) (m i n j : ℕ) (s a b : List ℕ) → (read_for (with_turns K m i) s a).answer.refusal ≡ 0 → (read_for (with_turns K n j) s b).answer.refusal ≡ 0 →
      ReadsAlike a b (read_for (with_turns K m i) s a) (read_for (with_turns K n j) s b)
  pub limits_same : (K : Kind) (m i n j : ℕ) (s : List ℕ) → turn_count s ≤ m → turn_count s ≤ n → (lent : List ℕ) → read_for (with_turns K m i) s lent ≡ read_for (with_turns K n j) s lent
  pub write : (counts : Counts) (table lent : List ℕ) → (write_of counts table lent).answer.refusal ≡ 0 → Writes counts table lent (written_part (write_of counts table lent)) (write_of counts table lent)
  -- R-11: the sheet of a seed is what the writer gives for the drawn turns, and keeps all that the writer promises
  pub draw : (seed : ℕ) (counts : Counts) (turns : ℕ) (lent : List ℕ) → (draw_of seed counts turns lent).answer.refusal ≡ 0 →
      (ts : List Turn) × (length ts ≡ turns) × ((k : ℕ) (d : Turn) → k < turns → Draws counts seed k (get_or ts k d)) × (draw_of seed counts turns lent ≡ write_of counts (rows ts) lent)
      × Writes counts (rows ts) lent (written_part (write_of counts (rows ts) lent)) (write_of counts (rows ts) lent)
  -- R-12: what is written is the other form, and the lent bytes go on as they were
  pub keep_writes : (s lent : List ℕ) → (keep_of s lent).answer.refusal ≡ 0 → keep_of s lent ≡ wrote (kept_of s) lent
  pub keep_form : {s : List ℕ} → Bytes s → (lent : List ℕ) → (keep_of s lent).answer.refusal ≡ 0 → TwoForms s (kept_of s) (counts_in s) (sheet_maps s) (turns_of s)
  pub restore_writes : (k lent : List ℕ) → (restore_of k lent).answer.refusal ≡ 0 → restore_of k lent ≡ wrote (restored_of k) lent
  pub restore_form : {k : List ℕ} → Bytes k → (lent : List ℕ) → (restore_of k lent).answer.refusal ≡ 0 → TwoForms (restored_of k) k (counts_in k) (kept_maps k) (kept_turns k)
  -- kept and restored, or restored and kept, the very bytes come back
  pub keep_back : {s : List ℕ} → Bytes s → (lent other : List ℕ) → (keep_of s lent).answer.refusal ≡ 0 → length s ≤ length other → restore_of (written_part (keep_of s lent)) other ≡ wrote s other
  pub restore_back : {k : List ℕ} → Bytes k → (lent other : List ℕ) → (restore_of k lent).answer.refusal ≡ 0 → length k ≤ length other → keep_of (written_part (restore_of k lent)) other ≡ wrote k other
  -- 01, the board: opening accepts exactly a board; then the count is that of its chosen turns, and without a board it refuses
  pub opens : (b : List ℕ) → (open_of b ≡ 0) ↔ WellFormed b (board_turns b) (board_steps b)
  pub count : (b : List ℕ) → open_of b ≡ 0 → count_of b ≡ record { refusal = 0; turns = chosen (board_turns b) (board_choice b) (λ t. 1) }
  pub count_refuses : (b : List ℕ) → open_of b ≢ 0 → count_of b ≡ record { refusal = 12; turns = 0 }
  -- a turn is chosen exactly if there is a board that has it, and its bit stands
  pub is_chosen : (b : List ℕ) (t : ℕ) → (turn_chosen b t ≡ true) ↔ ((open_of b ≡ 0) × (t < board_turns b) × (chosen_in (board_map b) t ≡ true))
  pub chosen_has : (b : List ℕ) → open_of b ≡ 0 → (t : ℕ) → turn_chosen b t ≡ has (board_choice b) t
  -- the steps, four bytes each, follow the map; without a board they are empty; they are a part of the bytes
  pub steps : (b : List ℕ) → open_of b ≡ 0 → steps_part_at b ≡ record { start = 15 + (board_turns b + 7) / 8; length = 4 * board_steps b }
  pub steps_none : (b : List ℕ) → open_of b ≢ 0 → steps_part b ≡ []
  pub steps_part_lem : (b : List ℕ) → take (steps_part_at b).length (drop (steps_part_at b).start b) ≡ steps_part b
  -- R-2, R-5: two turns of a sheet conflict exactly if they have one slope, or have one groomer or one driver and either share a minute or one begins less than 10 minutes after the other ends
  pub conflicts : {s : List ℕ} → Bytes s → Accepted s → (x y : ℕ) → x < turn_count s → y < turn_count s → Conflict (sheet_turns s) x y ↔ SheetConflict s x y
  pub check : (s b : List ℕ) → Bytes s → Checks s b
  pub plan : {s : List ℕ} → Bytes s → (lent : List ℕ) → (plan_of s lent).answer.refusal ≡ 0 → Plans s (written_part (plan_of s lent)) (sheet_turns s)
  -- 01: the planner accepts exactly an accepted sheet with room for a board with a step a turn; the lent bytes then begin with its board and go on as they were
  pub plan_accepts : {s : List ℕ} → Bytes s → (lent : List ℕ) → ((plan_of s lent).answer.refusal ≡ 0) ↔ (Accepted s × (15 + (turn_count s + 7) / 8 + 4 * turn_count s ≤ length lent))
  pub plan_writes : {s : List ℕ} → Bytes s → (lent : List ℕ) → (plan_of s lent).answer.refusal ≡ 0 → plan_of s lent ≡ wrote (planned_board s) lent
  pub list : (s lent place : List ℕ) → (list_of s lent).answer.refusal ≡ 0 → (plan_of s place).answer.refusal ≡ 0 →
      ListsBoard s (written_part (plan_of s place)) lent (sheet_turns s) (board_choice (written_part (plan_of s place))) (list_of s lent)
  pub assign : (s lent : List ℕ) → (assign_of s lent).answer.refusal ≡ 0 → AssignsAll (sheet_turns s) (take (turn_count s) (assign_of s lent).lent) (assign_of s lent).answer.groomers
  pub assign_behind : (s lent : List ℕ) → (assign_of s lent).answer.refusal ≡ 0 → drop (turn_count s) (assign_of s lent).lent ≡ drop (turn_count s) lent
  pub best : (s lent : List ℕ) → (best_of s lent).answer.refusal ≡ 0 → FindsBest s lent (sheet_turns s) (shown_in s (best_of s lent).lent) (best_of s lent)
  pub improve : (s : List ℕ) (limit : ℕ) (lent : List ℕ) → (improve_of s limit lent).answer.refusal ≡ 0 → Searches s limit lent (sheet_turns s) (shown_in s (improve_of s limit lent).lent) (improve_of s limit lent)
  -- R-10: with no visits allowed, the planned board's worth and map come back
  pub improve_none : (s lent : List ℕ) → (improve_of s 0 lent).answer.refusal ≡ 0 → ((improve_of s 0 lent).answer.worth ≡ board_worth (planned_board s)) × (map_in s (improve_of s 0 lent).lent ≡ board_map (planned_board s))
  pub play : (s b delays : List ℕ) (lent : List Standing) → (play_of s b delays lent).answer.refusal ≡ 0 →
      PlaysShift (sheet_turns s) (turn_count s) (board_choice b) (delay_in delays) (counts_in s).groomers (day_at s b delays) lent (play_of s b delays lent)
  -- R-13: what the list held plays no part
  pub play_alike : (s b delays : List ℕ) (lent other : List Standing) → ((counts_in s).groomers ≤ length lent) ↔ ((counts_in s).groomers ≤ length other) →
      ((play_of s b delays lent).answer ≡ (play_of s b delays other).answer)
      × ((play_of s b delays lent).answer.refusal ≡ 0 → take (counts_in s).groomers (play_of s b delays lent).lent ≡ take (counts_in s).groomers (play_of s b delays other).lent)
  pub limit : (s prices : List ℕ) → (limit_of s prices).refusal ≡ 0 → LimitsShift s prices (sheet_turns s) (groomer_worth (priced_turns (sheet_turns s) (counts_in s).slopes prices)) (limit_of s prices).limit
  pub refine : (s : List ℕ) (rounds : ℕ) (board prices : List ℕ) → (refine_of s rounds board prices).refusal ≡ 0 →
      RefinesShift s rounds board prices (take (refine_of s rounds board prices).bytes (refine_of s rounds board prices).board) (take (price_count s) (refine_of s rounds board prices).prices) (sheet_turns s) (refine_of s rounds board prices)
  pub charge : (s lent : List ℕ) → (charge_of s lent).answer.refusal ≡ 0 → ChargesHall s lent (hall_of s) (shown_in s (charge_of s lent).lent) (charge_of s lent)
  pub charge_limit : (s prices : List ℕ) → (charge_limit_of s prices).refusal ≡ 0 → LimitsHall s prices (hall_of s) (charge_limit_of s prices).limit
  pub charge_refine : (s : List ℕ) (rounds : ℕ) (map prices : List ℕ) → (charge_refine_of s rounds map prices).refusal ≡ 0 →
      RefinesHall s rounds map prices (hall_of s) (shown_in s (charge_refine_of s rounds map prices).map) (charge_refine_of s rounds map prices)
  -- 01, first demand: a refusal is given exactly where its cause is the first, and leaves all that is lent as it was
  pub read_refuses : {s : List ℕ} → Bytes s → (lent : List ℕ) → Refuses (FirstReadCause s (length lent)) (read_of s lent).answer.refusal (read_of s lent) (λ k. beside (read_refused k) lent)
  pub short_refuses : {s : List ℕ} → Bytes s → (lent : List ℕ) → Refuses (FirstShortCause s (length lent)) (read_short_of s lent).answer.refusal (read_short_of s lent) (λ k. beside (read_refused k) lent)
  pub write_refuses : (counts : Counts) (table lent : List ℕ) → Refuses (FirstWriteCause counts table (length lent)) (write_of counts table lent).answer.refusal (write_of counts table lent) (λ k. kept k lent)
  pub draw_refuses : (seed : ℕ) (counts : Counts) (turns : ℕ) (lent : List ℕ) →
      Refuses (FirstDrawCause seed counts turns (length lent)) (draw_of seed counts turns lent).answer.refusal (draw_of seed counts turns lent) (λ k. kept k lent)
  pub keep_refuses : (s lent : List ℕ) → Refuses (FirstKeepCause s (length lent)) (keep_of s lent).answer.refusal (keep_of s lent) (λ k. kept k lent)
  pub restore_refuses : (s lent : List ℕ) → Refuses (FirstRestoreCause s (length lent)) (restore_of s lent).answer.refusal (restore_of s lent) (λ k. kept k lent)
  pub open_refuses : (b : List ℕ) → Refuses (FirstOpenCause b) (open_of b) (open_of b) (λ k. k)
  pub check_refuses : (s b : List ℕ) → Refuses (FirstCheckCause s b) (check_of s b).refusal (check_of s b) (λ k. checked k 0 0 0)
  pub plan_refuses : (s lent : List ℕ) → Refuses (FirstPlanCause s (length lent)) (plan_of s lent).answer.refusal (plan_of s lent) (λ k. kept k lent)
  pub list_refuses : (s lent : List ℕ) → Refuses (FirstListCause s (length lent)) (list_of s lent).answer.refusal (list_of s lent) (λ k. kept k lent)
  pub assign_refuses : (s lent : List ℕ) → Refuses (FirstAssignCause s (length lent)) (assign_of s lent).answer.refusal (assign_of s lent) (λ k. beside (assign_refused k) lent)
  pub best_refuses : (s lent : List ℕ) → Refuses (FirstBestCause s (length lent)) (best_of s lent).answer.refusal (best_of s lent) (λ k. beside (best_refused k) lent)
  pub improve_refuses : (s : List ℕ) (limit : ℕ) (lent : List ℕ) → Refuses (FirstImproveCause s (length lent)) (improve_of s limit lent).answer.refusal (improve_of s limit lent) (λ k. beside (improve_refused k) lent)
  pub play_refuses : (s b delays : List ℕ) (lent : List Standing) →
      Refuses (FirstPlayCause s b delays (length lent)) (play_of s b delays lent).answer.refusal (play_of s b delays lent) (λ k. beside (play_refused k) lent)
  pub limit_refuses : (s prices : List ℕ) → Refuses (FirstLimitCause s prices) (limit_of s prices).refusal (limit_of s prices) limit_refused
  pub refine_refuses : (s : List ℕ) (rounds : ℕ) (board prices : List ℕ) →
      Refuses (FirstRefineCause s (length board) (length prices)) (refine_of s rounds board prices).refusal (refine_of s rounds board prices) (λ k. not_refined k board prices)
  pub charge_refuses : (s lent : List ℕ) → Refuses (FirstChargeCause s (length lent)) (charge_of s lent).answer.refusal (charge_of s lent) (λ k. beside (charge_refused k) lent)
  pub charge_limit_refuses : (s prices : List ℕ) → Refuses (FirstChargeLimitCause s prices) (charge_limit_of s prices).refusal (charge_limit_of s prices) limit_refused
  pub charge_refine_refuses : (s : List ℕ) (rounds : ℕ) (map prices : List ℕ) →
      Refuses (FirstChargeRefineCause s (length map) (length prices)) (charge_refine_of s rounds map prices).refusal (charge_refine_of s rounds map prices) (λ k. not_charge_refined k map prices)
