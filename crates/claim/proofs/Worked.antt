-- The table of worked cases holds: each line is computed. Assumes nothing.
use mathlib.Core.Path.{refl}
use Rattle.refusal.specs.Cause.{first_of}
use Rattle.refusal.specs.Written.{written_unless}
use Rattle.wire.specs.Mark.{opens_with}
use Rattle.turn.specs.Turn.{rows, turns_of_table, outside_range, past_shift, turn_causes}
use Rattle.sheet.specs.Kind.{shift_sheet}
use Rattle.sheet.specs.Record.{width_of, field, turn_from, bad_map_for, end_at, turn_at, cursor_after, record_causes, first_cursor}
use Rattle.sheet.specs.Read.{count_causes, header_causes, records_causes, turns_from, causes_for, sheet_causes, turns_of, table_of, read_causes_for, read_for, read_of}
use Rattle.sheet.specs.Layout.{record_of}
use Rattle.lists.specs.Sorting.{insert_by, sort_by}
use Rattle.write_spec.specs.Order.{numbers_at_most, turn_at_most, sorted_turns}
use Rattle.write_spec.specs.Write.{map_for, records_of, sheet_of, turns_causes, table_causes, write_causes, write_of}
use Rattle.lists.specs.Lists.{every, tab}
use Rattle.model.specs.Turns.{overlapping, overlap, by_slope, one_groomer, by_groomer, one_driver, by_driver, conflict}
use Rattle.instance_spec.specs.Problem.{problem_of, sheet_turns}
use Rattle.model.specs.Steps.{is_open, left, initial, touches, lessened, change, after_step_by, conflict_takes, after_step, after_steps, tally}
use Rattle.model.specs.Pick.{sooner, better, best, pick, next_step, plan_by, plan, steps}
use Rattle.model.specs.Choice.{chosen, fits, choose, choose_each, back, fill, go_back, choice}
use Rattle.model.specs.Ceiling.{in_groups, hold_all, fewest_groups, step_cost, ceiling}
use Rattle.model.specs.Rules.{independent, maximal, no_earlier, right, all_right, none_open, sums}
use Rattle.choice_map.specs.Choice.{bit_of, chosen_in, choice_in, clear_past, byte_of, map_of}
use Rattle.board.specs.Board.{board_map, board_choice, steps_in, written_steps, step_bytes, board_of}
use Rattle.board_open.specs.Open.{bad_sizes, malformed, open_of, steps_part}
use Rattle.check_spec.specs.Check.{choice_causes, after_right, step_causes, rule_causes, sum_causes, board_causes, check_causes, check_of}
use Rattle.plan_spec.specs.Plan.{board_for, planned_board, plan_causes, plan_of}
use Rattle.text.specs.Decimal.{decimal_in, decimal}
use Rattle.list_spec.specs.Round.{starts_at, starts_below, round_from, round_of}
use Rattle.list_spec.specs.Text.{labelled, two_labelled, heading_of, line_of, lines_of, groomer_text, groomers_from, sums_line, listing_of}
use Rattle.list_spec.specs.List.{sums_for, listing_for, sheet_listing, list_causes, list_of}
use Rattle.claim.specs.Cases.{costs_of, WorkedCases}
use Rattle.refusal.specs.Outcome.{unless}

pub worked_cases : WorkedCases
unfolding costs_of insert_by sort_by numbers_at_most turn_at_most sorted_turns first_of opens_with width_of field turn_from bad_map_for end_at turn_at cursor_after record_causes first_cursor count_causes header_causes records_causes turns_from rows shift_sheet causes_for sheet_causes turns_of table_of read_causes_for read_for read_of outside_range past_shift turn_causes written_unless record_of map_for records_of sheet_of turns_of_table turns_causes table_causes write_causes write_of problem_of sheet_turns overlapping overlap by_slope one_groomer by_groomer one_driver by_driver conflict every tab is_open left initial touches lessened change after_step_by conflict_takes in_groups hold_all fewest_groups step_cost ceiling after_step after_steps tally sooner better best pick next_step plan_by plan steps chosen fits choose choose_each back fill go_back choice bit_of chosen_in choice_in clear_past byte_of map_of board_map board_choice steps_in written_steps step_bytes board_of bad_sizes malformed open_of steps_part board_for planned_board plan_causes plan_of decimal_in decimal starts_at starts_below round_from round_of labelled two_labelled heading_of line_of lines_of groomer_text groomers_from sums_line listing_of sums_for listing_for sheet_listing list_causes list_of independent maximal no_earlier right all_right none_open sums choice_causes after_right step_causes rule_causes sum_causes board_causes check_causes check_of unless
worked_cases =
    record {
      shift_read = refl;
      shift_written_lem = refl;
      shift_stepped = refl;
      shift_costs = refl;
      shift_gone_back = refl;
      shift_filled = refl;
      left_unfilled = refl;
      still_fits = refl;
      shift_planned = refl;
      shift_opened = refl;
      shift_steps_lem = refl;
      shift_checked = refl;
      steps_exchanged_lem = refl;
      shift_listed = refl;
      nothing_read = refl;
      nothing_planned = refl;
      nothing_checked = refl;
      empty_read = refl;
      empty_planned = refl;
      empty_checked = refl;
      most_read = refl;
      most_planned = refl;
      most_checked = refl;
      many_read = refl;
      many_planned = refl;
      many_checked = refl;
      end_read = refl;
      late_read = refl;
      worth_read = refl;
      dear_read = refl;
      wrong_worth_lem = refl;
      one_and_three_lem = refl;
    }
