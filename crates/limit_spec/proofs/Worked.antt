-- The limits worked by hand hold: each line is computed. Assumes nothing.
use mathlib.Core.Path.{refl}
use Rattle.refusal.specs.Cause.{first_of}
use Rattle.wire.specs.Mark.{opens_with}
use Rattle.turn.specs.Turn.{outside_range, past_shift, turn_causes}
use Rattle.sheet.specs.Kind.{shift_sheet}
use Rattle.sheet.specs.Record.{width_of, field, turn_from, bad_map_for, end_at, turn_at, cursor_after, record_causes, first_cursor}
use Rattle.sheet.specs.Read.{count_causes, header_causes, records_causes, turns_from, causes_for, sheet_causes, turns_of}
use Rattle.lists.specs.Sorting.{insert_by, sort_by}
use Rattle.model.specs.Turns.{overlapping, overlap, one_groomer, one_driver, by_driver}
use Rattle.instance_spec.specs.Problem.{problem_of, sheet_turns}
use Rattle.best_spec.specs.Table.{later_first, turn_order, greater, in_the_way, blocked, best_table, best_over}
use Rattle.best_spec.specs.Groomers.{own_turns, groomer_worth, groomers_worth}
use Rattle.lists.specs.Lists.{keep}
use Rattle.limit_spec.specs.Prices.{slope_price, turn_price, pays_turn, paid_by, counts_for, priced_turns, price_sum, limit_by}
use Rattle.limit_spec.specs.Limit.{limit_causes, sheet_limit, limit_of}
use Rattle.limit_spec.specs.Cases.{LimitCases}
use Rattle.refusal.specs.Outcome.{unless}

pub limit_cases : LimitCases
unfolding first_of opens_with outside_range past_shift turn_causes shift_sheet width_of field turn_from bad_map_for end_at turn_at cursor_after record_causes first_cursor count_causes header_causes records_causes turns_from causes_for sheet_causes turns_of insert_by sort_by overlapping overlap one_groomer one_driver by_driver problem_of sheet_turns later_first turn_order greater in_the_way blocked best_table best_over keep own_turns groomer_worth groomers_worth slope_price turn_price pays_turn paid_by counts_for priced_turns price_sum limit_by limit_causes sheet_limit limit_of unless
limit_cases =
    record {
      free = refl;
      one_slope = refl;
      three_slopes = refl;
      greatest = refl;
    }
