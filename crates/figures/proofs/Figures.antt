-- The numbers are those: each equation is computed, or is a law with its number written out. Assumes nothing.
use Prim.Native.Nat.{◌+◌, ◌%◌}
use native.Mathlib.Omega.{arith}
use borrow.Author.Tests.{ne_eqb, lt-ltb, le-ltb}
use mathlib.Core.Path.{◌≡◌, refl, sym}
use native.Mathlib.Numerals.{unary_clauses}
use Rattle.turn.specs.Turn.{outside_range}
use Rattle.turn.proofs.Ranges.{inside_iff, within_iff}
use Rattle.sheet.specs.Kind.{shift_sheet, with_turns}
use Rattle.sheet.specs.Record.{width_of, field, turn_from}
use Rattle.sheet.proofs.Accepting.{read_accepted_iff}
use Rattle.sheet.specs.Short.{short_sheet}
use Rattle.sheet.proofs.Limits.{short_accepted_iff}
use Rattle.write_spec.proofs.RoundTrip.{write_room_iff}
use Rattle.archive_spec.specs.Column.{columns_of}
use Rattle.archive_spec.specs.Kept.{archive}
use Rattle.choice_map.specs.Choice.{bit_of, chosen_in}
use Rattle.board.specs.Board.{steps_in, written_steps}
use Rattle.archive_spec.proofs.KeptCauses.{keep_accepted_iff, restore_accepted_iff}
use Rattle.instance_spec.specs.Problem.{problem_of, sheet_turns}
use Rattle.plan_spec.proofs.PlanCauses.{plan_accepted_iff}
use Rattle.list_spec.proofs.Listed.{list_accepted_iff}
use Rattle.assign_spec.proofs.AssignCauses.{assign_accepted_iff}
use Rattle.best_spec.proofs.BestCauses.{best_accepted_iff}
use Rattle.improve_spec.proofs.ImproveCauses.{improve_accepted_iff, too_many_iff}
use Rattle.play_spec.proofs.PlayCauses.{play_accepted_iff}
use Rattle.draw_spec.specs.Draw.{next_draw, turn_drawn}
use Rattle.draw_spec.proofs.DrawCauses.{draw_accepted_iff}
use Rattle.draw_spec.proofs.Draws.{ten_thousandth, length_first, length_second, length_third, length_fourth}
use Rattle.charge_spec.specs.Hall.{is_wide, wide_draw}
use Rattle.charge_spec.specs.Plan.{rounded_up, small_takes}
use Rattle.charge_spec.specs.Charge.{charging_sheet}
use Rattle.limit_spec.specs.Prices.{slope_price, turn_price, pays_turn, paid_by, counts_for}
use Rattle.limit_spec.proofs.LimitCauses.{limit_accepted_iff}
use Rattle.refine_spec.specs.Rounds.{start_from, first_change, next_change}
use Rattle.refine_spec.specs.Shift.{moved_price, turn_change, shift_start, shift_rule}
use Rattle.hall_by_prices_spec.specs.Prices.{minute_price, minutes_cost, window_pays, window_counts, supply_cost}
use Rattle.hall_by_prices_spec.specs.Hall.{moved_minute, hall_start, hall_rule}
use Rattle.charge_spec.proofs.ChargeCauses.{charge_accepted_iff}
use Rattle.refine_spec.specs.Selection.{poorer_first, choice_from}
use Rattle.refine_spec.proofs.RefineCauses.{refine_accepted_iff}
use Rattle.hall_by_prices_spec.proofs.RefineCauses.{charge_refine_accepted_iff}
use Rattle.hall_by_prices_spec.proofs.LimitCauses.{charge_limit_accepted_iff}
use Rattle.figures.specs.Figures.{Figures}

pub figures : Figures
unfolding outside_range bit_of chosen_in shift_sheet with_turns width_of field turn_from short_sheet archive problem_of sheet_turns next_draw turn_drawn is_wide wide_draw rounded_up small_takes charging_sheet start_from first_change next_change moved_price turn_change shift_start window_pays supply_cost moved_minute hall_start slope_price turn_price minute_price poorer_first choice_from shift_rule hall_rule steps_in written_steps pays_turn paid_by counts_for minutes_cost window_counts columns_of
figures =
    record {
      groomers = refl;
      slopes = refl;
      turns = refl;
      minutes = refl;
      worth = refl;
      driver = refl;
      from_one = λ most. refl;
      to_most = inside_iff;
      times = within_iff;
      least_left = refl;
      gap = refl;
      sheet_gap = λ s. refl;
      sheet_mark_lem = refl;
      board_mark_lem = refl;
      kept_mark_lem = refl;
      charging_mark_lem = refl;
      two_bytes = λ s at. omega arith;
      four_bytes = λ s at. let e : at + 1 + 1 ≡ at + 2 = omega arith in rw e (omega arith);
      header = refl;
      header_counts = λ s. refl;
      header_turns = λ s. refl;
      first_map_lem = refl;
      full_map_lem = refl;
      slope_bytes = refl;
      groomer_bytes = refl;
      start_bytes = refl;
      length_bytes = refl;
      worth_bytes = refl;
      driver_bytes = refl;
      bit_0 = λ s at p. refl;
      bit_1 = λ s at p. simp unary_clauses refl;
      bit_2 = λ s at p. simp unary_clauses refl;
      bit_3 = λ s at p. simp unary_clauses refl;
      bit_4 = λ s at p. simp unary_clauses refl;
      bit_5 = λ s at p. simp unary_clauses refl;
      every_bit = λ s at p. simp unary_clauses refl;
      row = refl;
      reader_need = read_accepted_iff;
      shift_sheet_kind = refl;
      short_sheet_kind = refl;
      kept_kind = refl;
      columns = λ maps ts. refl;
      charging_kind = refl;
      board_header_lem = refl;
      board_turns_lem = refl;
      board_steps_lem = refl;
      board_tally_lem = refl;
      board_worth_lem = refl;
      map_bytes_lem = λ n. refl;
      step_bytes_lem = refl;
      step_at_lem = λ bytes i. refl;
      written_steps_lem = λ b. refl;
      map_bit = λ map t. refl;
      board_bytes = λ n m. refl;
      planner_need = plan_accepted_iff;
      short_reader_need = short_accepted_iff;
      write_need = write_room_iff;
      draw_need = λ seed counts turns lent. let q = draw_accepted_iff seed counts turns lent in (
        λ e. let (d, l, r) = q.0 e in ((d.from, d.to), l, r),
        λ (d, l, r). q.1 (record { from = d.0; to = d.1 }, l, r),
      );
      keep_need = keep_accepted_iff;
      restore_need = restore_accepted_iff;
      list_need = list_accepted_iff;
      assign_need = assign_accepted_iff;
      best_need = best_accepted_iff;
      improve_need = improve_accepted_iff;
      improve_many = too_many_iff;
      play_need = λ {s} y b delays lent. let q = play_accepted_iff s b delays lent y in (
        λ e. let (a, k, d, l) = q.0 e in (a, k, (d.each, d.within), l),
        λ (a, k, d, l). q.1 (a, k, record { each = d.0; within = d.1 }, l),
      );
      charge_need = charge_accepted_iff;
      refine_need = refine_accepted_iff;
      charge_refine_need = charge_refine_accepted_iff;
      short_turns_lem = refl;
      searched = refl;
      delay = refl;
      driving_over = refl;
      no_turn_lem = refl;
      units = refl;
      vehicles = refl;
      hall_gap_lem = refl;
      wide = λ H t. refl;
      small_share = λ H j amount t e f. rw (e, f);
      small_same = λ H j amount t e. rw e;
      small_none = λ H j amount t e f. rw (e, f);
      next_draw_lem = λ x. refl;
      seed = refl;
      ten_thousandth = ten_thousandth;
      draws = refl;
      drawn_slope = λ counts a b c d e. refl;
      drawn_groomer = λ counts a b c d e. refl;
      drawn_start = λ counts a b c d e. refl;
      drawn_worth = λ counts a b c d e. refl;
      drawn_driver = λ counts a b c d e. refl;
      to_39 = λ counts a b c d e h. sym (length_first (d % 100) h);
      to_69 = λ counts a b c d e h k. sym (length_second (d % 100) h k);
      to_89 = λ counts a b c d e h k. sym (length_third (d % 100) h k);
      to_99 = λ counts a b c d e h. sym (length_fourth (d % 100) h);
      shift_list = limit_accepted_iff;
      hall_list = charge_limit_accepted_iff;
      slope_place = λ prices slope. refl;
      turn_place_lem = λ slopes prices u. refl;
      minute_place = λ prices minute. refl;
      pays_turn_lem = λ T u t. refl;
      turn_pays = λ T slopes prices t. refl;
      turn_counts = λ T slopes prices t. refl;
      minutes_cost_lem = λ H prices t. refl;
      window_pays_lem = λ H prices t. refl;
      window_counts_lem = λ H prices t. refl;
      supply_costs = λ H prices. refl;
      first_change_lem = λ T groomers slopes. refl;
      first_hall_change = λ H vehicles. refl;
      next_change_lem = λ change. refl;
      turn_change_lem = λ change. refl;
      price_without_payers = λ change price. refl;
      lone_price = λ change price. refl;
      highest_price_lem = λ change k price l. rw (ne_eqb k 0 (λ e. omega (arith, l, e)), ne_eqb k 1 (λ e. omega (arith, l, e)));
      highest_minute = λ change units drawn price l. rw (lt-ltb units drawn l);
      lower_minute = λ change units drawn price l. rw (le-ltb units drawn l);
      empty_worth = λ T. refl;
      added_worth = λ T t R. refl;
      shift_chooses = λ T groomers slopes prices. refl;
      hall_chooses = λ H vehicles prices. refl;
      by_worth_lem = λ T x y. refl;
      factor = λ p. p.twice;
      driven_factor = λ p. p.thrice;
      driven_one_turn = λ p. p.twice_one_turn;
      hall_factor = λ p. p.hall_bound;
      truncated_is = refl;
      bad_magic_is = refl;
      bad_counts_is = refl;
      too_many_turns_is = refl;
      bad_map_is = refl;
      bad_slope_is = refl;
      bad_groomer_is = refl;
      bad_time_is = refl;
      bad_worth_is = refl;
      trailing_bytes_is = refl;
      buffer_too_small_is = refl;
      malformed_board_is = refl;
      chosen_conflict_is = refl;
      not_maximal_is = refl;
      wrong_step_is = refl;
      turn_left_open_is = refl;
      wrong_sums_is = refl;
      partial_turn_is = refl;
      bad_driver_is = refl;
      too_many_for_short_is = refl;
      not_single_turns_is = refl;
      too_many_to_search_is = refl;
      bad_seed_is = refl;
      bad_delays_is = refl;
      bad_draw_is = refl;
      bad_prices_is = refl;
    }
