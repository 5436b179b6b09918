-- Each promise is taken out of the theorem that has it, under the type that the page writes out. Assumes nothing.
use Prim.Native.Nat.{ℕ, ◌+◌, ◌*◌, ◌/◌, ◌≤◌, ◌<◌}
use native.Mathlib.Omega.{arith}
use mathlib.Core.Path.{◌≡◌, refl, sym, ap, ◌∙◌}
use mathlib.Core.Logic.{◌↔◌}
use mathlib.Core.Bool.{Bool, true, not, ◌&&◌}
use mathlib.Core.List.{List}
use lib.ListN.{length, take, drop}
use lib.Seq.{take-append_seam}
use lib.Dec.{ltb}
use borrow.Author.Tests.{lt-ltb, ltb-true, not-true}
use native.Mathlib.Decide.{dec_lt, ℕ_discrete}
use Rattle.lists.proofs.Bools.{and_1, and_2}
use Rattle.refusal.specs.Written.{wrote, written_part}
use Rattle.refusal.proofs.Written.{written_all}
use Rattle.refusal.proofs.Outcome.{number_refused}
use Rattle.refusal.specs.Cause.{first_of}
use Rattle.wire.specs.Number.{Bytes}
use Rattle.turn.specs.declared.Counts.{Counts}
use Rattle.sheet.specs.Kind.{Kind, shift_sheet, with_turns}
use Rattle.sheet.specs.Read.{counts_in, turn_count, turns_of, sheet_causes, Reading, read_for, read_of}
use Rattle.sheet.specs.Short.{short_sheet, read_short_of}
use Rattle.sheet.specs.Promises.{ReadPromisedFor}
use Rattle.sheet.specs.Accepted.{Accepted}
use Rattle.sheet.proofs.SoundKinds.{shift_sheet_sound}
use Rattle.sheet.proofs.Accepting.{sheet_reads, accepted_iff}
use Rattle.sheet.proofs.ReadCauses.{read_refused_iff}
use Rattle.sheet.proofs.Promised.{read_promised}
use Rattle.sheet.proofs.Limits.{within_both, both_alike, short_refused_iff, short_promised, short_same}
use Rattle.write_spec.specs.Write.{write_of}
use Rattle.write_spec.specs.Promises.{WritePromised}
use Rattle.write_spec.proofs.WriteCauses.{write_refused_iff, write_unchanged}
use Rattle.write_spec.proofs.Promised.{write_promised}
use Rattle.draw_spec.proofs.DrawCauses.{draw_refused_iff, draw_unchanged}
use Rattle.draw_spec.proofs.DrawnSheets.{draw_promised}
use Rattle.archive_spec.specs.Kept.{sheet_maps, kept_of, kept_maps, kept_turns, restored_of}
use Rattle.archive_spec.specs.Archive.{keep_causes, keep_of, restore_causes, restore_of}
use Rattle.archive_spec.proofs.Accepting.{kept_reads, reads_kept}
use Rattle.archive_spec.proofs.KeptCauses.{keep_accepted_iff, restore_accepted_iff, keep_refused_iff, keep_unchanged, restore_refused_iff, restore_unchanged}
use Rattle.archive_spec.proofs.RoundTrip.{sheet_named, sheet_maps_lem, sheet_kept, kept_sheet, keep_then_restore, restore_then_keep}
use Rattle.model.specs.Turns.{Turns, Conflict}
use Rattle.model.specs.Choice.{chosen}
use Rattle.model.proofs.Minutes.{conflict_is}
use Rattle.model.specs.Promises.{Promises}
use Rattle.model.specs.Ceiling.{fewest_groups, step_cost, ceiling}
use Rattle.model.proofs.Ceilings.{fewest_is}
use Rattle.instance_spec.specs.Problem.{sheet_turns, SheetConflict}
use Rattle.instance_spec.proofs.SheetTurns.{sheet_count, sheet_lengths, sheet_conflict}
use Rattle.choice_map.specs.Choice.{chosen_in}
use Rattle.board.specs.Board.{board_turns, board_steps, board_worth, board_map, board_choice}
use Rattle.board_open.specs.declared.opening.CountAnswer.{CountAnswer}
use Rattle.board_open.specs.Open.{malformed, open_of}
use Rattle.board_open.specs.Chosen.{counted, turn_chosen}
use Rattle.board_open.specs.Part.{steps_part_at}
use Rattle.board_open.proofs.Openings.{opened, shut, part_none}
use Rattle.board_open.proofs.OpenCauses.{formed_board, open_accepted_iff, open_first_iff}
use Rattle.board_open.proofs.Chosen.{count_refused, count_given, count_turns, chosen_turn}
use Rattle.board_open.proofs.Parts.{part_named}
use Rattle.plan_spec.specs.Plan.{planned_board, plan_of}
use Rattle.plan_spec.proofs.PlanCauses.{plan_refused_iff, plan_unchanged}
use Rattle.check_spec.specs.declared.CheckAnswer.{CheckAnswer}
use Rattle.check_spec.specs.Check.{check_causes, checked, check_of}
use Rattle.check_spec.proofs.CheckCauses.{check_refused_iff}
use Rattle.list_spec.specs.List.{list_of}
use Rattle.list_spec.proofs.Listed.{list_refused_iff, list_unchanged}
use Rattle.assign_spec.specs.Assign.{assign_of}
use Rattle.assign_spec.proofs.AssignCauses.{assign_refused_iff, assign_unchanged}
use Rattle.assign_spec.proofs.Promised.{assign_promised}
use Rattle.best_spec.specs.Groomers.{groomer_worth}
use Rattle.best_spec.specs.Best.{best_of}
use Rattle.best_spec.proofs.BestCauses.{best_clear, best_refused_iff, best_unchanged}
use Rattle.best_spec.proofs.Promised.{best_of_sheet, best_promised}
use Rattle.improve_spec.specs.Improve.{improve_of}
use Rattle.improve_spec.proofs.ImproveCauses.{clear_iff, improve_number, improve_refused_iff, improve_unchanged}
use Rattle.improve_spec.proofs.SheetPromised.{improved_sheet, none_allowed_plan}
use Rattle.play_spec.specs.declared.Stint.{Stint}
use Rattle.play_spec.specs.declared.Standing.{Standing}
use Rattle.play_spec.specs.Standing.{StandingIs}
use Rattle.play_spec.specs.Day.{delay_in}
use Rattle.play_spec.specs.Play.{day_at, play_of}
use Rattle.play_spec.proofs.PlayCauses.{play_refused_iff, play_unchanged}
use Rattle.play_spec.proofs.Promised.{play_promised, play_alike}
use Rattle.limit_spec.specs.declared.LimitAnswer.{LimitAnswer}
use Rattle.limit_spec.specs.Prices.{priced_turns}
use Rattle.limit_spec.specs.Limit.{price_count, limit_causes, limit_refused, limit_of}
use Rattle.limit_spec.proofs.LimitCauses.{limit_refused_iff}
use Rattle.limit_spec.proofs.Promised.{limit_promised}
use Rattle.refine_spec.specs.Rounds.{first_change}
use Rattle.refine_spec.specs.Refine.{Refinement, board_with, refinement_of, refine_of}
use Rattle.refine_spec.proofs.RefineCauses.{sheet_refined, refine_is, refine_refused_iff, refine_unchanged}
use Rattle.refine_spec.proofs.Promised.{refine_promised}
use Rattle.charge_spec.specs.Hall.{Hall}
use Rattle.charge_spec.specs.Plan.{wide_choice, small_choice, worth_in, greater_of, hall_choice}
use Rattle.charge_spec.specs.Charge.{hall_of, charge_of}
use Rattle.charge_spec.proofs.Runs.{wide_steps_are, small_steps_are}
use Rattle.charge_spec.proofs.Halls.{greater_first, greater_second}
use Rattle.charge_spec.proofs.ChargeCauses.{charge_promises, charge_refused_iff, charge_unchanged}
use Rattle.charge_spec.proofs.SheetPromised.{charge_promised}
use Rattle.hall_by_prices_spec.specs.Limit.{charge_limit_causes, charge_limit_of}
use Rattle.hall_by_prices_spec.specs.Refine.{charge_refine_of}
use Rattle.hall_by_prices_spec.proofs.LimitCauses.{charge_limit_refused_iff}
use Rattle.hall_by_prices_spec.proofs.Promised.{charge_limit_promised}
use Rattle.hall_by_prices_spec.proofs.RefineCauses.{charge_refine_refused_iff, charge_refine_unchanged}
use Rattle.hall_by_prices_spec.proofs.Refined.{charge_refine_promised}
use Rattle.claim.proofs.Claimed.{claim, planned_answer, plan_front}
use Rattle.claim.proofs.Listed.{list_promised}
use Rattle.figures.specs.Promised.{map_in, shown_in, Reads, Writes, TwoForms, Binds, Checks, Plans, ListsBoard, AssignsAll, FindsBest, Searches, StandsSo, PlaysShift, LimitsShift, RefinesShift, ChargesHall, LimitsHall, RefinesHall, Promised}

reads : {K : Kind} {s lent : List ℕ} {x : Reading} → ReadPromisedFor K s lent x → Reads K s lent x
reads p =
    record {
      accepts = p.exactly;
      answers = λ z a. (p.reads z a).answer;
      turns = λ z a. (p.reads z a).front;
      behind = λ z a. (p.reads z a).behind;
    }

writes : {counts : Counts} {table lent : List ℕ} → WritePromised counts table lent → Writes counts table lent (written_part (write_of counts table lent)) (write_of counts table lent)
writes p =
    record {
      many = p.many;
      bytes = p.below;
      accepted = p.accepted;
      counts_are = p.its_counts;
      read_answer = p.read_answer;
      read_turns = p.read_turns;
      read_behind = p.read_behind;
      shortest = p.shortest;
      only = p.only;
      again = p.again;
      one_sheet = p.one_sheet;
      first_map_lem = p.first_map_lem;
      first_map_else = p.first_map_else;
      behind = p.behind;
    }

binds : {T : Turns} {S : List Bool} {tallied worth bound : ℕ} → Promises T S tallied worth bound → Binds T S tallied worth bound
binds p =
    record {
      apart = p.apart;
      full = p.maximal;
      covered = p.covered;
      twice = p.twice;
      exact = p.exact;
      thrice = p.thrice;
      twice_single = p.twice_one_turn;
      capped = p.within_ceiling;
      ceiling_from = p.ceiling_from;
      ceiling_to = p.ceiling_to;
      ceiling_twice = p.ceiling_to_twice;
      ceiling_exact = p.ceiling_exact;
    }

module _ (s b : List ℕ) (y : Bytes s) where
  checks : Checks s b
  unfolding ceiling step_cost
  checks =
      let c = claim s b y in
      record {
        accepted = c.accepted_no_cause;
        counts = λ a. (c.reading a).counts;
        turns = λ a. (c.reading a).turns;
        count = λ a. (c.reading a).count;
        exactly = c.exactly;
        keeps = c.keeps_no_cause;
        passes = c.passes_no_cause;
        answers = c.answers;
        ceiling_sums = λ xs. refl;
        counted = λ r x right. (fewest_groups (sheet_turns s) r x.turn, fewest_is (sheet_turns s) r x right, refl);
        binds = λ z. binds (c.promises z);
      }

-- the claim of s and any b has these: b plays no part in them
module _ {s : List ℕ} (y : Bytes s) (lent : List ℕ) (z : (plan_of s lent).answer.refusal ≡ 0) where
  plans : Plans s (written_part (plan_of s lent)) (sheet_turns s)
  plans =
      let c = claim s s y in
      let a = ((c.plans lent).0 z).0 in
      rw (plan_front s lent z)
      (record {
        passes = c.ours a;
        method_returns = c.method_returns a;
        method = λ S xs d. let m = c.method a S xs d in (m.choice, m.filled, m.steps, m.tally_is, m.worth_is);
      })

module _ (s lent place : List ℕ) (z : (list_of s lent).answer.refusal ≡ 0) (e : (plan_of s place).answer.refusal ≡ 0) where
  lists_board : ListsBoard s (written_part (plan_of s place)) lent (sheet_turns s) (board_choice (written_part (plan_of s place))) (list_of s lent)
  lists_board =
      let p = list_promised s lent z place e in
      record { passes = p.passes; writes = p.writes; turns = λ h. (p.rounds h).turns; by_start = λ h. (p.rounds h).by_start; turn_lines = p.turn_lines }

module _ (s lent : List ℕ) (z : (assign_of s lent).answer.refusal ≡ 0) where
  assigns_all : AssignsAll (sheet_turns s) (take (turn_count s) (assign_of s lent).lent) (assign_of s lent).answer.groomers
  assigns_all =
      let n = (assign_promised s lent z).numbered in
      record {
        greedy = n.greedy;
        apart = n.no_overlap;
        used_are = n.uses;
        together_most = n.no_minute_above;
        together_some = n.some_minute;
        fewest = n.fewest;
      }

module _ (s lent : List ℕ) (z : (best_of s lent).answer.refusal ≡ 0) where
  finds_best : FindsBest s lent (sheet_turns s) (shown_in s (best_of s lent).lent) (best_of s lent)
  finds_best =
      let p = best_promised s lent z in
      let (e, d, o, l) = best_clear s lent z in
      let q = best_of_sheet s e d o in
      record {
        set = p.set;
        places = p.places;
        apart = p.apart;
        earns = p.earns;
        attained = p.attained;
        capped = p.greatest;
        latest = p.latest;
        by_groomer_lem = p.by_groomer_lem;
        groomer_attained = λ g. (p.groomer_most g).attained;
        groomer_most = λ g. (p.groomer_most g).greatest;
        planned_worth = p.planned_worth;
        planned_tally = q.tallied ∙ sym q.planned_worth ∙ p.planned_worth;
        planned_map = p.planned_map;
        map = p.map;
        behind = p.behind;
      }

module _ (s : List ℕ) (limit : ℕ) (lent : List ℕ) (z : (improve_of s limit lent).answer.refusal ≡ 0) where
  searched_clear : first_of (sheet_causes s) ≡ 0
  searched_clear = ((clear_iff s (length lent)).0 (sym (improve_number s lent limit) ∙ z)).0

  searches : Searches s limit lent (sheet_turns s) (shown_in s (improve_of s limit lent).lent) (improve_of s limit lent)
  searches =
      let p = improved_sheet s limit lent z in
      let c = p.compares in
      record {
        places = p.places;
        apart = p.apart;
        earns = p.earns;
        no_less = p.no_less;
        all_used = p.all_used;
        all_made = p.all_made;
        countable = p.countable;
        ran_whole = p.ran_whole;
        capped = p.greatest;
        larger = p.larger;
        to_ceiling = p.up_to_ceiling ∙ ap (λ (a : CheckAnswer). a.ceiling) (sym (planned_answer s searched_clear));
        ceiling_is = p.up_to_ceiling;
        ceiling_caps = p.bounded;
        starts = p.starts;
        sets = c.sets;
        ordered = c.ordered;
        all = c.all;
        worth_is = c.worth_is;
        best_is = c.best_is;
        first_most = c.first_most;
        costs = c.costs;
        cost_all = c.cost_all;
        plan_kept = p.plan_kept;
        found = p.found;
        map = p.map;
        room = p.room;
        behind = p.behind;
      }

stands_so : {day : List Stint} {m : ℕ} {x : Standing} → StandingIs day m x → StandsSo day m x
stands_so p = record { working = p.working_is; driving = p.driving_is; standing = p.standing_is; turn = p.turn_is; minutes = p.minutes }

module _ (s b delays : List ℕ) (lent : List Standing) (z : (play_of s b delays lent).answer.refusal ≡ 0) where
  plays_shift : PlaysShift (sheet_turns s) (turn_count s) (board_choice b) (delay_in delays) (counts_in s).groomers (day_at s b delays) lent (play_of s b delays lent)
  plays_shift =
      let p = play_promised s b delays lent z in
      record {
        groomers = p.groomers_are;
        days = p.days;
        doings = p.doings;
        own = p.its_own;
        standings = λ g l. stands_so (p.standings g l);
        whole = p.whole;
        behind = p.behind;
        on_time = λ n u h. let (g, l, own, t) = p.on_time n u h in (g, l, own, λ m. (t.only m, λ (f, e). t.planned m f e));
        on_time_worked = p.on_time_worked;
        on_time_turn = p.on_time_turn;
        table_there = p.table_there;
        moves = λ table w. let q = p.by_minutes table w in record { one_minute = q.one_minute; each_minute = λ m l g h. stands_so (q.standings m l g h); behind = q.behind; last = q.last };
      }

module _ (s prices : List ℕ) (z : (limit_of s prices).refusal ≡ 0) where
  limits_shift : LimitsShift s prices (sheet_turns s) (groomer_worth (priced_turns (sheet_turns s) (counts_in s).slopes prices)) (limit_of s prices).limit
  limits_shift =
      let p = limit_promised s prices z in
      record { capped = p.within; boards_capped = p.boards_within; driverless = λ other l f g. p.driverless other (record { lengths = l; slopes = f; turns = g }); parts = p.parts; attained = λ g. (p.groomer_most g).attained; greatest = λ g. (p.groomer_most g).greatest; free = p.free; free_best = p.free_best }

-- the board is as long as the answer says
board_long : (s : List ℕ) (rounds : ℕ) (board prices : List ℕ) → (refine_of s rounds board prices).refusal ≡ 0 → length (take (refine_of s rounds board prices).bytes (refine_of s rounds board prices).board) ≡ (refine_of s rounds board prices).bytes
unfolding refinement_of
board_long s rounds board prices z =
    let r = refine_is s rounds board prices z in
    let text = board_with (sheet_turns s) (sheet_refined s rounds).choice in
    ap (λ (x : Refinement). length (take x.bytes x.board)) r ∙ ap length (take-append_seam text (drop (length text) board)) ∙ ap (λ (x : Refinement). x.bytes) (sym r)

module _ (s : List ℕ) (rounds : ℕ) (board prices : List ℕ) (z : (refine_of s rounds board prices).refusal ≡ 0) where
  refines_shift :
      RefinesShift s rounds board prices (take (refine_of s rounds board prices).bytes (refine_of s rounds board prices).board) (take (price_count s) (refine_of s rounds board prices).prices) (sheet_turns s)
      (refine_of s rounds board prices)
  unfolding first_change
  refines_shift =
      let p = refine_promised s rounds board prices z in
      record {
        many = board_long s rounds board prices z;
        passes = p.passes;
        steps_same = p.steps_same;
        tally_same = p.tally_same;
        worth_is = p.worth_is;
        no_less = p.no_less;
        limit_is_lem = p.limit_is_lem;
        capped = p.within;
        worth_within = p.worth_within;
        best = p.best;
        boards_capped = p.boards_within;
        best_board = p.best_board;
        prices_kept = p.prices_kept;
        choice_kept = p.choice_kept;
        more = λ more c q l e. (p.more_worth more c q l e, p.more_limit more c q l e);
        places_apart = p.places_apart;
        made = p.made;
        ended = p.ended;
        not_before = p.not_before;
        driverless = p.driverless;
        board_behind = p.board_rest;
        prices_behind = p.prices_rest;
      }

module _ (s lent : List ℕ) (z : (charge_of s lent).answer.refusal ≡ 0) where
  abbrev H : Hall
  H = hall_of s

  -- the windows shown are the hall's choice: of the two plans the one of greater worth
  plan_set : shown_in s (charge_of s lent).lent ≡ hall_choice H
  unfolding hall_choice
  plan_set = go (dec_lt (worth_in H (small_choice H)) (worth_in H (wide_choice H)))
    where
      go : Dec (worth_in H (small_choice H) < worth_in H (wide_choice H)) → shown_in s (charge_of s lent).lent ≡ greater_of H (wide_choice H) (small_choice H)
      go (yes l) = (charge_promised s lent z).wide_plan l ∙ sym (greater_first H (wide_choice H) (small_choice H) l)
      go (no n) = let l : worth_in H (wide_choice H) ≤ worth_in H (small_choice H) = omega arith in (charge_promised s lent z).small_plan l ∙ sym (greater_second H (wide_choice H) (small_choice H) l)

  charges_hall : ChargesHall s lent (hall_of s) (shown_in s (charge_of s lent).lent) (charge_of s lent)
  charges_hall =
      let p = charge_promised s lent z in
      let q = charge_promises s lent z in
      record {
        allowed = p.allowed;
        one_kind = p.one_kind;
        earns = p.earns;
        covers_wide = p.covers_wide;
        covers_small = p.covers_small;
        wide_plan = p.wide_plan;
        small_plan = p.small_plan;
        set = plan_set;
        wide_run = (wide_steps_are (hall_of s) _).1 refl;
        small_run = (small_steps_are (hall_of s) _).1 refl;
        tie = q.tie;
        wide_chosen = q.wide_chosen;
        small_chosen = q.small_chosen;
        wide_full = p.wide_full;
        small_full = p.small_full;
        capped = p.bound;
        wide_capped = q.wide_bound;
        wide_covered = q.wide_covered;
        small_capped = q.small_bound;
        small_covered = q.small_covered;
        map = p.map;
        behind = p.behind;
      }

module _ (s prices : List ℕ) (z : (charge_limit_of s prices).refusal ≡ 0) where
  limits_hall : LimitsHall s prices (hall_of s) (charge_limit_of s prices).limit
  limits_hall =
      let p = charge_limit_promised s prices z in
      record { capped = p.within; parts = p.parts; greatest = λ v. (p.vehicle_most v).greatest; attained = λ v. (p.vehicle_most v).attained; free = p.free }

module _ (s : List ℕ) (rounds : ℕ) (map prices : List ℕ) (z : (charge_refine_of s rounds map prices).refusal ≡ 0) where
  refines_hall : RefinesHall s rounds map prices (hall_of s) (shown_in s (charge_refine_of s rounds map prices).map) (charge_refine_of s rounds map prices)
  unfolding first_change
  refines_hall =
      let p = charge_refine_promised s rounds map prices z in
      record {
        allowed = p.allowed;
        map_is = p.map_is;
        worth_is = p.worth_is;
        no_less = p.no_less;
        limit_is_lem = p.limit_is_lem;
        capped = p.within;
        worth_within = p.worth_within;
        best = p.best;
        prices_kept = p.prices_kept;
        choice_kept = p.choice_kept;
        more = λ more c q l e. (p.more_worth more c q l e, p.more_limit more c q l e);
        places_apart = p.places_apart;
        made = p.made;
        ended = p.ended;
        not_before = p.not_before;
        map_behind = p.map_rest;
        prices_behind = p.prices_rest;
      }

-- ---- when two turns of a sheet conflict

conflicts_are : {s : List ℕ} → Bytes s → Accepted s → (x y : ℕ) → x < turn_count s → y < turn_count s → Conflict (sheet_turns s) x y ↔ SheetConflict s x y
conflicts_are {s} bytes a x y h k =
    let z = (accepted_iff bytes).1 a in
    let words = conflict_is (sheet_turns s) (sheet_lengths s z) x y (omega (arith, sheet_count s z)) (omega (arith, sheet_count s z)) in
    let sheet = sheet_conflict s z x y h k in
    (λ c. sheet.0 (words.1 c), λ c. words.0 (sheet.1 c))

-- ---- a search without visits

-- without turns nothing is worth more than 0
plan_back : (s lent : List ℕ) → (improve_of s 0 lent).answer.refusal ≡ 0 → ((improve_of s 0 lent).answer.worth ≡ board_worth (planned_board s)) × (map_in s (improve_of s 0 lent).lent ≡ board_map (planned_board s))
unfolding chosen
plan_back s lent z = go (ℕ_discrete (turn_count s) 0)
  where
    go : Dec (turn_count s ≡ 0) → ((improve_of s 0 lent).answer.worth ≡ board_worth (planned_board s)) × (map_in s (improve_of s 0 lent).lent ≡ board_map (planned_board s))
    go (yes e) =
        let p = improved_sheet s 0 lent z in
        let w : (improve_of s 0 lent).answer.worth ≡ 0 = sym p.earns ∙ ap (λ (n : ℕ). chosen n (shown_in s (improve_of s 0 lent).lent) (sheet_turns s).worth) (sheet_count s (searched_clear s 0 lent z) ∙ e) in
        (omega (arith, w, p.no_less), p.plan_kept (omega (arith, w)))
    go (no n) = let p = none_allowed_plan s lent z n in (p.worth_is, p.map_is)

-- ---- the two forms of a sheet

keeps_all : (s lent : List ℕ) → (keep_of s lent).answer.refusal ≡ 0 → keep_of s lent ≡ wrote (kept_of s) lent
unfolding keep_of
keeps_all s lent = written_all (keep_causes s (length lent)) (kept_of s) lent

restores_all : (k lent : List ℕ) → (restore_of k lent).answer.refusal ≡ 0 → restore_of k lent ≡ wrote (restored_of k) lent
unfolding restore_of
restores_all k lent = written_all (restore_causes k (length lent)) (restored_of k) lent

kept_forms : {s : List ℕ} → Bytes s → (lent : List ℕ) → (keep_of s lent).answer.refusal ≡ 0 → TwoForms s (kept_of s) (counts_in s) (sheet_maps s) (turns_of s)
kept_forms {s} y lent z =
    let a = ((keep_accepted_iff y lent).0 z).0 in
    let n = sheet_named a.sheet in
    let r = sheet_reads shift_sheet shift_sheet_sound s a.counts a.turns a.sheet in
    rw (r.1, sheet_maps_lem s a.counts n.maps a.turns n.sheet, r.2) (record { by_record = n.sheet.bytes; by_column = sheet_kept s a.counts n.maps a.turns n.sheet })

restored_forms : {k : List ℕ} → Bytes k → (lent : List ℕ) → (restore_of k lent).answer.refusal ≡ 0 → TwoForms (restored_of k) k (counts_in k) (kept_maps k) (kept_turns k)
restored_forms {k} y lent z =
    let a = ((restore_accepted_iff y lent).0 z).0 in
    let f = reads_kept y (kept_reads k a.counts a.maps a.turns a.kept).fine in
    record { by_record = (kept_sheet k (counts_in k) (kept_maps k) (kept_turns k) f).bytes; by_column = f }

-- ---- the readers by their limits

reader_limit : (s lent : List ℕ) → read_of s lent ≡ read_for (with_turns shift_sheet 400 4) s lent
unfolding read_of with_turns shift_sheet
reader_limit s lent = refl

short_limit : (s lent : List ℕ) → read_short_of s lent ≡ read_for (with_turns shift_sheet 96 20) s lent
unfolding read_short_of short_sheet
short_limit s lent = refl

-- ---- what is asked of a board

chosen_bit : (b : List ℕ) (t : ℕ) → (turn_chosen b t ≡ true) ↔ ((open_of b ≡ 0) × (t < board_turns b) × (chosen_in (board_map b) t ≡ true))
unfolding turn_chosen
chosen_bit b t =
    let inside = ltb t (board_turns b) in
    let bit = chosen_in (board_map b) t in (
      λ e. let f = and_2 (not (malformed b)) (inside && bit) e in
          ((open_accepted_iff b).1 (formed_board b (not-true (malformed b) (and_1 (not (malformed b)) (inside && bit) e))), ltb-true t (board_turns b) (and_1 inside bit f), and_2 inside bit f),
      λ (z, l, c). rw (opened b refl z, lt-ltb t (board_turns b) l, c),
    )

steps_at : (b : List ℕ) → open_of b ≡ 0 → steps_part_at b ≡ record { start = 15 + (board_turns b + 7) / 8; length = 4 * board_steps b }
unfolding steps_part_at
steps_at b z = rw (opened b refl z)

-- ---- refusals of entries that are lent nothing

check_none : (s b : List ℕ) → ((check_of s b).refusal ≡ 0 → ⊥) → check_of s b ≡ checked (check_of s b).refusal 0 0 0
unfolding check_of
check_none s b = number_refused (check_causes s b) _ _ (λ (a : CheckAnswer). a.refusal) refl (λ k. refl)

limit_none : (s prices : List ℕ) → ((limit_of s prices).refusal ≡ 0 → ⊥) → limit_of s prices ≡ limit_refused (limit_of s prices).refusal
unfolding limit_of
limit_none s prices = number_refused (limit_causes s prices) _ _ (λ (a : LimitAnswer). a.refusal) refl (λ k. refl)

hall_limit_none : (s prices : List ℕ) → ((charge_limit_of s prices).refusal ≡ 0 → ⊥) → charge_limit_of s prices ≡ limit_refused (charge_limit_of s prices).refusal
unfolding charge_limit_of
hall_limit_none s prices = number_refused (charge_limit_causes s prices) _ _ (λ (a : LimitAnswer). a.refusal) refl (λ k. refl)

-- ---- the page

pub promised : Promised
promised =
    record {
      read = λ y lent. reads (read_promised y lent);
      read_short = λ y lent. reads (short_promised y lent);
      read_alike = short_same;
      reader_is = reader_limit;
      short_reader_is = short_limit;
      limits_alike = λ K m i n j s a b e f. let p = both_alike K m i n j s a b e f in record { answer = p.one_answer; turns = p.same_rows; behind = p.first_behind; behind_too = p.second_behind };
      limits_same = within_both;
      write = λ counts table lent z. writes (write_promised counts table lent z);
      draw = λ seed counts turns lent z.
          let p = draw_promised seed counts turns lent z in
          (p.drawn, p.many, λ k d l. let f = p.fields k d l in record { slope = f.slope; groomer = f.groomer; start = f.start; length = f.length; worth = f.worth; driver = f.driver }, p.as_written, writes p.promised);
      keep_writes = keeps_all;
      keep_form = kept_forms;
      restore_writes = restores_all;
      restore_form = restored_forms;
      keep_back = keep_then_restore;
      restore_back = restore_then_keep;
      opens = open_accepted_iff;
      count = λ b z.
          let e = sym (count_given b refl (opened b refl z) refl refl) in
          e ∙ ap (counted 0) (ap (λ (a : CountAnswer). a.turns) (sym e) ∙ count_turns b z);
      count_refuses = λ b n. sym (count_refused b refl (shut b refl n));
      is_chosen = chosen_bit;
      chosen_has = chosen_turn;
      steps = steps_at;
      steps_none = λ b n. sym (part_none b refl (shut b refl n));
      steps_part_lem = λ b. part_named b refl;
      conflicts = conflicts_are;
      check = checks;
      plan = plans;
      plan_accepts = λ {s} y. (claim s s y).plans;
      plan_writes = λ {s} y. (claim s s y).writes;
      list = lists_board;
      assign = assigns_all;
      assign_behind = λ s lent z. (assign_promised s lent z).behind;
      best = finds_best;
      improve = searches;
      improve_none = plan_back;
      play = plays_shift;
      play_alike = λ s b delays lent other room. let p = play_alike s b delays lent other room in (p.answer, p.standings);
      limit = limits_shift;
      refine = refines_shift;
      charge = charges_hall;
      charge_limit = limits_hall;
      charge_refine = refines_hall;
      read_refuses = λ {s} y lent. (read_refused_iff s lent, (read_promised y lent).refuses);
      short_refuses = λ {s} y lent. (short_refused_iff s lent, (short_promised y lent).refuses);
      write_refuses = λ counts table lent. (write_refused_iff counts table lent, write_unchanged counts table lent);
      draw_refuses = λ seed counts turns lent. (draw_refused_iff seed counts turns lent, draw_unchanged seed counts turns lent);
      keep_refuses = λ s lent. (keep_refused_iff s lent, keep_unchanged s lent);
      restore_refuses = λ k lent. (restore_refused_iff k lent, restore_unchanged k lent);
      open_refuses = λ b. (open_first_iff b, λ n. refl);
      check_refuses = λ s b. (check_refused_iff s b, check_none s b);
      plan_refuses = λ s lent. (plan_refused_iff s lent, plan_unchanged s lent);
      list_refuses = λ s lent. (list_refused_iff s lent, list_unchanged s lent);
      assign_refuses = λ s lent. (assign_refused_iff s lent, assign_unchanged s lent);
      best_refuses = λ s lent. (best_refused_iff s lent, best_unchanged s lent);
      improve_refuses = λ s limit lent. (improve_refused_iff s lent limit, improve_unchanged s lent limit);
      play_refuses = λ s b delays lent. (play_refused_iff s b delays lent, play_unchanged s b delays lent);
      limit_refuses = λ s prices. (limit_refused_iff s prices, limit_none s prices);
      refine_refuses = λ s rounds board prices. (refine_refused_iff s rounds board prices, refine_unchanged s rounds board prices);
      charge_refuses = λ s lent. (charge_refused_iff s lent, charge_unchanged s lent);
      charge_limit_refuses = λ s prices. (charge_limit_refused_iff s prices, hall_limit_none s prices);
      charge_refine_refuses = λ s rounds map prices. (charge_refine_refused_iff s rounds map prices, charge_refine_unchanged s rounds map prices);
    }
