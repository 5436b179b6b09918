-- make_rounds: the goals that the laws of the crate answer.
use mathlib.Core.Path.{refl, ◌∙◌, sym}
use native.Mathlib.Omega.{arith}
use borrow.Author.Rules.{rules}
use Rattle.selection.proofs.Unchosen.{zeros_size, zeros_map, zeros_none_chosen}
use Rattle.round_parts.proofs.RankCases.{ranks_numbers, ranks_bits, ranks_fit, list_fits, list_size}
use Rattle.price_rule.proofs.RuleCases.{rule_held, list_made_of}
use Rattle.price_rounds.proofs.RoundCases.{start_cases, start_under, start_size, rule_few, map_fits, listed_numbers, better_made, round_stops, round_goes, round_left}
use Rattle.price_rounds.proofs.make_rounds.Goals as goal

pub slice_bounds-places-end : goal.slice_bounds-places-end
slice_bounds-places-end g c = search (rules, start_cases)

pub slice_bounds-ranks-end : goal.slice_bounds-ranks-end
slice_bounds-ranks-end g c = search (rules, start_cases)

pub put_ranks-requires : goal.put_ranks-requires
put_ranks-requires g c = search (rules, start_cases)

pub slice_bounds-space-end : goal.slice_bounds-space-end
slice_bounds-space-end g c = search (rules, start_cases)

pub slice_bounds-prices-end : goal.slice_bounds-prices-end
slice_bounds-prices-end g c = start_size _ _ _ _ _ c.requires

pub loop-ranks-init : goal.loop-ranks-init
loop-ranks-init g c =
    record {
      posed = c.requires.posed;
      ordered = c.put_orders.ensures.0;
      ranked = search start_cases;
      stage = start_under _ _ _ _ _ c.requires c.first_change-change.ensures;
      list_size = search rules;
      map_size = search rules;
      rows_are = c.put_orders.ensures.1;
    }

pub slice_bounds-map-end : goal.slice_bounds-map-end
slice_bounds-map-end g c = map_fits (rule_few _ _ c.loop-ranks.invariant.posed) c.loop-ranks.invariant.stage.clean

pub slice_bounds-relaxed-end : goal.slice_bounds-relaxed-end
slice_bounds-relaxed-end g c =
    let i = c.loop-ranks.invariant in
    zeros_size _ (rule_few _ _ i.posed) i.stage.clean.size

pub look_at-seen-requires-clause-rule_posed : goal.look_at-seen-requires-clause-rule_posed
look_at-seen-requires-clause-rule_posed g c =
    let i = c.loop-ranks.invariant in
    let few = rule_few _ _ i.posed in (i.posed, i.ordered, i.stage.prices_are)

pub look_at-seen-requires-clause-clean : goal.look_at-seen-requires-clause-clean
look_at-seen-requires-clause-clean g c =
    let i = c.loop-ranks.invariant in
    let few = rule_few _ _ i.posed in (zeros_map _ few i.stage.clean.size, zeros_none_chosen _ few i.stage.clean.size)

pub keep_lower-limit-requires : goal.keep_lower-limit-requires
keep_lower-limit-requires g c =
    let i = c.loop-ranks.invariant in
    i.stage.prices_are ∙ sym i.stage.list_is

pub put_list-count-requires-clause-numbers_of : goal.put_list-count-requires-clause-numbers_of
put_list-count-requires-clause-numbers_of g c =
    let i = c.loop-ranks.invariant in (ranks_numbers _ _ _ i.ranked, ranks_bits _ _ _ i.ranked c.look_at-seen.ensures.clean_2.0)

pub put_list-count-requires-clause-ranks_in_bounds : goal.put_list-count-requires-clause-ranks_in_bounds
put_list-count-requires-clause-ranks_in_bounds g c =
    let i = c.loop-ranks.invariant in search (rules, ranks_fit, rule_held, i.ranked, i.posed)

pub slice_bounds-numbers-end : goal.slice_bounds-numbers-end
slice_bounds-numbers-end g c =
    let i = c.loop-ranks.invariant in
    omega (arith, list_fits _ _ _ i.ranked (rule_held _ _ i.posed) c.put_list-count.ensures.upper_bound)

pub slice_bounds-list-end : goal.slice_bounds-list-end
slice_bounds-list-end g c =
    let i = c.loop-ranks.invariant in
    let numbers = c.put_list-count.new.list in
    list_size numbers _ _ c.put_list-count.ensures.upper_bound (ranks_fit _ _ _ i.ranked numbers (rule_held _ _ i.posed) (search rules))

pub keep_better-worth-requires-clause-rule_posed : goal.keep_better-worth-requires-clause-rule_posed
keep_better-worth-requires-clause-rule_posed g c =
    let i = c.loop-ranks.invariant in (i.posed, listed_numbers _ _ _ _ i.ranked c.put_list-count.ensures.list_after, i.rows_are)

pub keep_better-worth-requires-clause-clean : goal.keep_better-worth-requires-clause-clean
keep_better-worth-requires-clause-clean g c =
    let i = c.loop-ranks.invariant in i.stage.clean

pub shape_of-kept-then-is_over : goal.shape_of-kept-then-is_over
shape_of-kept-then-is_over g c = search (rules, c.loop-ranks.invariant.list_size)

pub shape_of-best-then-is_over : goal.shape_of-best-then-is_over
shape_of-best-then-is_over g c = search (rules, c.loop-ranks.invariant.map_size)

pub returns-then-is_over : goal.returns-then-is_over
returns-then-is_over g c =
    let i = c.loop-ranks.invariant in
    let made = better_made _ _ _ _ i.ranked c.put_list-count.ensures.list_after c.keep_better-worth.ensures.better_kept in
    round_stops _ _ _ _ _ _ _ _ _ _ _ i.stage _ _ c.look_at-seen.ensures.value c.look_at-seen.ensures.clean_2.1 c.keep_lower-limit.ensures.value c.keep_lower-limit.ensures.lowest_after made c.is_over.ensures c.if-is_over.true c.keep_better-worth.ensures.clean_2 refl

pub move_prices-requires-clause-rule_posed : goal.move_prices-requires-clause-rule_posed
move_prices-requires-clause-rule_posed g c =
    let i = c.loop-ranks.invariant in (i.posed, i.ordered, i.stage.prices_are)

pub move_prices-requires-clause-clean : goal.move_prices-requires-clause-clean
move_prices-requires-clause-clean g c =
    let i = c.loop-ranks.invariant in (c.look_at-seen.ensures.clean_2.0, list_made_of _ _ _ _ _ i.ranked c.put_list-count.ensures.list_after, i.stage.small)

pub next_change-change-requires : goal.next_change-change-requires
next_change-change-requires g c = c.loop-ranks.invariant.stage.small

pub overflow_add-made : goal.overflow_add-made
overflow_add-made g c =
    let i = c.loop-ranks.invariant in
    let made = better_made _ _ _ _ i.ranked c.put_list-count.ensures.list_after c.keep_better-worth.ensures.better_kept in
    omega (arith, round_left _ _ _ _ _ _ _ _ _ _ _ i.stage _ _ c.look_at-seen.ensures.value c.look_at-seen.ensures.clean_2.1 c.keep_lower-limit.ensures.value c.keep_lower-limit.ensures.lowest_after made c.is_over.ensures c.if-is_over.false)

pub loop-ranks-smaller : goal.loop-ranks-smaller
loop-ranks-smaller g c =
    let i = c.loop-ranks.invariant in
    let made = better_made _ _ _ _ i.ranked c.put_list-count.ensures.list_after c.keep_better-worth.ensures.better_kept in
    omega (arith, round_left _ _ _ _ _ _ _ _ _ _ _ i.stage _ _ c.look_at-seen.ensures.value c.look_at-seen.ensures.clean_2.1 c.keep_lower-limit.ensures.value c.keep_lower-limit.ensures.lowest_after made c.is_over.ensures c.if-is_over.false)

pub loop-ranks-preserved : goal.loop-ranks-preserved
loop-ranks-preserved g c =
    let i = c.loop-ranks.invariant in
    let made = better_made _ _ _ _ i.ranked c.put_list-count.ensures.list_after c.keep_better-worth.ensures.better_kept in
    record {
      posed = i.posed;
      ordered = i.ordered;
      ranked = i.ranked;
      stage = round_goes _ _ _ _ _ _ _ _ _ _ _ i.stage _ _ c.look_at-seen.ensures.value c.look_at-seen.ensures.clean_2.1 c.keep_lower-limit.ensures.value c.keep_lower-limit.ensures.lowest_after made c.is_over.ensures c.if-is_over.false c.keep_better-worth.ensures.clean_2 c.move_prices.ensures c.next_change-change.ensures;
      list_size = search (rules, i.list_size);
      map_size = search (rules, i.map_size);
      rows_are = i.rows_are;
    }
