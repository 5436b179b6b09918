-- keep_better: the choice made from a list takes the place of the best so far only if it is worth more; returns the worth of the one that stays.
use Rattle.selection.proofs.Unchosen.{zeros_cases}
use Rattle.price_rounds.proofs.RoundCases.{better_cases}
use borrow.Author.Rules.{rules}
use Rattle.price_rounds.proofs.keep_better.Goals as goal

pub slice_bounds-space-end : goal.slice_bounds-space-end
slice_bounds-space-end g c = search (rules, zeros_cases, better_cases)

pub slice_bounds-map-end : goal.slice_bounds-map-end
slice_bounds-map-end g c = search (rules, zeros_cases, better_cases)

pub choose_listed-found-requires : goal.choose_listed-found-requires
choose_listed-found-requires g c = search (rules, zeros_cases, better_cases)

pub returns-then-worth-found : goal.returns-then-worth-found
returns-then-worth-found g c = search (rules, zeros_cases, better_cases)

pub returns-else-worth-found : goal.returns-else-worth-found
returns-else-worth-found g c = search (rules, zeros_cases, better_cases)
