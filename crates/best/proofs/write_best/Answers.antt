-- write_best: writes the map of the best set of a problem; returns its worth.
use Rattle.best.proofs.AnswerCases.{best_map_cases}
use borrow.Author.Rules.{rules}
use Rattle.best.proofs.write_best.Goals as goal

pub choose_best-requires : goal.choose_best-requires
choose_best-requires c = search (rules, best_map_cases)

pub returns : goal.returns
returns c = search (rules, best_map_cases)
