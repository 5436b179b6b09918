-- `put_chosen` meets its contract: a turn goes into its groomer's day if it is chosen.
use Rattle.play.proofs.Rows.{chosen_cases}
use borrow.Author.Rules.{rules}
use Rattle.play.proofs.days.put_chosen.Goals as goal

pub returns-then-is_chosen : goal.returns-then-is_chosen
returns-then-is_chosen c = search (rules, chosen_cases)

pub returns-else-is_chosen : goal.returns-else-is_chosen
returns-else-is_chosen c = search (rules, chosen_cases)
