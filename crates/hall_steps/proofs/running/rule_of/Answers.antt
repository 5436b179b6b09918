-- rule_of: the rule by which a step takes from windows of the kind.
use Rattle.hall_steps.proofs.Planned.{rule_cases}
use Rattle.hall_steps.proofs.running.rule_of.Goals as goal

pub returns-then-a : goal.returns-then-a
returns-then-a c = search rule_cases

pub returns-else-a : goal.returns-else-a
returns-else-a c = search rule_cases
