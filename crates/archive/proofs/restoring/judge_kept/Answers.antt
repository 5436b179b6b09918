-- judge_kept: the first thing wrong with any bytes as a kept form; if nothing is, the turns stand in the table.
use Rattle.refusal.proofs.Numbers.{refuses}
use Rattle.archive.proofs.RestoreCases.{kept_few, kept_header, kept_rest}
use borrow.Author.Rules.{rules}
use Rattle.archive.proofs.restoring.judge_kept.Goals as goal

pub judge_form-requires : goal.judge_form-requires
judge_form-requires c = (search rules, search rules, kept_few _ _ c.archive-kind.ensures c.in_ok-limits.ensures.refused c.in_ok-limits.ensures.read.1, search rules, search rules)

pub returns-in_err-limits-clause-refused : goal.returns-in_err-limits-clause-refused
returns-in_err-limits-clause-refused c = kept_header _ _ c.archive-kind.ensures (refuses c.from_residual.result (search rules)) (search rules)

pub returns-clause-refused : goal.returns-clause-refused
returns-clause-refused c = kept_rest _ _ c.archive-kind.ensures c.in_ok-limits.ensures.refused c.judge_form.ensures.refused
