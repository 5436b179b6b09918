-- put_groomer: puts a groomer's heading and the lines of its round.
use Rattle.list.proofs.PartCases.{groomer_cases, round_fits}
use borrow.Author.Rules.{rules}
use Rattle.list.proofs.parts.put_groomer.Goals as goal

pub put_heading-next-requires : goal.put_heading-next-requires
put_heading-next-requires c = search (rules, groomer_cases)

pub note_round-requires : goal.note_round-requires
note_round-requires c = search (rules, groomer_cases)

pub put_notes-requires : goal.put_notes-requires
put_notes-requires c = (search rules, search groomer_cases, c.requires.0.held, round_fits _ _ _ _ c.requires.0 c.note_round.ensures.1 _ c.put_heading-next.ensures.0 c.requires.1)

pub returns-clause-value : goal.returns-clause-value
returns-clause-value c = search (rules, groomer_cases)

pub returns-clause-out_after : goal.returns-clause-out_after
returns-clause-out_after c = search (rules, groomer_cases)
