-- kind_row: a window's row as the engine gets it: no driver; a small window with its draw, a wide one with groomer 0, so that all wide windows have one groomer; and a window of the other kind without a worth, so that it is closed from the start.
use Rattle.hall_steps.proofs.OneKindLaws.{row_cases}
use Rattle.hall_steps.proofs.one_kind.kind_row.Goals as goal

pub returns : goal.returns
returns c = search row_cases
