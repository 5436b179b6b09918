-- form_fault: the first thing wrong with a kept form between its header and its values.
use mathlib.Core.Path.{refl}
use Rattle.refusal.proofs.Numbers.{refuses}
use Rattle.archive.proofs.RestoreCases.{form_few, form_map, form_short, form_long, form_none}
use borrow.Author.Rules.{rules}
use Rattle.archive.proofs.restoring.form_fault.Goals as goal

pub returns-then-k-from : goal.returns-then-k-from
returns-then-k-from c = form_few c.args.k.now c.args.n c.requires.1 (search rules)

pub returns-in_err-map_fault : goal.returns-in_err-map_fault
returns-in_err-map_fault c = form_map c.args.k.now c.args.n c.requires.1 c.args.rule c.requires.0 (search rules) c.maps_of-maps.ensures.0 (search rules) (refuses c.from_residual.result (search rules))

pub returns-then-k-end : goal.returns-then-k-end
returns-then-k-end c = form_short c.args.k.now c.args.n c.requires.1 c.args.rule c.requires.0 (search rules) c.maps_of-maps.ensures.0 c.in_ok-map_fault.ensures refl c.fields_width.ensures.0 (search rules)

pub returns-then-end-k : goal.returns-then-end-k
returns-then-end-k c = form_long c.args.k.now c.args.n c.requires.1 c.args.rule c.requires.0 (search rules) c.maps_of-maps.ensures.0 c.in_ok-map_fault.ensures refl c.fields_width.ensures.0 (search rules) (search rules)

pub returns : goal.returns
returns c = form_none c.args.k.now c.args.n c.requires.1 c.args.rule c.requires.0 (search rules) c.maps_of-maps.ensures.0 c.in_ok-map_fault.ensures refl c.fields_width.ensures.0 (search rules) (search rules)
