-- judge_form: the first thing wrong with a kept form after its header; if nothing is, the turns stand in the table.
use mathlib.Core.Path.{refl}
use Rattle.refusal.proofs.Numbers.{refuses, on_ok}
use Rattle.archive.proofs.RestoreCases.{judge_fault, judge_whole, judge_room, judge_table, judge_values, kind_numbered}
use borrow.Author.Rules.{rules}
use Rattle.archive.proofs.restoring.judge_form.Goals as goal

pub returns-in_err-form_fault-clause-refused : goal.returns-in_err-form_fault-clause-refused
returns-in_err-form_fault-clause-refused c = judge_fault c.args.k.now (search rules) _ (refuses c.from_residual.result (search rules))

pub maps_of-requires : goal.maps_of-requires
maps_of-requires c = (c.requires.1, judge_whole c.args.k.now c.in_ok-form_fault.ensures refl)

pub read_columns-requires : goal.read_columns-requires
read_columns-requires c = (judge_room c.args.k.now c.in_ok-form_fault.ensures refl c.requires.1 c.maps_of.ensures.0, search rules)

pub judge_turns-requires : goal.judge_turns-requires
judge_turns-requires c = (search rules, kind_numbered c.requires.0)

pub returns-clause-refused : goal.returns-clause-refused
returns-clause-refused c =
    let p = c.requires in
    let m = c.maps_of.ensures in
    let r = c.read_columns.ensures in judge_values c.args.k.now c.in_ok-form_fault.ensures refl _ p.1 m.0 m.1 r _ _ p.0 p.3 c.judge_turns.ensures

pub returns-clause-table_after : goal.returns-clause-table_after
returns-clause-table_after c =
    let p = c.requires in
    let m = c.maps_of.ensures in
    let r = c.read_columns.ensures in on_ok c.judge_turns.result (judge_table c.args.k.now c.in_ok-form_fault.ensures refl _ p.1 m.0 m.1 r)
