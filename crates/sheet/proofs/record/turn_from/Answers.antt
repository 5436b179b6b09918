-- turn_from: the turn whose fields start at a place, after the turn before it.
use Rattle.sheet.specs.Record.{width_of, turn_from}
use borrow.Author.Rules.{rules}
use Rattle.sheet.proofs.record.turn_from.Goals as goal

pub byte_field-requires : goal.byte_field-requires
unfolding width_of
byte_field-requires c = search rules

pub byte_field-requires-2 : goal.byte_field-requires-2
unfolding width_of
byte_field-requires-2 c = search rules

pub word_field-requires : goal.word_field-requires
unfolding width_of
word_field-requires c = search rules

pub word_field-requires-2 : goal.word_field-requires-2
unfolding width_of
word_field-requires-2 c = search rules

pub word_field-requires-3 : goal.word_field-requires-3
unfolding width_of
word_field-requires-3 c = search rules

pub byte_field-requires-3 : goal.byte_field-requires-3
unfolding width_of
byte_field-requires-3 c = search rules

pub returns : goal.returns
unfolding turn_from
returns c = λ i. record { slope = c.byte_field.ensures i; groomer = c.byte_field-2.ensures i; start = c.word_field.ensures i; length = c.word_field-2.ensures i; worth = c.word_field-3.ensures i; driver = c.byte_field-3.ensures i }
