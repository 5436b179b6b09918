-- The lines of the stored cases: what a case asks an entry with, and what its line says of the entry's outcome (no rule of its own: for the tests). Assumes nothing.
use Rattle.std.specs.Prelude.{ℕ, ◌+◌, ◌*◌, ◌/◌, min, cond, List, length, ltb}
use Rattle.lists.specs.Lists.{tab}
use Rattle.wire.specs.Number.{value_at}
use Rattle.refusal.specs.declared.WriteAnswer.{WriteAnswer}
use Rattle.refusal.specs.Outcome.{Outcome, beside}
use Rattle.sheet.specs.declared.answer.ReadAnswer.{ReadAnswer}
use Rattle.check_spec.specs.declared.CheckAnswer.{CheckAnswer}
use Rattle.board_open.specs.Open.{open_of}
use Rattle.board_open.specs.Chosen.{count_of, turn_chosen}
use Rattle.assign_spec.specs.declared.AssignAnswer.{AssignAnswer}
use Rattle.best_spec.specs.declared.BestAnswer.{BestAnswer}
use Rattle.improve_spec.specs.declared.ImproveAnswer.{ImproveAnswer}
use Rattle.charge_spec.specs.declared.ChargeAnswer.{ChargeAnswer}
use Rattle.corpus.specs.declared.entries.Line.{Line}
use Rattle.corpus.specs.declared.entries.Line.TheVariants.{One, Two, Three, Four}

-- ---- what an entry is asked with

-- a number of four bytes, 0 where not all twenty bytes are there
unfoldable pub asked_at : List ℕ → ℕ → ℕ
asked_at bytes at = cond (ltb (length bytes) 20) 0 (value_at bytes at 4)

-- the number of eight bytes, its high half first
unfoldable pub asked_long : List ℕ → ℕ
asked_long bytes = asked_at bytes 0 * 4294967296 + asked_at bytes 4

-- so many numbers of two bytes
unfoldable pub numbers_in : List ℕ → ℕ → List ℕ
numbers_in bytes count = tab count (λ i. value_at bytes (2 * i) 2)

-- the table that is written: as many of the numbers as it has places
abbrev pub table_in : List ℕ → List ℕ
table_in bytes = numbers_in bytes (min (length bytes / 2) 2412)

-- ---- what a line says

-- an outcome with its line in place of the answer
unfoldable pub shown : {A P : Type 0} → (A → Line) → Outcome A P → Outcome Line P
shown line o = beside (line o.answer) o.lent

abbrev pub read_line : ReadAnswer → Line
read_line a = Three a.refusal a.groomers a.slopes a.turns

abbrev pub write_line : WriteAnswer → Line
write_line a = One a.refusal a.bytes

abbrev pub check_line : CheckAnswer → Line
check_line a = Three a.refusal a.tally a.worth a.ceiling

abbrev pub assign_line : AssignAnswer → Line
assign_line a = One a.refusal a.groomers

abbrev pub best_line : BestAnswer → Line
best_line a = One a.refusal a.worth

abbrev pub improve_line : ImproveAnswer → Line
improve_line a = Four a.refusal (cond a.whole 1 0) a.worth a.above a.visits

abbrev pub charge_line : ChargeAnswer → Line
charge_line a = One a.refusal a.worth

-- the refusals of opening and of counting, and how many turns are chosen
abbrev pub open_line : List ℕ → Line
open_line board = Two (open_of board) (count_of board).refusal (count_of board).turns

-- 1 for each of so many turns that the board chooses, 0 for another
unfoldable pub choices_in : List ℕ → ℕ → List ℕ
choices_in board count = tab count (λ t. cond (turn_chosen board t) 1 0)
