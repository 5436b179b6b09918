-- What an entry that writes a text into lent bytes gives: all of the text, or the number of the first cause and nothing (document 01: what the box says). Assumes nothing.
use Rattle.std.specs.Prelude.{ℕ, List, ◌++◌, length, take, drop}
use Rattle.refusal.specs.declared.WriteAnswer.{WriteAnswer}
use Rattle.refusal.specs.Cause.{Cause}
use Rattle.refusal.specs.Outcome.{Outcome, beside, unless}

-- numbers at the front of a lent place, then what was there
abbrev pub at_front : List ℕ → List ℕ → List ℕ
at_front numbers lent = numbers ++ drop (length numbers) lent

-- the refusal and the bytes written, and what the lent bytes hold then
abbrev pub Written : Type 0
Written = Outcome WriteAnswer (List ℕ)

-- a refusal returns its number and no bytes
abbrev pub write_refused : ℕ → WriteAnswer
write_refused k = record { refusal = k; bytes = 0 }

-- a text at the front of the lent bytes, then what was there
abbrev pub wrote : List ℕ → List ℕ → Written
wrote text lent = beside (record { refusal = 0; bytes = length text }) (at_front text lent)

-- a refusal, and the lent bytes as before
abbrev pub kept : ℕ → List ℕ → Written
kept k lent = beside (write_refused k) lent

-- the bytes that it says were written
abbrev pub written_part : Written → List ℕ
written_part w = take w.answer.bytes w.lent

-- the text is written unless a cause is there
unfoldable pub written_unless : List Cause → List ℕ → List ℕ → Written
written_unless causes text lent = unless causes (wrote text lent) (λ k. kept k lent)
