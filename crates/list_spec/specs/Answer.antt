-- A text into lent bytes: what the listing's entry gives once its text is known (document 01: the program slopes). Assumes nothing.
use Rattle.std.specs.Prelude.{ℕ, List, [], length}
use Rattle.refusal.specs.Outcome.{then_room}
use Rattle.refusal.specs.Written.{Written, written_unless}

-- all of it, or nothing where they are too few
unfoldable pub text_answer : List ℕ → List ℕ → Written
text_answer text lent = written_unless (then_room [] (length text) (length lent)) text lent
