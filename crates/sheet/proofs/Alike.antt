-- Two kinds that differ only in the limit on turns, and in the number for more: a sheet within both limits is read alike. Assumes nothing.
use Prim.Native.Nat.{ℕ, zero, suc, ◌≤◌}
use mathlib.Core.Path.{◌≡◌, refl, ◌∙◌, ap}
use mathlib.Core.List.{List, ◌++◌, append_assoc}
use borrow.Author.Tests.{le-ltb}
use Rattle.refusal.specs.Cause.{Cause, first_of}
use Rattle.turn.specs.declared.Counts.{Counts}
use Rattle.turn.specs.Turn.{turn_causes}
use Rattle.sheet.specs.declared.record.Cursor.{Cursor}
use Rattle.sheet.specs.Kind.{Kind, with_turns}
use Rattle.sheet.specs.Record.{cursor_after, record_causes, first_cursor}
use Rattle.sheet.specs.Read.{counts_in, turn_count, count_causes, header_causes, records_causes, causes_for, read_causes_for, answer_for, read_for}
use Rattle.refusal.proofs.Outcome.{unless_same}
use lib.ListN.{length}

module _ (K : Kind) (turns number : ℕ) where
  -- the limit says nothing of the records
  records_alike : (k : ℕ) (s : List ℕ) (limits : Counts) (c : Cursor) → records_causes (with_turns K turns number) k s limits c ≡ records_causes K k s limits c
  unfolding records_causes record_causes turn_causes with_turns
  records_alike zero s limits c = refl
  records_alike (suc k) s limits c = ap (λ (cs : List Cause). record_causes K s limits c ++ cs) (records_alike k s limits (cursor_after s c))

  module _ (s : List ℕ) (within : turn_count s ≤ K.most.turns) (also : turn_count s ≤ turns) where
    -- in neither header the turns are a cause
    header_alike : (rest : List Cause) → first_of (header_causes (with_turns K turns number) s ++ rest) ≡ first_of (header_causes K s ++ rest)
    unfolding header_causes count_causes first_of with_turns
    header_alike rest = rw (le-ltb K.most.turns (turn_count s) within, le-ltb turns (turn_count s) also)

    -- so the first cause is the same, whatever comes after the sheet's
    first_alike : (rest : List Cause) → first_of (causes_for (with_turns K turns number) s ++ rest) ≡ first_of (causes_for K s ++ rest)
    unfolding causes_for
    first_alike rest =
        let records = records_causes (with_turns K turns number) (turn_count s) s (counts_in s) first_cursor in
        rw (append_assoc (header_causes (with_turns K turns number) s) records rest, append_assoc (header_causes K s) (records_causes K (turn_count s) s (counts_in s) first_cursor) rest)
        (header_alike (records ++ rest) ∙ ap (λ (cs : List Cause). first_of (header_causes K s ++ (cs ++ rest))) (records_alike (turn_count s) s (counts_in s) first_cursor))

    pub same_refusal : first_of (causes_for (with_turns K turns number) s) ≡ first_of (causes_for K s)
    unfolding causes_for
    same_refusal =
        header_alike (records_causes (with_turns K turns number) (turn_count s) s (counts_in s) first_cursor)
        ∙ ap (λ (cs : List Cause). first_of (header_causes K s ++ cs)) (records_alike (turn_count s) s (counts_in s) first_cursor)

    pub same_answer : answer_for (with_turns K turns number) s ≡ answer_for K s
    unfolding answer_for
    same_answer = unless_same (causes_for (with_turns K turns number) s) _ _ (causes_for K s) same_refusal

    pub same_reading : (lent : List ℕ) → read_for (with_turns K turns number) s lent ≡ read_for K s lent
    unfolding read_for read_causes_for
    same_reading lent = unless_same (read_causes_for (with_turns K turns number) s (length lent)) _ _ (read_causes_for K s (length lent)) (first_alike _)
