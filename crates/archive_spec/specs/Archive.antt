-- Keeping a sheet by column and restoring it, refusals included (request R-12). Assumes nothing.
use Rattle.std.specs.Prelude.{ℕ, Bool, true, false, List, [], ◌∷◌, ◌++◌, length, ltb}
use Rattle.refusal.specs.Number.{truncated, bad_map, trailing_bytes}
use Rattle.refusal.specs.Cause.{Cause, ◌when◌}
use Rattle.refusal.specs.Written.{Written, written_unless}
use Rattle.sheet.specs.declared.kind.Maps.{Maps}
use Rattle.sheet.specs.Record.{bad_map_for}
use Rattle.sheet.specs.Read.{counts_in, header_causes, sheet_causes}
use Rattle.write_spec.specs.Write.{turns_causes}
use Rattle.archive_spec.specs.Kept.{kept_of, archive, kept_maps, columns_at, kept_end, kept_turns, restored_of}
use Rattle.refusal.specs.Outcome.{then_room}

-- ---- from a sheet: both forms are equally long, so the need is the sheet's length

-- the sheet's causes, and last the lent bytes
unfoldable pub keep_causes : List ℕ → ℕ → List Cause
keep_causes s = then_room (sheet_causes s) (length s)

-- on success the kept form, then what was there; on a refusal all as before
unfoldable pub keep_of : List ℕ → List ℕ → Written
keep_of s lent = written_unless (keep_causes s (length lent)) (kept_of s) lent

-- ---- from a kept form

-- the maps one by one, the first by its own rule
unfoldable pub maps_causes : Maps → Bool → List ℕ → List Cause
maps_causes maps first [] = []
maps_causes maps first (m ∷ ms) = bad_map when bad_map_for maps first m ∷ maps_causes maps false ms

-- after the header: too few maps, a bad map, then columns that are too short or too long
unfoldable pub form_causes : List ℕ → List Cause
form_causes k =
    truncated when ltb (length k) (columns_at k)
    ∷ (maps_causes archive.maps true (kept_maps k)
    ++ truncated when ltb (length k) (kept_end k)
    ∷ trailing_bytes when ltb (kept_end k) (length k)
    ∷ [])

-- all causes, in the order of refusal: the header's, the form's, and last those of each turn's values
unfoldable pub kept_causes : List ℕ → List Cause
kept_causes k = header_causes archive k ++ (form_causes k ++ turns_causes archive.refusals (counts_in k) (kept_turns k))

-- and last the lent bytes
unfoldable pub restore_causes : List ℕ → ℕ → List Cause
restore_causes k = then_room (kept_causes k) (length k)

-- on success the sheet, then what was there; on a refusal all as before
unfoldable pub restore_of : List ℕ → List ℕ → Written
restore_of k lent = written_unless (restore_causes k (length lent)) (restored_of k) lent
