-- What the program prints for the bytes on its standard input (document 01: the program slopes). Assumes nothing.
use Rattle.std.specs.Prelude.{ℕ, List}
use Rattle.sheet.specs.Read.{sheet_causes}
use Rattle.list_spec.specs.Text.{refused_line}
use Rattle.list_spec.specs.List.{sheet_listing}
use Rattle.refusal.specs.Outcome.{unless}

-- the listing of a sheet, or the one line of its refusal
unfoldable pub printed : List ℕ → List ℕ
printed s = unless (sheet_causes s) (sheet_listing s) refused_line
