-- What is worked out before the first minute, for inner functions only (request R-13). Assumes nothing.
use Rattle.std.specs.Prelude.{◌≡◌, ℕ, ◌≤◌, Bool, List, length}
use Rattle.refusal.specs.Cause.{Cause, first_of}
use Rattle.turn.specs.Turn.{shift_minutes}
use Rattle.model.specs.Turns.{Turns}
use Rattle.sheet.specs.Kind.{most_groomers}
use Rattle.sheet.specs.Read.{counts_in}
use Rattle.instance_spec.specs.Problem.{sheet_turns}
use Rattle.board.specs.Board.{board_choice}
use Rattle.play_spec.specs.Day.{delay_in}
use Rattle.play_spec.specs.DayTable.{day_table_places, Days}
use Rattle.play.specs.declared.preparing.Prepared.{Prepared}
use Rattle.play.specs.declared.preparing.Lent.{Lent}
use Rattle.play_spec.specs.Play.{play_causes}

-- what is known before the first minute, where these are the causes to refuse: the answer, and where none is there a table that holds the days
pub record PreparedBy (causes : List Cause) (T : Turns) (lent : Lent) (S : List Bool) (delays : List ℕ) (p : Prepared) (table : List ℕ) : Type 0 where
  pub number : p.refusal ≡ first_of causes
  pub none : (p.refusal ≡ 0 → ⊥) → (p.groomers ≡ 0) × (p.minutes ≡ 0)
  pub all : p.refusal ≡ 0 → (p.groomers ≡ lent.groomers) × (p.minutes ≡ shift_minutes)
  pub days : p.refusal ≡ 0 → Days T S (delay_in delays) table
  pub places_are : length table ≡ day_table_places
  pub moved_are : p.moved ≡ p.groomers
  pub few : p.moved ≤ most_groomers
  pub inside : p.moved ≤ lent.places
  pub most : p.minutes ≤ shift_minutes

-- for a sheet and a board
abbrev pub PreparedFor : List ℕ → List ℕ → List ℕ → ℕ → Prepared → List ℕ → Type 0
PreparedFor s b delays places p table = PreparedBy (play_causes s b delays places) (sheet_turns s) (record { groomers = (counts_in s).groomers; places = places }) (board_choice b) delays p table
