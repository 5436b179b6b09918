-- A board that is planned into a place of its own, and read back there, for every caller that goes on from it; each premise in the form in which the code leaves it. Assumes nothing.
use Prim.Native.Nat.{ℕ, ◌≤◌}
use mathlib.Core.Path.{◌≡◌, sym, ◌∙◌, ap}
use mathlib.Core.Bool.{false}
use mathlib.Core.List.{List}
use native.Mathlib.Omega.{arith}
use lib.ListN.{length, take, drop}
use lib.Seq.{take_at}
use Rattle.wire.specs.Number.{puts}
use Rattle.wire.proofs.Puts.{puts_front, puts_length}
use Rattle.model.specs.Choice.{choice}
use Rattle.sheet.specs.Kind.{most_turns}
use Rattle.choice_map.specs.Choice.{choice_in}
use Rattle.board.specs.Board.{board_header, board_turns, board_map, board_choice, board_length}
use Rattle.board_open.specs.Open.{malformed}
use Rattle.board_open.proofs.Openings.{formed_header}
use Rattle.instance.specs.declared.columns.Size.{Size}
use Rattle.instance.specs.Columns.{turns_by, Held}
use Rattle.instance.proofs.Rows.{count_is}
use Rattle.plan_spec.specs.Plan.{board_for}
use Rattle.plan_spec.proofs.Boards.{board_most, ReadsBack, board_back}

-- ---- read back

module _ (p : Size) (cols b : List ℕ) (held : Held p cols) (e : b ≡ board_for (turns_by p cols)) where
  pub board_reads : ReadsBack (turns_by p cols) b
  board_reads = rw e (board_back (turns_by p cols) (omega (arith, count_is p cols, held.few)) (λ t h. held.worths t (omega (arith, count_is p cols))))

  pub board_opens : malformed b ≡ false
  board_opens = board_reads.planned_opens

  pub board_header_lem : board_header ≤ length b
  board_header_lem = formed_header b board_opens

  pub board_count : board_turns b ≡ p.count
  board_count = board_reads.turns ∙ count_is p cols

  pub board_choice_lem : {map : List ℕ} → map ≡ board_map b → choice_in p.count map ≡ choice (turns_by p cols)
  unfolding board_choice
  board_choice_lem q = rw q (ap (λ k. choice_in k (board_map b)) (sym board_count) ∙ board_reads.chosen_turns)

-- ---- a text at the front of a place, which is then lent up to its end

module _ (text space : List ℕ) (room : length text ≤ length space) {bytes : ℕ} {b : List ℕ} (e : bytes ≡ length text) (f : b ≡ puts space 0 text) where
  pub front_holds : bytes ≤ length b
  front_holds = rw f (omega (arith, puts_length text space 0))

  pub front_is : take bytes b ≡ text
  front_is = rw (f, puts_front text space room) (take_at text (drop (length text) space) bytes (sym e))

  pub front_part : bytes ≡ length (take bytes b)
  front_part = rw front_is e

-- ---- planned into such a place, with room for a board of as many turns and steps as a sheet can have

pub space_fits : (p : Size) (cols space : List ℕ) → Held p cols → board_length most_turns most_turns ≤ length space → board_length p.count p.count ≤ length space
space_fits p cols space held room = omega (arith, held.few)

module _ (p : Size) (cols space : List ℕ) (held : Held p cols) (room : board_length most_turns most_turns ≤ length space) {bytes : ℕ} {b : List ℕ} (e : bytes ≡ length (board_for (turns_by p cols))) (f : b ≡ puts space 0 (board_for (turns_by p cols))) where
  board_held : length (board_for (turns_by p cols)) ≤ length space
  board_held = omega (arith, board_most (turns_by p cols), count_is p cols, space_fits p cols space held room)

  pub space_holds : bytes ≤ length b
  space_holds = front_holds (board_for (turns_by p cols)) space board_held e f

  pub space_front : take bytes b ≡ board_for (turns_by p cols)
  space_front = front_is (board_for (turns_by p cols)) space board_held e f

  pub space_part : bytes ≡ length (take bytes b)
  space_part = front_part (board_for (turns_by p cols)) space board_held e f

pub ruleset space_cases = (space_fits, space_holds, space_front, space_part)
