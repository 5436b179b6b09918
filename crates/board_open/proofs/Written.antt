-- A board that was written, read back: every part is what was written, it opens, and it is bytes. Assumes nothing.
use Prim.Native.Nat.{ℕ, ◌<◌, ◌≤◌}
use mathlib.Core.Path.{◌≡◌, refl, sym, ◌∙◌, ap}
use mathlib.Core.Bool.{Bool, true, false}
use mathlib.Core.List.{List, [], ◌++◌, append-nil}
use native.Mathlib.Omega.{arith}
use lib.ListN.{length, drop, length-append}
use lib.Seq.{take_at, drop_at, drop-drop}
use borrow.Author.Tests.{eq-eqb, le-ltb}
use Rattle.wire.specs.Number.{bytes_of, Bytes}
use Rattle.wire.specs.Mark.{board_mark, opens_with}
use Rattle.wire.proofs.Numbers.{value_read, bytes_append}
use Rattle.model.specs.Steps.{Step}
use Rattle.choice_map.specs.Choice.{map_bytes, map_of}
use Rattle.board.specs.Board.{board_header, board_turns, board_steps, board_tally, board_worth, steps_place, board_length, board_map, board_choice, written_steps, step_bytes, count_bytes, head_bytes, board_of}
use Rattle.board_open.specs.Open.{bad_sizes, malformed}
use Rattle.choice_map.proofs.Clean.{map_length, map_choice, map_clean}
use Rattle.board.proofs.StepBytes.{SmallSteps, step_bytes_length, step_bytes_below, bytes_then, steps_read}

-- a board's parts: header, map, steps
pub board_parts : (S : List Bool) (xs : List Step) (t w : ℕ) → board_of S xs t w ≡ head_bytes (length S) (length xs) t w ++ (map_of S ++ step_bytes xs)
unfolding board_of count_bytes head_bytes
board_parts S xs t w = refl

module _ (S : List Bool) (xs : List Step) (t w : ℕ) where
  pub board_length_lem : length (board_of S xs t w) ≡ board_length (length S) (length xs)
  unfolding board_of
  board_length_lem = omega (arith, length-append (map_of S) (step_bytes xs), map_length S, step_bytes_length xs)

  pub board_bytes : Bytes (board_of S xs t w)
  unfolding board_of
  board_bytes =
      Bytes.more {b = 0x47} (omega arith) (Bytes.more {b = 0x52} (omega arith) (Bytes.more {b = 0x42} (omega arith)
      (bytes_then 2 (length S) (bytes_then 2 (length xs) (bytes_then 4 t (bytes_then 4 w (bytes_append (map_clean S).bytes (step_bytes_below xs))))))))

  abbrev behind : List ℕ
  behind = map_of S ++ step_bytes xs

  board_opens : opens_with board_mark (board_of S xs t w) ≡ true
  unfolding board_of opens_with
  board_opens = refl

  behind_header : drop board_header (board_of S xs t w) ≡ map_of S ++ step_bytes xs
  unfolding board_of
  behind_header = refl

  module _ (few : length S < 65536) where
    pub turns_read : board_turns (board_of S xs t w) ≡ length S
    unfolding board_of
    turns_read = value_read 2 (length S) board_mark (bytes_of 2 (length xs) ++ (bytes_of 4 t ++ (bytes_of 4 w ++ behind))) few

    pub map_read : board_map (board_of S xs t w) ≡ map_of S
    unfolding board_map
    map_read = rw (turns_read, behind_header) (take_at (map_of S) (step_bytes xs) (map_bytes (length S)) (map_length S))

    pub choice_read : board_choice (board_of S xs t w) ≡ S
    unfolding board_choice
    choice_read = rw (turns_read, map_read) (map_choice S)

    module _ (short : length xs ≤ length S) where
      pub count_read : board_steps (board_of S xs t w) ≡ length xs
      unfolding board_of
      count_read = value_read 2 (length xs) (board_mark ++ bytes_of 2 (length S)) (bytes_of 4 t ++ (bytes_of 4 w ++ behind)) (omega arith)

      pub steps_written : SmallSteps xs → written_steps (board_of S xs t w) ≡ xs
      unfolding written_steps
      steps_written small =
          let e : drop (steps_place (length S)) (board_of S xs t w) ≡ step_bytes xs ++ [] =
          sym (drop-drop (map_bytes (length S)) board_header (board_of S xs t w)) ∙ ap (drop (map_bytes (length S))) behind_header ∙ drop_at (map_of S) (step_bytes xs) (map_bytes (length S)) (map_length S) ∙ sym (append-nil (step_bytes xs)) in
          rw (turns_read, count_read) (steps_read small (drop (steps_place (length S)) (board_of S xs t w)) [] e)

      sizes_good : bad_sizes (board_of S xs t w) ≡ false
      unfolding bad_sizes
      sizes_good =
          rw (turns_read, count_read, map_read, le-ltb (length S) (length xs) short, eq-eqb (length (board_of S xs t w)) (board_length (length S) (length xs)) board_length_lem, (map_clean S).clear)

      pub board_formed : malformed (board_of S xs t w) ≡ false
      unfolding malformed
      board_formed = rw (le-ltb (length (board_of S xs t w)) board_header (omega (arith, board_length_lem)), board_opens, sizes_good)

  pub tally_read : t < 4294967296 → board_tally (board_of S xs t w) ≡ t
  unfolding board_of count_bytes
  tally_read h = value_read 4 t (count_bytes (length S) (length xs)) (bytes_of 4 w ++ behind) h

  pub worth_read : w < 4294967296 → board_worth (board_of S xs t w) ≡ w
  unfolding board_of count_bytes
  worth_read h = value_read 4 w (count_bytes (length S) (length xs) ++ bytes_of 4 t) behind h
