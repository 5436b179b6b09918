-- The chosen turns of a board, by the code's cases, and what the two answers mean on a board that opens. Assumes nothing.
use Prim.Native.Nat.{ℕ, ◌<◌, ◌≤◌}
use mathlib.Core.Path.{◌≡◌, refl, sym, ◌∙◌}
use mathlib.Core.Bool.{Bool, true, false, ◌&&◌}
use mathlib.Core.List.{List}
use native.Mathlib.Omega.{arith}
use native.Mathlib.Decide.{dec_lt}
use lib.Dec.{ltb}
use lib.ListN.{get_or-eq_default}
use borrow.Author.Tests.{lt-ltb, le-ltb}
use Rattle.refusal.specs.Number.{malformed_board}
use Rattle.model.specs.Choice.{has, chosen}
use Rattle.choice_map.specs.Choice.{chosen_in, choice_in, ones_in}
use Rattle.board.specs.Board.{board_turns, board_map, board_choice}
use Rattle.board_open.specs.Open.{malformed, open_of}
use Rattle.board_open.specs.Chosen.{counted, count_of, turn_chosen}
use Rattle.choice_map.proofs.Clean.{choice_has, choice_length}
use Rattle.choice_map.proofs.Counts.{ones_turns}
use Rattle.board_open.proofs.Openings.{opened, formed_clear, formed_map, part_header}

-- ---- the code's cases

module _ (b : List ℕ) {r : Bool} (e : r ≡ malformed b) where
  pub count_refused : r ≡ true → counted malformed_board 0 ≡ count_of b
  unfolding count_of
  count_refused t = rw (← e, t)

  pub chosen_refused : (t : ℕ) → r ≡ true → false ≡ turn_chosen b t
  unfolding turn_chosen
  chosen_refused t f = rw (← e, f)

  module _ (f : r ≡ false) where
    pub chosen_formed : malformed b ≡ false
    chosen_formed = sym e ∙ f

    pub count_given : {map : List ℕ} {k : ℕ} → map ≡ board_map b → k ≡ ones_in map → counted 0 k ≡ count_of b
    unfolding count_of
    count_given m k = rw (← e, f, k, m)

    module _ (t : ℕ) {n : ℕ} (p : n ≡ board_turns b) where
      pub chosen_past : n ≤ t → false ≡ turn_chosen b t
      unfolding turn_chosen
      chosen_past h = rw (← e, f, ← p, le-ltb t n h)

      pub chosen_given : {map : List ℕ} {c : Bool} → t < n → map ≡ board_map b → c ≡ chosen_in map t → c ≡ turn_chosen b t
      unfolding turn_chosen
      chosen_given h m c = c ∙ rw (← e, f, ← p, lt-ltb t n h, m)

pub ruleset chosen_cases = (count_refused, count_given, chosen_refused, chosen_formed, part_header, chosen_past, chosen_given)

-- ---- on a board that opens

module _ (b : List ℕ) (e : open_of b ≡ 0) where
  formed : malformed b ≡ false
  formed = opened b refl e

  -- the count is that of the turns that its choice has
  pub count_turns : (count_of b).turns ≡ chosen (board_turns b) (board_choice b) (λ t. 1)
  unfolding count_of board_choice
  count_turns = rw formed (ones_turns (board_turns b) (board_map b) (formed_map b formed) (formed_clear b formed))

  -- a turn is chosen just if its choice has it
  pub chosen_turn : (t : ℕ) → turn_chosen b t ≡ has (board_choice b) t
  unfolding turn_chosen board_choice
  chosen_turn t = rw formed (go (dec_lt t (board_turns b)))
    where
      go : Dec (t < board_turns b) → (ltb t (board_turns b) && chosen_in (board_map b) t) ≡ has (choice_in (board_turns b) (board_map b)) t
      go (yes h) = rw (lt-ltb t (board_turns b) h) (sym (choice_has (board_turns b) (board_map b) t h))
      go (no h) = rw (le-ltb t (board_turns b) (omega arith)) (sym (get_or-eq_default (choice_in (board_turns b) (board_map b)) false (omega (arith, choice_length (board_turns b) (board_map b)))))
