-- Opening by its cases, each premise in the form in which the code's calls and tests leave it. Assumes nothing.
use Prim.Native.Nat.{ℕ, ◌+◌, ◌-◌, ◌*◌, ◌<◌, ◌≤◌}
use mathlib.Core.Path.{◌≡◌, refl, sym, ◌∙◌}
use mathlib.Core.Bool.{Bool, true, false, not, ◌||◌}
use mathlib.Core.List.{List, [], ◌∷◌}
use native.Mathlib.Omega.{arith}
use lib.ListN.{length, take, drop, length-drop}
use lib.Seq.{take_all, length-take-le}
use lib.Dec.{ltb, eqb}
use borrow.Author.Tests.{eq-eqb, ne_eqb, lt-ltb, le-ltb, ltb-false, eqb-true, not-false}
use Rattle.refusal.specs.Number.{malformed_board}
use Rattle.refusal.specs.Cause.{◌when◌, first_of}
use Rattle.wire.specs.Mark.{board_mark, opens_with}
use Rattle.lists.proofs.Bools.{or_false_1, or_false_2}
use Rattle.choice_map.specs.Choice.{map_bytes, clear_past}
use Rattle.board.specs.Board.{board_header, step_size, board_turns, board_steps, steps_place, board_length, board_map, steps_in, written_steps}
use Rattle.board_open.specs.Open.{bad_sizes, malformed, open_of, steps_part}

module _ (b : List ℕ) where
  pub malformed_short : length b < board_header → true ≡ malformed b
  unfolding malformed
  malformed_short h = rw (lt-ltb (length b) board_header h)

  module _ {m : Bool} (h : board_header ≤ length b) (e : m ≡ opens_with board_mark b) where
    pub malformed_mark : m ≡ false → true ≡ malformed b
    unfolding malformed
    malformed_mark f = rw (le-ltb (length b) board_header h, ← e, f)

    pub malformed_sizes : {r : Bool} → m ≡ true → r ≡ bad_sizes b → r ≡ malformed b
    unfolding malformed
    malformed_sizes t k = rw (le-ltb (length b) board_header h, ← e, t) k

  pub open_refused : {r : Bool} → r ≡ malformed b → r ≡ true → malformed_board ≡ open_of b
  unfolding open_of first_of
  open_refused e t = rw (← e, t)

  pub open_accepted : {r : Bool} → r ≡ malformed b → r ≡ false → 0 ≡ open_of b
  unfolding open_of first_of
  open_accepted e t = rw (← e, t)

-- what the number says of the bytes
opens_with_lem : (x : Bool) {r : ℕ} → r ≡ first_of (malformed_board when x ∷ []) → r ≡ 0 → x ≡ false
unfolding first_of
opens_with_lem true e z = absurd (omega arith)
opens_with_lem false e z = refl

shuts_with : (x : Bool) {r : ℕ} → r ≡ first_of (malformed_board when x ∷ []) → (r ≡ 0 → ⊥) → x ≡ true
unfolding first_of
shuts_with true e z = refl
shuts_with false e z = absurd (z e)

module _ (b : List ℕ) {r : ℕ} (e : r ≡ open_of b) where
  pub opened : r ≡ 0 → malformed b ≡ false
  unfolding open_of
  opened z = opens_with_lem (malformed b) e z

  pub shut : (r ≡ 0 → ⊥) → malformed b ≡ true
  unfolding open_of
  shut z = shuts_with (malformed b) e z

pub ruleset open_cases = (malformed_short, malformed_mark, malformed_sizes, open_refused, open_accepted)

-- the map as the code cuts it out
pub map_is : (b : List ℕ) {n place : ℕ} → n ≡ board_turns b → place ≡ steps_place n → take (place - board_header) (drop board_header b) ≡ board_map b
unfolding board_map
map_is b {n} {place} p s = let w : place - board_header ≡ map_bytes n = omega arith in rw (w, p)

module _ (b : List ℕ) {n m : ℕ} (p : n ≡ board_turns b) (q : m ≡ board_steps b) where
  pub sizes_steps : n < m → true ≡ bad_sizes b
  unfolding bad_sizes
  sizes_steps h = rw (← p, ← q, lt-ltb n m h)

  module _ (l : m ≤ n) {size : ℕ} (s : size ≡ board_length n m) where
    pub sizes_length : (length b ≡ size → ⊥) → true ≡ bad_sizes b
    unfolding bad_sizes
    sizes_length h = rw (← p, ← q, le-ltb n m l, ← s, ne_eqb (length b) size h)

    pub sizes_clear : {r : Bool} {place : ℕ} → length b ≡ size → place ≡ steps_place n → r ≡ clear_past n (take (place - board_header) (drop board_header b)) → not r ≡ bad_sizes b
    unfolding bad_sizes
    sizes_clear h k e = rw (← p, ← q, le-ltb n m l, ← s, eq-eqb (length b) size h, ← (rw (map_is b p k) at e))

pub ruleset sizes_cases = (sizes_steps, sizes_length, sizes_clear)

-- ---- what a board that opens has

module _ (b : List ℕ) (e : malformed b ≡ false) where
  formed_sizes : bad_sizes b ≡ false
  unfolding malformed
  formed_sizes = or_false_2 (not (opens_with board_mark b)) (bad_sizes b) (or_false_2 (ltb (length b) board_header) (not (opens_with board_mark b) || bad_sizes b) e)

  pub formed_header : board_header ≤ length b
  unfolding malformed
  formed_header = ltb-false (length b) board_header (or_false_1 (ltb (length b) board_header) (not (opens_with board_mark b) || bad_sizes b) e)

  pub formed_mark : opens_with board_mark b ≡ true
  unfolding malformed
  formed_mark = not-false (opens_with board_mark b) (or_false_1 (not (opens_with board_mark b)) (bad_sizes b) (or_false_2 (ltb (length b) board_header) (not (opens_with board_mark b) || bad_sizes b) e))

  pub formed_steps : board_steps b ≤ board_turns b
  unfolding bad_sizes
  formed_steps = let f = formed_sizes in ltb-false (board_turns b) (board_steps b) (or_false_1 (ltb (board_turns b) (board_steps b)) _ f)

  formed_rest : (not (eqb (length b) (board_length (board_turns b) (board_steps b))) || not (clear_past (board_turns b) (board_map b))) ≡ false
  unfolding bad_sizes
  formed_rest = let f = formed_sizes in or_false_2 (ltb (board_turns b) (board_steps b)) _ f

  pub formed_length : length b ≡ board_length (board_turns b) (board_steps b)
  formed_length = eqb-true (length b) (board_length (board_turns b) (board_steps b)) (not-false (eqb (length b) (board_length (board_turns b) (board_steps b))) (or_false_1 _ (not (clear_past (board_turns b) (board_map b))) formed_rest))

  pub formed_clear : clear_past (board_turns b) (board_map b) ≡ true
  formed_clear = not-false (clear_past (board_turns b) (board_map b)) (or_false_2 (not (eqb (length b) (board_length (board_turns b) (board_steps b)))) _ formed_rest)

  pub formed_map : length (board_map b) ≡ map_bytes (board_turns b)
  unfolding board_map
  formed_map = length-take-le (map_bytes (board_turns b)) (drop board_header b) (omega (arith, length-drop board_header b, formed_length))

-- ---- its parts

module _ (b : List ℕ) (e : malformed b ≡ false) {n place : ℕ} (p : n ≡ board_turns b) (s : place ≡ steps_place n) where
  behind : length b ≡ place + step_size * board_steps b
  behind = formed_length b e ∙ rw (s, p)

  pub map_inside : place ≤ length b
  map_inside = omega (arith, behind)

  pub map_length : length (take (place - board_header) (drop board_header b)) ≡ map_bytes (board_turns b)
  map_length = rw (map_is b p s) (formed_map b e)

  pub map_most : n < 65536 → length (take (place - board_header) (drop board_header b)) ≤ 8192
  map_most h = omega (arith, map_length)

pub ruleset map_part_cases = (formed_header, map_is, map_inside, map_length, map_most)

module _ (b : List ℕ) {r : Bool} (e : r ≡ malformed b) where
  pub part_none : r ≡ true → [] ≡ steps_part b
  unfolding steps_part
  part_none t = rw (← e, t)

  module _ (f : r ≡ false) where
    pub part_header : board_header ≤ length b
    part_header = formed_header b (sym e ∙ f)

    module _ {n place : ℕ} (p : n ≡ board_turns b) (s : place ≡ steps_place n) where
      pub part_inside : place ≤ length b
      part_inside = map_inside b (sym e ∙ f) p s

      pub part_is : take (length b - place) (drop place b) ≡ steps_part b
      unfolding steps_part
      part_is =
          let w : length b - place ≡ step_size * board_steps b = omega (arith, behind b (sym e ∙ f) p s) in
          rw (w, ← e, f, ← p, ← s)

pub ruleset part_cases = (part_none, part_header, part_inside, part_is)

-- ---- the steps' part of a board that opens, as callers take it

module _ (b : List ℕ) (e : malformed b ≡ false) where
  part_whole : steps_part b ≡ drop (steps_place (board_turns b)) b
  unfolding steps_part
  part_whole =
      let place = steps_place (board_turns b) in
      rw e (take_all (step_size * board_steps b) (drop place b) (omega (arith, length-drop place b, formed_length b e)))

  pub part_length : length (steps_part b) ≡ step_size * board_steps b
  part_length = rw part_whole (omega (arith, length-drop (steps_place (board_turns b)) b, formed_length b e))

  pub part_steps : steps_in (board_steps b) (steps_part b) ≡ written_steps b
  unfolding written_steps
  part_steps = rw part_whole

module _ (b : List ℕ) {r : ℕ} (e : r ≡ open_of b) (z : r ≡ 0) where
  pub opened_header : board_header ≤ length b
  opened_header = formed_header b (opened b e z)

  pub opened_room : {steps : List ℕ} → steps ≡ steps_part b → step_size * board_steps b ≤ length steps
  opened_room q = rw q (omega (arith, part_length b (opened b e z)))

pub ruleset opened_cases = (opened, opened_header, opened_room)
