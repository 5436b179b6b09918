-- The steps' part by its cases. Assumes nothing.
use Prim.Native.Nat.{ℕ, ◌+◌, ◌-◌, ◌*◌, ◌≤◌}
use mathlib.Core.Path.{◌≡◌, refl}
use mathlib.Core.List.{List, []}
use mathlib.Core.Bool.{Bool, true, false, cond}
use native.Mathlib.Omega.{arith}
use lib.ListN.{length, take, drop}
use Rattle.board.specs.Board.{step_size, board_turns, board_steps, steps_place}
use Rattle.board_open.specs.Open.{malformed, open_of, steps_part}
use Rattle.board_open.proofs.Openings.{opened, shut, formed_length, part_length}
use Rattle.board_open.specs.declared.part.Part.{Part}
use Rattle.board_open.specs.Part.{steps_part_at}

-- the part that is named is the one that opening hands back
part_cases_of : (b : List ℕ) (m : Bool) → let p : Part = cond m (record { start = 0; length = 0 }) (record { start = steps_place (board_turns b); length = step_size * board_steps b }) in take p.length (drop p.start b) ≡ cond m [] (take (step_size * board_steps b) (drop (steps_place (board_turns b)) b))
part_cases_of b true = refl
part_cases_of b false = refl

pub part_named : (b : List ℕ) {r : Part} → r ≡ steps_part_at b → take r.length (drop r.start b) ≡ steps_part b
unfolding steps_part_at steps_part
part_named b e = rw e (part_cases_of b (malformed b))

module _ (b : List ℕ) {r : ℕ} (e : r ≡ open_of b) where
  pub steps_none : (r ≡ 0 → ⊥) → ◌≡◌ {A = Part} (record { start = 0; length = 0 }) (steps_part_at b)
  unfolding steps_part_at
  steps_none z = rw (shut b e z)

  module _ (z : r ≡ 0) {steps : List ℕ} (q : steps ≡ steps_part b) where
    steps_length : length steps ≡ step_size * board_steps b
    steps_length = rw q (part_length b (opened b e z))

    pub steps_inside : length steps ≤ length b
    steps_inside = omega (arith, steps_length, formed_length b (opened b e z))

    pub part_at : ◌≡◌ {A = Part} (record { start = length b - length steps; length = length steps }) (steps_part_at b)
    unfolding steps_part_at
    part_at =
        let w : length b - step_size * board_steps b ≡ steps_place (board_turns b) = omega (arith, formed_length b (opened b e z)) in
        rw (opened b e z, steps_length, w)

-- ---- where the part lies that opening hands back: o is the place of the board's first byte

module _ (b : List ℕ) {r : Bool} (e : r ≡ malformed b) (o : ℕ) where
  pub place_none : r ≡ true → o ≡ o + (steps_part_at b).start
  unfolding steps_part_at
  place_none t = rw (← e, t) (omega arith)

  pub place_is : {n place : ℕ} → r ≡ false → n ≡ board_turns b → place ≡ steps_place n → place + o ≡ o + (steps_part_at b).start
  unfolding steps_part_at
  place_is {n} {place} f p s = rw (← e, f, ← p, ← s) (omega arith)

pub ruleset place_cases = (place_none, place_is)

-- ---- the same by place and length

pub ruleset part_cases = (steps_none, steps_inside, part_at)
