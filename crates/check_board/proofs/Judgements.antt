-- The check by its cases, each premise in the form in which the code's calls and tests leave it. Assumes nothing.
use Prim.Native.Nat.{ℕ, ◌≤◌}
use mathlib.Core.Path.{◌≡◌, refl, sym, ◌∙◌, ap}
use mathlib.Core.List.{List}
use mathlib.Core.Bool.{Bool, true, false, not, ◌&&◌}
use native.Mathlib.Omega.{arith}
use lib.Dec.{eqb, leb}
use lib.ListN.{length}
use borrow.Author.Tests.{eq-eqb, ne_eqb}
use Rattle.refusal.specs.Number.{malformed_board, chosen_conflict, not_maximal, wrong_sums}
use Rattle.std.specs.Prelude.{Result, IfOk}
use Rattle.refusal.specs.declared.Refusal.{Refusal}
use Rattle.refusal.specs.Cause.{first_of}
use Rattle.refusal.proofs.Order.{first_stops, first_goes}
use Rattle.model.specs.Turns.{Turns}
use Rattle.model.specs.Steps.{Step, tally}
use Rattle.model.specs.Choice.{chosen}
use Rattle.model.specs.Rules.{independent, maximal, sums}
use Rattle.model.specs.Ceiling.{ceiling}
use Rattle.choice_map.specs.Choice.{choice_in}
use Rattle.board.specs.Board.{board_turns, board_steps, board_tally, board_worth, board_map, board_choice, steps_in, written_steps}
use Rattle.board_open.specs.Open.{open_of, steps_part}
use Rattle.board_open.proofs.Openings.{opened, shut, formed_steps, formed_map, part_steps}
use Rattle.instance.specs.declared.columns.Size.{Size}
use Rattle.instance.specs.Columns.{turns_by, Held}
use Rattle.selection.specs.Bounds.{HeldWithMap}
use Rattle.check_spec.specs.Check.{choice_causes, step_causes, rule_causes, sum_causes, part_causes, board_causes}

-- ---- the choice

module _ (p : Size) (cols : List ℕ) (S : List Bool) where
  chosen_below : chosen (turns_by p cols).count S (turns_by p cols).worth ≡ chosen p.count S (turns_by p cols).worth
  unfolding chosen turns_by
  chosen_below = refl

  module _ {i : Bool} (e : i ≡ independent (turns_by p cols) S) where
    pub choice_conflict : i ≡ false → chosen_conflict ≡ first_of (choice_causes (turns_by p cols) S)
    unfolding choice_causes first_of
    choice_conflict f = rw (← e, f)

    module _ {m : Bool} (t : i ≡ true) (g : m ≡ maximal (turns_by p cols) S) where
      pub choice_room : m ≡ false → not_maximal ≡ first_of (choice_causes (turns_by p cols) S)
      unfolding choice_causes first_of
      choice_room f = rw (← e, t, ← g, f)

      pub choice_fine : m ≡ true → 0 ≡ first_of (choice_causes (turns_by p cols) S)
      unfolding choice_causes first_of
      choice_fine f = rw (← e, t, ← g, f)

pub ruleset choice_cases = (choice_conflict, choice_room, choice_fine)

-- ---- the sums

module _ (size : Size) (cols : List ℕ) (S : List Bool) (xs : List Step) (b : List ℕ) {tallied worth amounts earned : ℕ} (r : Bool) (u : tallied ≡ board_tally b) (v : worth ≡ board_worth b) (p : amounts ≡ tally xs) (q : earned ≡ chosen size.count S (turns_by size cols).worth) (e : not r ≡ (eqb tallied amounts && (eqb worth earned && leb tallied worth))) where
  sums_is : sums (turns_by size cols) S xs (board_tally b) (board_worth b) ≡ not r
  unfolding sums
  sums_is = sym (e ∙ rw (p, q, ← chosen_below size cols S, u, v))

  pub sums_wrong : r ≡ true → wrong_sums ≡ first_of (sum_causes (turns_by size cols) S xs (board_tally b) (board_worth b))
  unfolding sum_causes first_of
  sums_wrong f = rw (sums_is, f)

  pub sums_fine : r ≡ false → 0 ≡ first_of (sum_causes (turns_by size cols) S xs (board_tally b) (board_worth b))
  unfolding sum_causes first_of
  sums_fine f = rw (sums_is, f)

pub ruleset sums_cases = (sums_wrong, sums_fine)

-- ---- one cause after another

module _ (T : Turns) (S : List Bool) (xs : List Step) where
  pub rules_choice : {f : ℕ} → f ≡ first_of (choice_causes T S) → (f ≡ 0 → ⊥) → f ≡ first_of (rule_causes T S xs)
  unfolding rule_causes
  rules_choice {f} e z = sym (first_stops (choice_causes T S) (step_causes T xs) f (sym e) z)

  pub rules_steps : {f : ℕ} → 0 ≡ first_of (choice_causes T S) → f ≡ first_of (step_causes T xs) → f ≡ first_of (rule_causes T S xs)
  unfolding rule_causes choice_causes
  rules_steps e g = g ∙ sym (first_goes (choice_causes T S) (step_causes T xs) refl (sym e))

module _ (T : Turns) (S : List Bool) (bytes b : List ℕ) {m : ℕ} (p : m ≡ board_steps b) where
  abbrev xs : List Step
  xs = steps_in (board_steps b) bytes

  pub parts_rules : {f : ℕ} → f ≡ first_of (rule_causes T S (steps_in m bytes)) → (f ≡ 0 → ⊥) → f ≡ first_of (part_causes T S xs (board_tally b) (board_worth b))
  parts_rules {f} e z = sym (first_stops (rule_causes T S xs) (sum_causes T S xs (board_tally b) (board_worth b)) f (sym (rw p at e)) z)

  pub parts_sums : {f : ℕ} → 0 ≡ first_of (rule_causes T S (steps_in m bytes)) → f ≡ first_of (sum_causes T S (steps_in m bytes) (board_tally b) (board_worth b)) → f ≡ first_of (part_causes T S xs (board_tally b) (board_worth b))
  unfolding rule_causes choice_causes step_causes
  parts_sums e h = rw p at h ∙ sym (first_goes (rule_causes T S xs) (sum_causes T S xs (board_tally b) (board_worth b)) refl (sym (rw p at e)))

-- ---- the board

module _ (b : List ℕ) {r : ℕ} (e : r ≡ open_of b) where
  pub board_malformed : (T : Turns) → (r ≡ 0 → ⊥) → malformed_board ≡ first_of (board_causes T b)
  unfolding board_causes first_of
  board_malformed T z = rw (shut b e z)

  module _ (size : Size) (cols : List ℕ) {k : ℕ} (z : r ≡ 0) (p : k ≡ board_turns b) where
    pub board_other : (k ≡ size.count → ⊥) → malformed_board ≡ first_of (board_causes (turns_by size cols) b)
    unfolding board_causes first_of turns_by
    board_other h = rw (opened b e z, ← p, ne_eqb k size.count h)

    module _ (h : k ≡ size.count) where
      pub board_few : board_steps b ≤ size.count
      board_few = omega (arith, formed_steps b (opened b e z))

      module _ {map steps : List ℕ} (q : map ≡ board_map b) (s : steps ≡ steps_part b) where
        pub board_lent : Held size cols → HeldWithMap size cols map
        board_lent held = record { held = held; bits = omega (arith, formed_map b (opened b e z), ap length q, p, h) }

        choice_is : choice_in size.count map ≡ board_choice b
        unfolding board_choice
        choice_is = rw (q, ← p, h)

        steps_are : steps_in (board_steps b) steps ≡ written_steps b
        steps_are = rw s (part_steps b (opened b e z))

        parts_first : first_of (part_causes (turns_by size cols) (board_choice b) (written_steps b) (board_tally b) (board_worth b)) ≡ first_of (board_causes (turns_by size cols) b)
        unfolding board_causes first_of turns_by
        parts_first = rw (opened b e z, ← p, eq-eqb k size.count h)

        pub board_by_parts : {f : ℕ} → f ≡ first_of (part_causes (turns_by size cols) (choice_in size.count map) (steps_in (board_steps b) steps) (board_tally b) (board_worth b)) → f ≡ first_of (board_causes (turns_by size cols) b)
        board_by_parts d = rw (choice_is, steps_are) at d ∙ parts_first

        pub board_counted : (x : Result ℕ Refusal) → IfOk x (λ c. c ≡ ceiling (turns_by size cols) (steps_in (board_steps b) steps)) → IfOk x (λ c. c ≡ ceiling (turns_by size cols) (written_steps b))
        board_counted x d = rw steps_are at d

pub ruleset board_cases = (board_malformed, board_other, board_few, board_lent, board_by_parts, board_counted)
