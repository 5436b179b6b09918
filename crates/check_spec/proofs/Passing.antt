-- A board passes exactly when its sheet is accepted and it keeps the rules, and then it binds every feasible set. Assumes nothing.
use Prim.Native.Nat.{ℕ}
use mathlib.Core.Path.{◌≡◌, refl, sym, ◌∙◌}
use mathlib.Core.Logic.{◌↔◌}
use mathlib.Core.List.{List, [], ◌∷◌}
use mathlib.Core.Bool.{true, false, not}
use native.Mathlib.Omega.{arith}
use lib.Dec.{eqb}
use lib.IntN.{ℤ}
use borrow.Author.Tests.{eqb-true, eq-eqb, not-false}
use Rattle.refusal.specs.Cause.{first_of}
use Rattle.refusal.proofs.Order.{numbered, numbered_append, first_goes, clear_cons, clear_append}
use Rattle.wire.specs.Number.{Bytes}
use Rattle.model.specs.Turns.{Turns}
use Rattle.model.specs.Steps.{Step, initial, after_step, after_steps}
use Rattle.model.specs.Rules.{independent, maximal, right, all_right, none_open, sums}
use Rattle.model.specs.Ceiling.{ceiling}
use Rattle.model.specs.Promises.{Promises}
use Rattle.model.specs.Choice.{members}
use Rattle.model.specs.Feasible.{Feasible, worth_of}
use Rattle.model.proofs.Members.{chosen_members, members_feasible}
use Rattle.lists.proofs.Bools.{and_1, and_2, or_false_1, or_false_2}
use Rattle.model.proofs.Readings.{keeps_is}
use Rattle.model.proofs.Promised.{keeps_promises}
use Rattle.sheet.specs.Read.{sheet_causes}
use Rattle.sheet.specs.Accepted.{Accepted}
use Rattle.sheet.proofs.Accepting.{accepted_iff}
use Rattle.sheet.proofs.Readings.{sheet_numbered}
use Rattle.board.specs.Board.{board_turns, board_tally, board_worth, board_choice, written_steps}
use Rattle.board_open.specs.Open.{malformed}
use Rattle.board_open.proofs.OpenCauses.{formed_board}
use Rattle.board_open.proofs.OpenCauses.{board_formed}
use Rattle.instance_spec.specs.Problem.{sheet_turns}
use Rattle.instance_spec.proofs.SheetTurns.{sheet_count, sheet_lengths}
use Rattle.check_spec.specs.Check.{choice_causes, after_right, step_causes, rule_causes, sum_causes, board_causes, check_causes, check_of, checked, Passes, BoardKeeps}
use Rattle.refusal.proofs.Outcome.{number_first, number_none}
use Rattle.check_spec.specs.declared.CheckAnswer.{CheckAnswer}

-- ---- the number

pub check_number : (s b : List ℕ) → (check_of s b).refusal ≡ first_of (check_causes s b)
unfolding check_of
check_number s b = number_first (check_causes s b) _ _ (λ (x : CheckAnswer). x.refusal) refl (λ k. refl)

-- every number of the check's order is above 0

pub board_numbered : (T : Turns) (b : List ℕ) → numbered (board_causes T b) ≡ true
unfolding board_causes rule_causes choice_causes step_causes sum_causes
board_numbered T b = refl

pub check_numbered : (s b : List ℕ) → numbered (check_causes s b) ≡ true
unfolding check_causes
check_numbered s b = numbered_append (sheet_causes s) (board_causes (sheet_turns s) b) (sheet_numbered s) (board_numbered (sheet_turns s) b)

-- ---- the steps that take their amounts

-- where all steps are right, all take their amounts
pub after_right_lem : (T : Turns) (s : List ℤ) (xs : List Step) → all_right T s xs ≡ true → after_right T s xs ≡ after_steps T s xs
unfolding all_right after_right after_steps
after_right_lem T s [] e = refl
after_right_lem T s (x ∷ xs) e =
    rw (and_1 (right T s x) (all_right T (after_step T s x) xs) e) (after_right_lem T (after_step T s x) xs (and_2 (right T s x) (all_right T (after_step T s x) xs) e))

-- ---- a board without a cause

-- the tests of a board, all passed
pub record Clear (T : Turns) (b : List ℕ) : Type 0 where
  pub formed : malformed b ≡ false
  pub counted : board_turns b ≡ T.count
  pub apart : independent T (board_choice b) ≡ true
  pub full : maximal T (board_choice b) ≡ true
  pub all_right_lem : all_right T (initial T) (written_steps b) ≡ true
  pub closed : none_open T (after_steps T (initial T) (written_steps b)) ≡ true
  pub summed : sums T (board_choice b) (written_steps b) (board_tally b) (board_worth b) ≡ true

module _ (T : Turns) (b : List ℕ) where
  pub board_clear : first_of (board_causes T b) ≡ 0 → Clear T b
  unfolding board_causes rule_causes choice_causes step_causes sum_causes
  board_clear e =
      let c₁ = clear_cons _ _ (λ z. omega arith) e in
      let c₂ = clear_cons _ _ (λ z. omega arith) c₁.1 in
      let c₃ = clear_cons _ _ (λ z. omega arith) c₂.1 in
      let c₄ = clear_cons _ _ (λ z. omega arith) c₃.1 in
      let c₅ = clear_cons _ _ (λ z. omega arith) c₄.1 in
      let c₆ = clear_cons _ _ (λ z. omega arith) c₅.1 in
      record {
        formed = or_false_1 (malformed b) (not (eqb (board_turns b) T.count)) c₁.0;
        counted = eqb-true (board_turns b) T.count (not-false (eqb (board_turns b) T.count) (or_false_2 (malformed b) (not (eqb (board_turns b) T.count)) c₁.0));
        apart = not-false (independent T (board_choice b)) c₂.0;
        full = not-false (maximal T (board_choice b)) c₃.0;
        all_right_lem = not-false (all_right T (initial T) (written_steps b)) c₄.0;
        closed = rw (after_right_lem T (initial T) (written_steps b) (not-false (all_right T (initial T) (written_steps b)) c₄.0)) at (not-false (none_open T (after_right T (initial T) (written_steps b))) c₅.0);
        summed = not-false (sums T (board_choice b) (written_steps b) (board_tally b) (board_worth b)) c₆.0;
      }

  pub clear_board : Clear T b → first_of (board_causes T b) ≡ 0
  unfolding board_causes rule_causes choice_causes step_causes sum_causes first_of
  clear_board c = rw (c.formed, eq-eqb (board_turns b) T.count c.counted, c.apart, c.full, c.all_right_lem, after_right_lem T (initial T) (written_steps b) c.all_right_lem, c.closed, c.summed)

-- ---- the check passes

module _ (s b : List ℕ) where
  check_parts : first_of (check_causes s b) ≡ 0 → (first_of (sheet_causes s) ≡ 0) × (first_of (board_causes (sheet_turns s) b) ≡ 0)
  unfolding check_causes
  check_parts e = clear_append (sheet_causes s) (board_causes (sheet_turns s) b) (sheet_numbered s) e

  parts_check : first_of (sheet_causes s) ≡ 0 → first_of (board_causes (sheet_turns s) b) ≡ 0 → first_of (check_causes s b) ≡ 0
  unfolding check_causes
  parts_check e f = first_goes (sheet_causes s) (board_causes (sheet_turns s) b) (sheet_numbered s) e ∙ f

  -- for every list of numbers: nothing is refused exactly where the sheet gives no cause and the board keeps the rules
  pub passes_parts : Passes s b → (first_of (sheet_causes s) ≡ 0) × BoardKeeps s b
  passes_parts p =
      let q = check_parts (sym (check_number s b) ∙ p) in
      let c = board_clear (sheet_turns s) b q.1 in
      let k = (keeps_is (sheet_turns s) (board_choice b) (written_steps b) (board_tally b) (board_worth b) (sheet_lengths s q.0)).0 (c.apart, c.full, c.all_right_lem, c.closed, c.summed) in
      (q.0, record { form = rw (c.counted ∙ sheet_count s q.0) at (formed_board b c.formed); rules = k })

  pub parts_pass : first_of (sheet_causes s) ≡ 0 → BoardKeeps s b → Passes s b
  parts_pass e k =
      let t = (keeps_is (sheet_turns s) (board_choice b) (written_steps b) (board_tally b) (board_worth b) (sheet_lengths s e)).1 k.rules in
      let c : Clear (sheet_turns s) b = record { formed = board_formed b k.form; counted = k.form.turns ∙ sym (sheet_count s e); apart = t.0; full = t.1; all_right_lem = t.2; closed = t.3; summed = t.4 } in
      check_number s b ∙ parts_check e (clear_board (sheet_turns s) b c)

  -- exactly: bytes pass the check just if they are an accepted sheet and a board that keeps the rules for it
  pub passes_iff : Bytes s → Passes s b ↔ (Accepted s × BoardKeeps s b)
  passes_iff y = (
    λ p. let q = passes_parts p in ((accepted_iff y).0 q.0, q.1),
    λ q. parts_pass ((accepted_iff y).1 q.0) q.1,
  )

  -- the answer of a check that passes is the board's own tally and worth, and the ceiling of its steps
  pub passes_answer : Passes s b → check_of s b ≡ checked 0 (board_tally b) (board_worth b) (ceiling (sheet_turns s) (written_steps b))
  unfolding check_of
  passes_answer = number_none (check_causes s b) _ _ (λ (x : CheckAnswer). x.refusal) refl (λ k. refl)

  -- the chosen turns of a board that passes are a feasible set, worth what the board says
  pub passes_feasible : Passes s b → (R : List ℕ) × Feasible (sheet_turns s) R × (worth_of (sheet_turns s) R ≡ board_worth b)
  passes_feasible p =
      let T = sheet_turns s in
      let k = (passes_parts p).1.rules in
      (members T.count (board_choice b), members_feasible T (board_choice b) k.apart, sym (k.worth_is ∙ chosen_members T.count (board_choice b) T.worth))

  -- whoever made the board, and for every list of numbers: what passes binds every feasible set, by the ceiling that the check returns among others
  pub passes_promises : Passes s b → Promises (sheet_turns s) (board_choice b) (board_tally b) (board_worth b) (check_of s b).ceiling
  passes_promises p = let q = passes_parts p in rw (passes_answer p) (keeps_promises (sheet_turns s) (sheet_lengths s q.0) q.1.rules)
