-- The number given for a refusal: exactly the first cause in the order gives it, and 0 is given exactly where there is none. Assumes nothing.
use Prim.Native.Nat.{ℕ, ◌≤◌}
use mathlib.Core.Path.{◌≡◌, refl}
use mathlib.Core.List.{List}
use mathlib.Core.Logic.{◌↔◌}
use lib.ListN.{length}
use Rattle.refusal.specs.Cause.{first_of}
use Rattle.wire.specs.Number.{Bytes}
use Rattle.sheet.specs.Read.{turn_count}
use Rattle.refusal.specs.Written.{at_front}
use Rattle.sheet.specs.Accepted.{Accepted}
use Rattle.sheet.proofs.Accepting.{lent_accepted_iff}
use Rattle.sheet.proofs.ReadCauses.{lent_tell}
use Rattle.instance_spec.specs.Problem.{sheet_turns}
use Rattle.assign_spec.specs.Numbering.{numbers_of, used_of}
use Rattle.assign_spec.specs.Assign.{assign_causes, assign_refused, assign_of, FirstAssignCause}
use Rattle.refusal.specs.Outcome.{Outcome, beside}
use Rattle.refusal.proofs.Outcome.{number_first, unless_none, number_refused, number_iff}
use Rattle.assign_spec.specs.declared.AssignAnswer.{AssignAnswer}

module _ (s lent : List ℕ) where
  -- the answer where there is no cause
  abbrev found : Outcome AssignAnswer (List ℕ)
  found = beside (record { refusal = 0; groomers = used_of (sheet_turns s) }) (at_front (numbers_of (sheet_turns s)) lent)

  pub assign_number : (assign_of s lent).answer.refusal ≡ first_of (assign_causes s (length lent))
  unfolding assign_of
  assign_number = number_first (assign_causes s (length lent)) _ _ (λ (o : Outcome AssignAnswer (List ℕ)). o.answer.refusal) refl (λ k. refl)

  pub answered : first_of (assign_causes s (length lent)) ≡ 0 → assign_of s lent ≡ found
  unfolding assign_of
  answered = unless_none (assign_causes s (length lent)) found (λ k. beside (assign_refused k) lent)

  pub assign_refused_iff : (k : ℕ) → (k ≡ 0 → ⊥) → ((assign_of s lent).answer.refusal ≡ k) ↔ FirstAssignCause s (length lent) k
  unfolding assign_of assign_causes
  assign_refused_iff = number_iff (assign_causes s (length lent)) _ _ (λ (o : Outcome AssignAnswer (List ℕ)). o.answer.refusal) refl (λ k. refl) (lent_tell s (turn_count s) (length lent))

  -- a refusal leaves the lent places as they were, and counts no groomers
  pub assign_unchanged : ((assign_of s lent).answer.refusal ≡ 0 → ⊥) → assign_of s lent ≡ beside (assign_refused (assign_of s lent).answer.refusal) lent
  unfolding assign_of
  assign_unchanged = number_refused (assign_causes s (length lent)) _ _ (λ (o : Outcome AssignAnswer (List ℕ)). o.answer.refusal) refl (λ k. refl)

-- nothing is refused just if the sheet is accepted and there are at least as many lent places as turns
pub assign_accepted_iff : {s : List ℕ} → Bytes s → (lent : List ℕ) → ((assign_of s lent).answer.refusal ≡ 0) ↔ (Accepted s × (turn_count s ≤ length lent))
unfolding assign_causes
assign_accepted_iff {s} b lent = lent_accepted_iff b (turn_count s) (length lent) (assign_number s lent)
