-- The entry's number: exactly the first cause in the order gives it, and 0 is given exactly where there is none. Assumes nothing.
use Prim.Native.Nat.{ℕ}
use mathlib.Core.Path.{◌≡◌, refl, sym, ◌∙◌}
use mathlib.Core.List.{List, [], ◌∷◌, ◌++◌}
use mathlib.Core.Logic.{◌↔◌, ◌≢◌}
use mathlib.Core.Bool.{true, not}
use native.Mathlib.Omega.{arith}
use lib.Dec.{eqb}
use lib.ListN.{length}
use borrow.Author.Tests.{eqb-true, eq-eqb, ne_eqb, not-true, not-false, eqb-false}
use Rattle.refusal.specs.Number.{bad_prices}
use Rattle.refusal.specs.Cause.{first_of, Cause, ◌when◌}
use Rattle.refusal.proofs.Order.{clear_last, numbered}
use Rattle.wire.specs.Number.{Bytes}
use Rattle.sheet.specs.Read.{sheet_causes}
use Rattle.sheet.specs.Accepted.{Accepted}
use Rattle.sheet.proofs.Readings.{sheet_numbered}
use Rattle.sheet.proofs.Accepting.{accepted_iff}
use Rattle.sheet.proofs.ReadCauses.{more_tell}
use Rattle.limit_spec.specs.Limit.{price_count, limit_causes, sheet_limit, limit_is, limit_of, FirstLimitCause}
use Rattle.refusal.proofs.Outcome.{number_first, number_iff, number_none}
use Rattle.limit_spec.specs.declared.LimitAnswer.{LimitAnswer}

-- two numbers that are not to differ: the test in words, and as the last cause
pub other_iff : (a b : ℕ) → (not (eqb a b) ≡ true) ↔ (a ≢ b)
other_iff a b = (λ t. eqb-false a b (not-true (eqb a b) t), λ d. rw (ne_eqb a b d))

pub clear_exact : (cs : List Cause) (a b : ℕ) → numbered cs ≡ true → (first_of (cs ++ (bad_prices when not (eqb a b) ∷ [])) ≡ 0) ↔ ((first_of cs ≡ 0) × (a ≡ b))
clear_exact cs a b n =
    let last = clear_last cs bad_prices (not (eqb a b)) n (omega arith) in (
      λ e. let (z, q) = last.0 e in (z, eqb-true a b (not-false (eqb a b) q)),
      λ (z, l). last.1 (z, rw (eq-eqb a b l)),
    )

module _ (s prices : List ℕ) where
  pub limit_number : (limit_of s prices).refusal ≡ first_of (limit_causes s prices)
  unfolding limit_of
  limit_number = number_first (limit_causes s prices) _ _ (λ (x : LimitAnswer). x.refusal) refl (λ k. refl)

  -- the entry refuses with k exactly where the first cause has number k
  pub limit_refused_iff : (k : ℕ) → (k ≡ 0 → ⊥) → ((limit_of s prices).refusal ≡ k) ↔ FirstLimitCause s prices k
  unfolding limit_of limit_causes
  limit_refused_iff =
      number_iff (limit_causes s prices) _ _ (λ (x : LimitAnswer). x.refusal) refl (λ k. refl)
      (more_tell s bad_prices (length prices ≢ price_count s) (not (eqb (length prices) (price_count s))) (other_iff (length prices) (price_count s)) refl)

  -- no cause is there: the sheet is not refused, and the list has the right length
  clear_iff : (first_of (limit_causes s prices) ≡ 0) ↔ ((first_of (sheet_causes s) ≡ 0) × (length prices ≡ price_count s))
  unfolding limit_causes
  clear_iff = clear_exact (sheet_causes s) (length prices) (price_count s) (sheet_numbered s)

  pub limit_clear : (limit_of s prices).refusal ≡ 0 → (first_of (sheet_causes s) ≡ 0) × (length prices ≡ price_count s)
  limit_clear e = clear_iff.0 (sym limit_number ∙ e)

  -- then the answer is the limit of the sheet's turns
  pub limit_is_lem : (limit_of s prices).refusal ≡ 0 → limit_of s prices ≡ limit_is (sheet_limit s prices)
  unfolding limit_of
  limit_is_lem = number_none (limit_causes s prices) _ _ (λ (x : LimitAnswer). x.refusal) refl (λ k. refl)

-- the entry refuses nothing just if the sheet is accepted and the list has a number for each slope and each turn
pub limit_accepted_iff : {s : List ℕ} → Bytes s → (prices : List ℕ) → ((limit_of s prices).refusal ≡ 0) ↔ (Accepted s × (length prices ≡ price_count s))
limit_accepted_iff {s} b prices = (λ e. let (z, l) = limit_clear s prices e in ((accepted_iff b).0 z, l), λ (a, l). limit_number s prices ∙ (clear_iff s prices).1 ((accepted_iff b).1 a, l))
