-- Planning, then checking, by its cases. Assumes nothing.
use Prim.Native.Nat.{ℕ, ◌≤◌}
use mathlib.Core.Path.{◌≡◌, sym, ◌∙◌, ap}
use mathlib.Core.List.{List, ◌++◌}
use native.Mathlib.Omega.{arith}
use lib.ListN.{length, take, drop, length-append}
use lib.Seq.{take-append_seam}
use borrow.Author.Tests.{ne_eqb}
use Rattle.refusal.specs.Written.{Written, wrote}
use Rattle.check_spec.specs.declared.CheckAnswer.{CheckAnswer}
use Rattle.check_spec.specs.Check.{check_of}
use Rattle.refusal.specs.declared.WriteAnswer.{WriteAnswer}
use Rattle.plan_spec.specs.Plan.{planned_board, plan_of}
use Rattle.refusal.specs.Outcome.{beside}
use Rattle.claim.specs.Confirm.{confirmed, confirm_of}
use Rattle.claim.proofs.Claimed.{planned_answer, plan_accepted}
use Rattle.plan_spec.proofs.Planned.{plan_written}

module _ (s lent out : List ℕ) (a : WriteAnswer) (e : beside a out ≡ plan_of s lent) where
  number : (plan_of s lent).answer.refusal ≡ a.refusal
  number = ap (λ (p : Written). p.answer.refusal) (sym e)

  pub confirm_refused : (a.refusal ≡ 0 → ⊥) → confirmed (record { plan = a; check = record { refusal = a.refusal; tally = 0; worth = 0; ceiling = 0 } }) out ≡ confirm_of s lent
  unfolding confirm_of
  confirm_refused n = rw (e, number, ne_eqb a.refusal 0 n)

  module _ (z : a.refusal ≡ 0) where
    fine : (plan_of s lent).answer.refusal ≡ 0
    fine = number ∙ z

    same : beside a out ≡ wrote (planned_board s) lent
    same = e ∙ plan_written s lent fine

    bytes_are : a.bytes ≡ length (planned_board s)
    bytes_are = ap (λ (p : Written). p.answer.bytes) same

    out_is : out ≡ planned_board s ++ drop (length (planned_board s)) lent
    out_is = ap (λ (p : Written). p.lent) same

    pub confirm_room : a.bytes ≤ length out
    confirm_room = rw (bytes_are, out_is) (omega (arith, length-append (planned_board s) (drop (length (planned_board s)) lent)))

    board_is : take a.bytes out ≡ planned_board s
    board_is = rw (bytes_are, out_is) (take-append_seam (planned_board s) (drop (length (planned_board s)) lent))

    pub confirm_done : {c : CheckAnswer} → c ≡ check_of s (take a.bytes out) → confirmed (record { plan = a; check = c }) out ≡ confirm_of s lent
    unfolding confirm_of
    confirm_done g = rw (e, fine, rw board_is at g, planned_answer s (plan_accepted s lent fine))
