-- What is written into lent bytes, by its cases: every list of causes and every text. Assumes nothing.
use Prim.Native.Nat.{ℕ, ◌<◌, ◌≤◌}
use mathlib.Core.Path.{◌≡◌, refl}
use mathlib.Core.Bool.{true}
use mathlib.Core.List.{List}
use mathlib.Core.Logic.{◌↔◌}
use lib.ListN.{length, drop}
use lib.Seq.{take-append_seam}
use Rattle.refusal.specs.Number.{buffer_too_small}
use Rattle.refusal.specs.Cause.{Cause, first_of, FirstAmong}
use Rattle.refusal.specs.Outcome.{then_room}
use Rattle.refusal.specs.Written.{Written, wrote, kept, written_part, written_unless}
use Rattle.refusal.proofs.Order.{numbered}
use Rattle.refusal.proofs.Words.{Tells}
use Rattle.refusal.proofs.Outcome as outcome

module _ (cs : List Cause) (text lent : List ℕ) where
  -- the number is that of the first cause
  pub written_number : (written_unless cs text lent).answer.refusal ≡ first_of cs
  unfolding written_unless
  written_number = outcome.number_first cs (wrote text lent) (λ k. kept k lent) (λ (w : Written). w.answer.refusal) refl (λ k. refl)

  -- with 0 all of the text is written, with another number the lent bytes stay
  pub written_all : (written_unless cs text lent).answer.refusal ≡ 0 → written_unless cs text lent ≡ wrote text lent
  unfolding written_unless
  written_all = outcome.number_none cs (wrote text lent) (λ k. kept k lent) (λ (w : Written). w.answer.refusal) refl (λ k. refl)

  -- so the bytes that it says were written are the text
  pub written_bytes : (written_unless cs text lent).answer.refusal ≡ 0 → written_part (written_unless cs text lent) ≡ text
  written_bytes e = rw (written_all e) (take-append_seam text (drop (length text) lent))

  pub written_not : ((written_unless cs text lent).answer.refusal ≡ 0 → ⊥) → written_unless cs text lent ≡ kept (written_unless cs text lent).answer.refusal lent
  unfolding written_unless
  written_not = outcome.number_refused cs (wrote text lent) (λ k. kept k lent) (λ (w : Written). w.answer.refusal) refl (λ k. refl)

  pub written_iff : {Words : ℕ → ℕ → Type 0} → Tells Words cs → (k : ℕ) → (k ≡ 0 → ⊥) → ((written_unless cs text lent).answer.refusal ≡ k) ↔ FirstAmong Words k
  unfolding written_unless
  written_iff t = outcome.number_iff cs (wrote text lent) (λ k. kept k lent) (λ (w : Written). w.answer.refusal) refl (λ k. refl) t

  -- nothing else of the causes matters
  pub written_same : (ds : List Cause) → first_of cs ≡ first_of ds → written_unless cs text lent ≡ written_unless ds text lent
  unfolding written_unless
  written_same = outcome.unless_same cs (wrote text lent) (λ k. kept k lent)

-- ---- where the last cause is that the lent bytes are fewer than needed

module _ (cs : List Cause) (need : ℕ) (text lent : List ℕ) where
  -- a cause before it is given
  pub kept_before : (k : ℕ) → first_of cs ≡ k → (k ≡ 0 → ⊥) → written_unless (then_room cs need (length lent)) text lent ≡ kept k lent
  unfolding written_unless
  kept_before = outcome.room_stopped cs need (length lent) (wrote text lent) (λ k. kept k lent)

  -- where none is there: too few lent bytes, and enough
  module _ (n : numbered cs ≡ true) (z : first_of cs ≡ 0) where
    pub kept_small : length lent < need → written_unless (then_room cs need (length lent)) text lent ≡ kept buffer_too_small lent
    unfolding written_unless
    kept_small = outcome.room_short cs need (length lent) (wrote text lent) (λ k. kept k lent) n z

    pub wrote_enough : need ≤ length lent → written_unless (then_room cs need (length lent)) text lent ≡ wrote text lent
    unfolding written_unless
    wrote_enough = outcome.room_enough cs need (length lent) (wrote text lent) (λ k. kept k lent) n z
