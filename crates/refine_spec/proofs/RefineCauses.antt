-- The entry's number: exactly the first cause in the order gives it, and 0 is given exactly where there is none. Assumes nothing.
use Prim.Native.Nat.{ℕ, ◌≤◌, ◌<◌}
use mathlib.Core.Path.{◌≡◌, refl, sym, ◌∙◌}
use mathlib.Core.List.{List, [], ◌∷◌, ◌++◌}
use mathlib.Core.Logic.{◌↔◌, ⊎_elim, ◌⊎◌, inl, inr}
use mathlib.Core.Bool.{Bool, true, ◌||◌}
use native.Mathlib.Omega.{arith}
use lib.Dec.{ltb}
use lib.ListN.{length}
use borrow.Author.Tests.{ltb-true, ltb-false, lt-ltb, le-ltb}
use Rattle.lists.proofs.Bools.{or_1, or_2, or_cases, or_false_1, or_false_2}
use Rattle.refusal.specs.Number.{buffer_too_small}
use Rattle.refusal.specs.Cause.{first_of, Cause, ◌when◌}
use Rattle.refusal.proofs.Order.{clear_last, numbered}
use Rattle.refusal.proofs.Outcome.{number_first, number_iff, number_none, number_refused}
use Rattle.wire.specs.Number.{Bytes}
use Rattle.sheet.specs.Read.{counts_in, turn_count, sheet_causes}
use Rattle.sheet.specs.Accepted.{Accepted}
use Rattle.sheet.proofs.Readings.{sheet_numbered}
use Rattle.sheet.proofs.Accepting.{accepted_iff}
use Rattle.sheet.proofs.ReadCauses.{more_tell}
use Rattle.board.specs.Board.{board_length}
use Rattle.instance_spec.specs.Problem.{sheet_turns}
use Rattle.limit_spec.specs.Limit.{price_count}
use Rattle.refine_spec.specs.Rounds.{Stage}
use Rattle.refine_spec.specs.Shift.{shift_refined}
use Rattle.refine_spec.specs.Refine.{Refinement, refine_causes, refinement_of, not_refined, refine_of, PlacesFail, few_bytes, few_prices, FirstRefineCause}

-- what the rounds come to on a sheet
abbrev pub sheet_refined : List ℕ → ℕ → Stage
sheet_refined s rounds = shift_refined (sheet_turns s) (counts_in s).groomers (counts_in s).slopes rounds

-- ---- the test of the lent places, and its words

-- one of two places is too small: the test in words, and as the last cause
pub few_iff : (a x b y : ℕ) → ((ltb a x || ltb b y) ≡ true) ↔ ((a < x) ⊎ (b < y))
few_iff a x b y = (
  λ e. ⊎_elim (λ p. inl (ltb-true a x p)) (λ p. inr (ltb-true b y p)) (or_cases (ltb a x) (ltb b y) e),
  ⊎_elim (λ h. or_1 (ltb a x) (ltb b y) (lt-ltb a x h)) (λ h. or_2 (ltb a x) (ltb b y) (lt-ltb b y h)),
)

pub clear_both : (cs : List Cause) (a x b y : ℕ) → numbered cs ≡ true
    → (first_of (cs ++ (buffer_too_small when (ltb a x || ltb b y) ∷ [])) ≡ 0) ↔ ((first_of cs ≡ 0) × (x ≤ a) × (y ≤ b))
clear_both cs a x b y n =
    let last = clear_last cs buffer_too_small (ltb a x || ltb b y) n (omega arith) in (
      λ e. let (z, q) = last.0 e in (z, ltb-false a x (or_false_1 (ltb a x) (ltb b y) q), ltb-false b y (or_false_2 (ltb a x) (ltb b y) q)),
      λ (z, l, m). last.1 (z, rw (le-ltb a x l, le-ltb b y m)),
    )

module _ (s : List ℕ) (bytes numbers : ℕ) where
  -- too few lent bytes, or too few lent numbers
  abbrev pub too_few : Bool
  too_few = ltb bytes (board_length (turn_count s) (turn_count s)) || ltb numbers (price_count s)

  either : PlacesFail s bytes numbers → (bytes < board_length (turn_count s) (turn_count s)) ⊎ (numbers < price_count s)
  either (few_bytes h) = inl h
  either (few_prices h) = inr h

  pub places_iff : (too_few ≡ true) ↔ PlacesFail s bytes numbers
  places_iff =
      let w = few_iff bytes (board_length (turn_count s) (turn_count s)) numbers (price_count s) in
      (λ e. ⊎_elim few_bytes few_prices (w.0 e), λ f. w.1 (either f))

  -- no cause is there just if the sheet is not refused, and there are lent bytes and lent numbers enough
  pub clear_iff : (first_of (refine_causes s bytes numbers) ≡ 0) ↔ ((first_of (sheet_causes s) ≡ 0) × (board_length (turn_count s) (turn_count s) ≤ bytes) × (price_count s ≤ numbers))
  unfolding refine_causes
  clear_iff = clear_both (sheet_causes s) bytes (board_length (turn_count s) (turn_count s)) numbers (price_count s) (sheet_numbered s)

module _ (s : List ℕ) (rounds : ℕ) (board prices : List ℕ) where
  pub refine_number : (refine_of s rounds board prices).refusal ≡ first_of (refine_causes s (length board) (length prices))
  unfolding refine_of refinement_of
  refine_number = number_first (refine_causes s (length board) (length prices)) _ _ (λ (x : Refinement). x.refusal) refl (λ k. refl)

  -- where none is there the answer is what the rounds come to
  pub refine_is : (refine_of s rounds board prices).refusal ≡ 0 → refine_of s rounds board prices ≡ refinement_of (sheet_turns s) (sheet_refined s rounds) board prices
  unfolding refine_of refinement_of
  refine_is = number_none (refine_causes s (length board) (length prices)) _ _ (λ (x : Refinement). x.refusal) refl (λ k. refl)

  -- a refusal leaves all that is lent as it was, and gives no figures
  pub refine_unchanged : ((refine_of s rounds board prices).refusal ≡ 0 → ⊥) → refine_of s rounds board prices ≡ not_refined (refine_of s rounds board prices).refusal board prices
  unfolding refine_of refinement_of
  refine_unchanged = number_refused (refine_causes s (length board) (length prices)) _ _ (λ (x : Refinement). x.refusal) refl (λ k. refl)

  -- the entry refuses with k exactly where the first cause has number k
  pub refine_refused_iff : (k : ℕ) → (k ≡ 0 → ⊥) → ((refine_of s rounds board prices).refusal ≡ k) ↔ FirstRefineCause s (length board) (length prices) k
  unfolding refine_of refinement_of refine_causes
  refine_refused_iff =
      number_iff (refine_causes s (length board) (length prices)) _ _ (λ (x : Refinement). x.refusal) refl (λ k. refl)
      (more_tell s buffer_too_small (PlacesFail s (length board) (length prices)) (too_few s (length board) (length prices)) (places_iff s (length board) (length prices)) refl)

  -- no cause is there: the sheet is not refused, and there are lent bytes and lent numbers enough
  pub refine_clear : (refine_of s rounds board prices).refusal ≡ 0 → (first_of (sheet_causes s) ≡ 0) × (board_length (turn_count s) (turn_count s) ≤ length board) × (price_count s ≤ length prices)
  refine_clear e = (clear_iff s (length board) (length prices)).0 (sym refine_number ∙ e)

-- the entry refuses nothing just if the sheet is accepted, the lent bytes hold a board with as many steps as turns, and the lent numbers a price for each slope and each turn
pub refine_accepted_iff : {s : List ℕ} → Bytes s → (rounds : ℕ) (board prices : List ℕ) →
    ((refine_of s rounds board prices).refusal ≡ 0) ↔ (Accepted s × (board_length (turn_count s) (turn_count s) ≤ length board) × (price_count s ≤ length prices))
refine_accepted_iff {s} b rounds board prices = (
  λ e. let (z, l, m) = refine_clear s rounds board prices e in ((accepted_iff b).0 z, l, m),
  λ (a, l, m). refine_number s rounds board prices ∙ (clear_iff s (length board) (length prices)).1 ((accepted_iff b).1 a, l, m),
)
