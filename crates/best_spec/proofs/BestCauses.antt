-- The entry's number: exactly the first cause in the order gives it, and 0 is given exactly where there is none. Assumes nothing.
use Prim.Native.Nat.{ℕ, ◌≤◌, ◌<◌}
use mathlib.Core.Path.{◌≡◌, refl, sym, ◌∙◌}
use mathlib.Core.List.{List}
use mathlib.Core.Logic.{◌↔◌}
use mathlib.Core.Bool.{Bool, true, false, not, ◌&&◌}
use native.Mathlib.Omega.{arith}
use lib.Dec.{eqb}
use lib.ListN.{length}
use borrow.Author.Tests.{eqb-true, eq-eqb, not-true, not-false}
use Rattle.lists.specs.Lists.{every}
use Rattle.lists.proofs.Bools.{not_both, every_not, fails}
use Rattle.refusal.specs.Number.{not_single_turns}
use Rattle.refusal.specs.Cause.{first_of}
use Rattle.refusal.proofs.Order.{numbered, numbered_append, clear_last}
use Rattle.wire.specs.Number.{Bytes}
use Rattle.model.specs.Turns.{NoDrivers, by_slope, Turns}
use Rattle.model.specs.Feasible.{OneTurnASlope}
use Rattle.sheet.specs.Read.{turn_count, sheet_causes}
use Rattle.sheet.specs.Accepted.{place_of, Accepted}
use Rattle.sheet.proofs.Readings.{sheet_numbered}
use Rattle.sheet.proofs.Accepting.{accepted_iff}
use Rattle.sheet.proofs.ReadCauses.{more_tell, more_within}
use Rattle.choice_map.specs.Choice.{map_bytes}
use Rattle.instance_spec.specs.Problem.{sheet_turns}
use Rattle.best_spec.specs.Single.{alone_below, single_turn, single_turns}
use Rattle.best_spec.specs.Best.{best_causes, found, best_refused, best_of, BestCause, two_turns, names_driver, FirstBestCause, single_causes, Earned, NotSingle}
use Rattle.best_spec.proofs.Singles.{single_driverless, single_slopes, single_of}
use Rattle.refusal.proofs.Words.{Tells, room_tells}
use Rattle.refusal.specs.Outcome.{beside}
use Rattle.refusal.proofs.Outcome.{number_first, number_iff, number_none, number_refused, enough_iff}

-- ---- a shift that is not single, in words

module _ (T : Turns) where
  -- a turn that is not single shows one of the two
  not_single : (x : ℕ) → x < T.count → single_turn T x ≡ false → NotSingle T
  unfolding single_turn alone_below by_slope
  not_single x h e = go (every (λ u. not (eqb (T.slope x) (T.slope u))) x) refl e
    where
      go : (b : Bool) → every (λ u. not (eqb (T.slope x) (T.slope u))) x ≡ b → (b && eqb (T.driver x) 0) ≡ false → NotSingle T
      go true a f = names_driver x h (λ d. not_both (eq-eqb (T.driver x) 0 d) f)
      go false a f =
          let (u, l, q) = every_not (λ u. not (eqb (T.slope x) (T.slope u))) x a in
          two_turns x u h (omega arith) (λ d. omega arith) (eqb-true (T.slope x) (T.slope u) (not-false (eqb (T.slope x) (T.slope u)) q))

  shows : single_turns T ≡ false → NotSingle T
  unfolding single_turns
  shows e = let (x, l, q) = every_not (single_turn T) T.count e in not_single x l q

  -- and either refutes the test
  refutes : NotSingle T → single_turns T ≡ true → ⊥
  refutes (two_turns x y hx hy d e) q = d (single_slopes T q x y hx hy e)
  refutes (names_driver t h d) q = d (single_driverless T q t h)

  not_single_iff : (not (single_turns T) ≡ true) ↔ NotSingle T
  not_single_iff = (λ e. shows (not-true (single_turns T) e), λ w. rw (fails (single_turns T) (refutes w)))

-- ---- the entry's number

module _ (s : List ℕ) where
  pub single_numbered : numbered (single_causes s) ≡ true
  unfolding single_causes
  single_numbered = numbered_append (sheet_causes s) _ (sheet_numbered s) refl

  -- the words tell what the list gives
  best_tells : (places : ℕ) → Tells (BestCause s places) (best_causes s places)
  unfolding best_causes single_causes
  best_tells places =
      let T = sheet_turns s in
      room_tells (place_of (turn_count s) 2) (more_within s not_single_turns (NotSingle T)) (single_causes s) single_numbered
      (more_tell s not_single_turns (NotSingle T) (not (single_turns T)) (not_single_iff T) refl) (map_bytes (turn_count s)) places

module _ (s lent : List ℕ) where
  pub best_number : (best_of s lent).answer.refusal ≡ first_of (best_causes s (length lent))
  unfolding best_of
  best_number = number_first (best_causes s (length lent)) _ _ (λ (o : Earned). o.answer.refusal) refl (λ k. refl)

  -- the entry refuses with k exactly where the first cause has number k
  pub best_refused_iff : (k : ℕ) → (k ≡ 0 → ⊥) → ((best_of s lent).answer.refusal ≡ k) ↔ FirstBestCause s (length lent) k
  unfolding best_of
  best_refused_iff = number_iff (best_causes s (length lent)) _ _ (λ (o : Earned). o.answer.refusal) refl (λ k. refl) (best_tells s (length lent))

  -- where it refuses nothing the answer is the best of the sheet's turns
  pub best_is_found : (best_of s lent).answer.refusal ≡ 0 → best_of s lent ≡ found (sheet_turns s) lent
  unfolding best_of
  best_is_found = number_none (best_causes s (length lent)) _ _ (λ (o : Earned). o.answer.refusal) refl (λ k. refl)

  -- a refusal leaves the lent bytes as they were, and gives no worth
  pub best_unchanged : ((best_of s lent).answer.refusal ≡ 0 → ⊥) → best_of s lent ≡ beside (best_refused (best_of s lent).answer.refusal) lent
  unfolding best_of
  best_unchanged = number_refused (best_causes s (length lent)) _ _ (λ (o : Earned). o.answer.refusal) refl (λ k. refl)

  -- no cause is there: the sheet is not refused, the shift is single, and the lent bytes hold a bit for each turn
  pub clear_iff : (first_of (best_causes s (length lent)) ≡ 0) ↔ ((first_of (sheet_causes s) ≡ 0) × (single_turns (sheet_turns s) ≡ true) × (map_bytes (turn_count s) ≤ length lent))
  unfolding best_causes single_causes
  clear_iff =
      let room = enough_iff (single_causes s) (length lent) (map_bytes (turn_count s)) (single_numbered s) in
      let last = clear_last (sheet_causes s) not_single_turns (not (single_turns (sheet_turns s))) (sheet_numbered s) (omega arith) in (
        λ e. let (a, l) = room.0 e in let (z, n) = last.0 a in (z, not-false (single_turns (sheet_turns s)) n, l),
        λ (z, q, l). room.1 (last.1 (z, rw q), l),
      )

  -- no cause is there: the sheet is not refused, has no drivers and one turn a slope, and the lent bytes hold a bit for each turn
  pub best_clear : (best_of s lent).answer.refusal ≡ 0 →
      (first_of (sheet_causes s) ≡ 0) × NoDrivers (sheet_turns s) × OneTurnASlope (sheet_turns s) × (map_bytes (turn_count s) ≤ length lent)
  best_clear e = let (z, q, l) = clear_iff.0 (sym best_number ∙ e) in (z, single_driverless (sheet_turns s) q, single_slopes (sheet_turns s) q, l)

-- the entry refuses nothing just if the sheet is accepted, has no drivers and one turn a slope, and the lent bytes hold a bit for each turn
pub best_accepted_iff : {s : List ℕ} → Bytes s → (lent : List ℕ) →
    ((best_of s lent).answer.refusal ≡ 0) ↔ (Accepted s × NoDrivers (sheet_turns s) × OneTurnASlope (sheet_turns s) × (map_bytes (turn_count s) ≤ length lent))
best_accepted_iff {s} b lent = (
  λ e. let (z, d, o, l) = best_clear s lent e in ((accepted_iff b).0 z, d, o, l),
  λ (a, d, o, l). best_number s lent ∙ (clear_iff s lent).1 ((accepted_iff b).1 a, single_of (sheet_turns s) d o, l),
)
