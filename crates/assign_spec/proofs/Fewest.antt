-- How many groomers are used: as many as turns hold one minute together where most do, and no assignment uses fewer. Assumes nothing.
use mathlib.Core.Path.{◌≡◌, refl, sym, ◌∙◌}
use mathlib.Core.Logic.{◌↔◌}
use mathlib.Core.Bool.{true}
use mathlib.Core.List.{List, [], ◌∷◌}
use Prim.Native.Nat.{ℕ, ◌+◌, ◌≤◌, ◌<◌}
use native.Mathlib.Omega.{arith}
use native.Mathlib.Decide.{dec_lt, ℕ_discrete}
use lib.Dec.{leb, ltb}
use lib.ListN.{length}
use borrow.Author.Tests.{leb-true, le-leb, ltb-true, lt-ltb}
use Rattle.lists.proofs.Bools.{and_1, and_2, and_of, not_apart}
use Rattle.model.specs.Turns.{Turns, PositiveLengths, Holds}
use Rattle.assign_spec.specs.Numbering.{number_in, numbers_of, greatest, used_of, Assignment, different, holds_minute, held_together}
use Rattle.assign_spec.proofs.Smallest.{greatest_above, greatest_there}
use Rattle.assign_spec.proofs.Counting.{different_least, different_most, all_had}
use Rattle.assign_spec.proofs.Numbers.{numbers_places, numbers_from_one, numbers_greedy, numbers_assignment}

module _ (T : Turns) where
  -- the test is the words
  pub holds_minute_iff : (minute t : ℕ) → (holds_minute T minute t ≡ true) ↔ Holds T t minute
  unfolding holds_minute
  holds_minute_iff minute t = (
    λ e. record {
      begun = leb-true (T.start t) minute (and_1 (leb (T.start t) minute) (ltb minute (T.end t + T.gap)) e);
      not_over = ltb-true minute (T.end t + T.gap) (and_2 (leb (T.start t) minute) (ltb minute (T.end t + T.gap)) e);
    },
    λ h. and_of (leb (T.start t) minute) (ltb minute (T.end t + T.gap)) (le-leb (T.start t) minute h.begun) (lt-ltb minute (T.end t + T.gap) h.not_over),
  )

  -- ---- any assignment

  -- the turns that hold one minute have different numbers
  pub together_different : (f : ℕ → ℕ) → Assignment T f → (minute : ℕ) → held_together T minute ≤ different f T.count
  unfolding held_together
  together_different f a minute =
      different_least f (holds_minute T minute) T.count
      (λ u v l m p q e. not_apart u v (λ d. a u v minute l m d e ((holds_minute_iff minute u).0 p) ((holds_minute_iff minute v).0 q)))

  -- ---- the numbers that are given

  abbrev number : ℕ → ℕ
  number = number_in (numbers_of T)

  number_to : (t : ℕ) → number t ≤ used_of T
  unfolding used_of
  number_to t = greatest_above (numbers_of T) t

  pub different_used : different number T.count ≤ used_of T
  different_used = different_most number T.count (used_of T) (λ t l. (numbers_from_one T t l, number_to t))

  -- no minute is held by more turns
  pub together_most : (minute : ℕ) → held_together T minute ≤ used_of T
  together_most minute = omega (arith, together_different number (numbers_assignment T) minute, different_used)

  -- no turns use none
  pub used_none : T.count ≡ 0 → used_of T ≡ 0
  unfolding used_of greatest
  used_none e = none (numbers_of T) (numbers_places T ∙ e)
    where
      none : (xs : List ℕ) → length xs ≡ 0 → greatest xs ≡ 0
      none [] q = refl
      none (x ∷ xs) q = absurd (omega arith)

  module _ (lengths : PositiveLengths T) (some : 0 < T.count) where
    -- a turn with the greatest number, and the minute of its start
    last : (t : ℕ) × (t < T.count) × (number t ≡ used_of T)
    unfolding used_of
    last = let (t, l, e) = greatest_there (numbers_of T) (omega (arith, numbers_places T)) in (t, omega (arith, numbers_places T), e)

    abbrev minute : ℕ
    minute = T.start last.0

    -- each number is had by a turn that holds it
    had : (k : ℕ) → k < used_of T → (u : ℕ) × (u < T.count) × (holds_minute T minute u ≡ true) × (number u ≡ k + 1)
    had k l = go (ℕ_discrete (k + 1) (used_of T))
      where
        go : Dec (k + 1 ≡ used_of T) → (u : ℕ) × (u < T.count) × (holds_minute T minute u ≡ true) × (number u ≡ k + 1)
        go (yes e) =
            (last.0, last.1, (holds_minute_iff minute last.0).1 (record { begun = omega arith; not_over = omega (arith, lengths last.0 last.1) }), last.2 ∙ sym e)
        go (no e) =
            let taken = (numbers_greedy T lengths).smallest last.0 (k + 1) last.1 (omega arith) (omega (arith, last.2)) in
            (taken.turn, taken.inside, (holds_minute_iff minute taken.turn).1 (record { begun = taken.before.values; not_over = omega (arith, taken.its_minute.not_over, taken.own_minute.begun) }), taken.has_it)

    used_held : used_of T ≤ held_together T minute
    unfolding held_together
    used_held = all_had number (holds_minute T minute) T.count (used_of T) had

    -- some minute is held by as many turns as groomers are used
    pub together_reached : (minute : ℕ) × (held_together T minute ≡ used_of T)
    together_reached = (minute, omega (arith, used_held, together_most minute))

  module _ (lengths : PositiveLengths T) where
    -- no assignment uses fewer different numbers
    pub fewest : (f : ℕ → ℕ) → Assignment T f → used_of T ≤ different f T.count
    fewest f a = go (dec_lt 0 T.count)
      where
        go : Dec (0 < T.count) → used_of T ≤ different f T.count
        go (yes l) = omega (arith, used_held lengths l, together_different f a (minute lengths l))
        go (no l) = omega (arith, used_none (omega arith))

    -- with turns or without
    pub some_reached : (minute : ℕ) × (held_together T minute ≡ used_of T)
    some_reached = elim (dec_lt 0 T.count) [ yes l ↦ together_reached lengths l | no l ↦ (0, omega (arith, used_none (omega arith), together_most 0)) ]

    -- what comes back is how many different numbers are given
    pub used_different : different number T.count ≡ used_of T
    used_different = omega (arith, different_used, fewest number (numbers_assignment T))
