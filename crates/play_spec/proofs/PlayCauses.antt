-- Playing gives exactly the number of the first cause in its order, and refuses nothing exactly where none is there. Assumes nothing.
use Prim.Native.Nat.{ℕ, ◌+◌, ◌≤◌, ◌<◌}
use mathlib.Core.Path.{◌≡◌, refl, sym, ◌∙◌, ap}
use mathlib.Core.Logic.{◌↔◌}
use mathlib.Core.Bool.{Bool, true, false, not, cond}
use mathlib.Core.List.{List, [], ◌∷◌, ◌++◌}
use native.Mathlib.Omega.{arith}
use native.Mathlib.Decide.{ℕ_discrete, dec_lt}
use lib.Dec.{eqb, ltb}
use lib.ListN.{length, drop}
use borrow.Author.Tests.{eqb-true, ltb-false, not-false, eq-eqb, lt-ltb, le-ltb, not-true}
use Rattle.lists.proofs.Bools.{fails, and_1, and_2, and_of, every_not}
use Rattle.refusal.specs.Number.{buffer_too_small, bad_delays}
use Rattle.refusal.specs.Cause.{◌when◌, first_of}
use Rattle.refusal.proofs.Order.{clear_append, clear_cons}
use Rattle.wire.specs.Number.{Bytes}
use Rattle.sheet.specs.Read.{counts_in, turn_count}
use Rattle.sheet.specs.Accepted.{Accepted, place_of}
use Rattle.check_spec.specs.Check.{check_causes, Passes, BoardKeeps}
use Rattle.check_spec.proofs.Passing.{check_number, check_numbered, passes_iff}
use Rattle.check_spec.proofs.CheckCauses.{check_within, check_tells}
use Rattle.play_spec.specs.declared.Standing.{Standing}
use Rattle.play_spec.specs.Day.{most_delay, delay_in, delays_fit}
use Rattle.play_spec.proofs.Delays.{fit_delays, fit_of}
use Rattle.play_spec.specs.Play.{DelaysServe, PlayCause, FirstPlayCause, serves_for, lent_causes, play_causes, standings_of, play_refused, play_of, DelaysFail, other_count, long_delay, LentPlayCause}
use Rattle.play_spec.proofs.LentCauses.{check_passed, by_none}
use Rattle.refusal.specs.Outcome.{Outcome, beside, unless}
use Rattle.refusal.proofs.Words.{Tells, only_tells, only_within, then_tells, room_tells}
use Rattle.refusal.proofs.Outcome.{number_first, number_iff, number_refused, enough_iff}
use Rattle.play_spec.specs.declared.PlayAnswer.{PlayAnswer}

pub play_number : (s b delays : List ℕ) (lent : List Standing) → (play_of s b delays lent).answer.refusal ≡ first_of (play_causes s b delays (length lent))
unfolding play_of
play_number s b delays lent = number_first (play_causes s b delays (length lent)) _ _ (λ (o : Outcome PlayAnswer (List Standing)). o.answer.refusal) refl (λ k. refl)

module _ (s b delays : List ℕ) where
  -- ---- the test of the delays is the words

  serves_iff : (serves_for (turn_count s) delays ≡ true) ↔ DelaysServe s delays
  unfolding serves_for
  serves_iff = (
    λ t.
        let n : length delays ≡ turn_count s = eqb-true (length delays) (turn_count s) (and_1 (eqb (length delays) (turn_count s)) (delays_fit delays (length delays)) t) in
        let d = fit_delays delays (length delays) refl (and_2 (eqb (length delays) (turn_count s)) (delays_fit delays (length delays)) t) in
        record { each = n; within = λ u l. d.1 u (omega (arith, l, n)) },
    λ w.
        and_of (eqb (length delays) (turn_count s)) (delays_fit delays (length delays)) (eq-eqb (length delays) (turn_count s) w.each)
        (fit_of delays (length delays) (λ u k. w.within u (omega (arith, k, w.each)))),
  )

  not_served : serves_for (turn_count s) delays ≡ false → DelaysFail s delays
  unfolding serves_for delays_fit
  not_served e = go (ℕ_discrete (length delays) (turn_count s))
    where
      go : Dec (length delays ≡ turn_count s) → DelaysFail s delays
      go (no n) = other_count n
      go (yes n) =
          let f : delays_fit delays (length delays) ≡ false = rw (eq-eqb (length delays) (turn_count s) n) at e in
          let (u, l, q) = every_not (λ u. ltb (delay_in delays u) (1 + most_delay)) (length delays) f in
          long_delay u l (omega (arith, ltb-false (delay_in delays u) (1 + most_delay) q))

  fail : DelaysFail s delays → serves_for (turn_count s) delays ≡ true → ⊥
  fail (other_count n) t = n (serves_iff.0 t).each
  fail (long_delay u l m) t = let w = serves_iff.0 t in omega (arith, w.within u (omega (arith, w.each)), m)

  fails_iff : (not (serves_for (turn_count s) delays) ≡ true) ↔ DelaysFail s delays
  fails_iff = (λ e. not_served (not-true (serves_for (turn_count s) delays) e), λ w. rw (fails (serves_for (turn_count s) delays) (fail w)))

  -- the words tell what the lists give
  lent_tells : (places : ℕ) → Tells (LentPlayCause s delays places) (lent_causes (counts_in s).groomers (turn_count s) delays places)
  unfolding lent_causes
  lent_tells places =
      room_tells 1 (only_within bad_delays (DelaysFail s delays)) (bad_delays when not (serves_for (turn_count s) delays) ∷ []) refl
      (only_tells bad_delays (DelaysFail s delays) (not (serves_for (turn_count s) delays)) fails_iff refl) (counts_in s).groomers places

  play_tells : (places : ℕ) → Tells (PlayCause s b delays places) (play_causes s b delays places)
  unfolding play_causes
  play_tells places = then_tells (place_of (turn_count s) 7) (check_within s b) (check_causes s b) _ (check_numbered s b) (check_tells s b) (λ e. lent_tells places)

module _ (s b delays : List ℕ) (lent : List Standing) where
  -- a number is given exactly where the first cause has it
  pub play_refused_iff : (k : ℕ) → (k ≡ 0 → ⊥) → ((play_of s b delays lent).answer.refusal ≡ k) ↔ FirstPlayCause s b delays (length lent) k
  unfolding play_of
  play_refused_iff = number_iff (play_causes s b delays (length lent)) _ _ (λ (o : Outcome PlayAnswer (List Standing)). o.answer.refusal) refl (λ k. refl) (play_tells s b delays (length lent))

  -- what holds where nothing is refused, for every list of numbers
  pub play_clear : (play_of s b delays lent).answer.refusal ≡ 0 → Passes s b × DelaysServe s delays × ((counts_in s).groomers ≤ length lent)
  unfolding play_causes lent_causes
  play_clear z =
      let r = clear_append (check_causes s b) _ (check_numbered s b) (sym (play_number s b delays lent) ∙ z) in
      let (x, l) = (enough_iff (bad_delays when not (serves_for (turn_count s) delays) ∷ []) (length lent) (counts_in s).groomers refl).0 r.1 in
      let y = clear_cons (bad_delays when not (serves_for (turn_count s) delays)) [] (λ n. omega (arith, n)) x in
      (check_number s b ∙ r.0, (serves_iff s b delays).0 (not-false (serves_for (turn_count s) delays) y.0), l)

  -- of bytes, nothing is refused exactly where the sheet is accepted, the board keeps the rules, the delays serve, and there is a place for each groomer
  pub play_accepted_iff : Bytes s → ((play_of s b delays lent).answer.refusal ≡ 0) ↔ (Accepted s × BoardKeeps s b × DelaysServe s delays × ((counts_in s).groomers ≤ length lent))
  play_accepted_iff y = (
    λ z. let c = play_clear z in let q = (passes_iff s b y).0 c.0 in (q.0, q.1, c.1, c.2),
    λ (a, k, d, l).
        play_number s b delays lent ∙ check_passed s b delays (length lent) (sym (check_number s b) ∙ (passes_iff s b y).1 (a, k))
        ∙ by_none (counts_in s).groomers (turn_count s) delays (length lent) ((serves_iff s b delays).1 d) l,
  )

  -- a refusal leaves the list as it was, and counts no groomers
  pub play_unchanged : ((play_of s b delays lent).answer.refusal ≡ 0 → ⊥) → play_of s b delays lent ≡ beside (play_refused (play_of s b delays lent).answer.refusal) lent
  unfolding play_of
  play_unchanged = number_refused (play_causes s b delays (length lent)) _ _ (λ (o : Outcome PlayAnswer (List Standing)). o.answer.refusal) refl (λ k. refl)

-- ---- what the list held before

module _ (s b delays : List ℕ) (lent other : List Standing) (room : ((counts_in s).groomers ≤ length lent) ↔ ((counts_in s).groomers ≤ length other)) where
  -- both lists have a place for each groomer, or neither has
  room_same : ltb (length lent) (counts_in s).groomers ≡ ltb (length other) (counts_in s).groomers
  room_same = go (dec_lt (length lent) (counts_in s).groomers) (dec_lt (length other) (counts_in s).groomers)
    where
      go : Dec (length lent < (counts_in s).groomers) → Dec (length other < (counts_in s).groomers) → ltb (length lent) (counts_in s).groomers ≡ ltb (length other) (counts_in s).groomers
      go (yes l) (yes m) = lt-ltb (length lent) (counts_in s).groomers l ∙ sym (lt-ltb (length other) (counts_in s).groomers m)
      go (yes l) (no m) = absurd (omega (arith, l, room.1 (omega arith)))
      go (no l) (yes m) = absurd (omega (arith, m, room.0 (omega arith)))
      go (no l) (no m) = let a : (counts_in s).groomers ≤ length lent = omega arith in let c : (counts_in s).groomers ≤ length other = omega arith in le-ltb (length lent) (counts_in s).groomers a ∙ sym (le-ltb (length other) (counts_in s).groomers c)

  causes_same : first_of (play_causes s b delays (length lent)) ≡ first_of (play_causes s b delays (length other))
  unfolding play_causes lent_causes
  causes_same = ap (λ (c : Bool). first_of (check_causes s b ++ bad_delays when not (serves_for (turn_count s) delays) ∷ buffer_too_small when c ∷ [])) room_same

  -- so that both give one answer
  pub answer_same : (play_of s b delays lent).answer ≡ (play_of s b delays other).answer
  unfolding play_of unless
  answer_same = rw causes_same (go (first_of (play_causes s b delays (length other))) (eqb (first_of (play_causes s b delays (length other))) 0))
    where
      found : List Standing → Outcome PlayAnswer (List Standing)
      found l = beside (record { refusal = 0; groomers = (counts_in s).groomers }) (standings_of s b delays ++ drop (counts_in s).groomers l)

      go : (f : ℕ) (c : Bool) → (cond c (found lent) (beside (play_refused f) lent)).answer ≡ (cond c (found other) (beside (play_refused f) other)).answer
      go f true = refl
      go f false = refl
