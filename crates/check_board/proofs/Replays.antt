-- Replaying by its cases: what the loops over the written steps keep as they go on. Assumes nothing.
use Prim.Native.Nat.{ℕ, ◌+◌, ◌-◌, ◌<◌, ◌≤◌}
use mathlib.Core.Path.{◌≡◌, refl, sym, ◌∙◌, ap}
use mathlib.Core.List.{List, [], ◌∷◌}
use mathlib.Core.Bool.{Bool, true, false, not}
use native.Mathlib.Omega.{arith}
use native.Mathlib.Nat.{zero-add}
use lib.IntN.{ℤ}
use lib.ListN.{length}
use Rattle.refusal.specs.Number.{wrong_step, turn_left_open}
use Rattle.std.specs.Prelude.{Result, Ok, Err, IfOk}
use Rattle.refusal.specs.declared.Refusal.{Refusal}
use Rattle.refusal.specs.Failure.{failure}
use Rattle.refusal.specs.Cause.{◌when◌, first_of}
use Rattle.refusal.proofs.Order.{clear_cons}
use borrow.Author.Tests.{not-false}
use Rattle.turn.specs.Turn.{most_worth}
use Rattle.model.specs.Turns.{Turns}
use Rattle.model.specs.Steps.{Step, initial, after_step, after_steps}
use Rattle.model.specs.Rules.{Right, right, all_right, none_open}
use Rattle.model.specs.Ceiling.{step_cost, ceiling}
use Rattle.model.proofs.Readings.{right_is}
use Rattle.board.specs.Board.{step_at, steps_in}
use Rattle.instance.specs.declared.columns.Size.{Size}
use Rattle.instance.specs.Columns.{turns_by}
use Rattle.instance.proofs.Rows.{count_is}
use Rattle.model.specs.Relabelling.{relabel, relabel_all}
use Rattle.model.proofs.Relabelling.{first_alike, none_open_same, all_right_same, after_all_same, costs_same}
use Rattle.instance.specs.Placing.{place_at, PutByEnd, PlacesOfAll}
use Rattle.instance.proofs.Placed.{put_relabelled, put_worths, list_places}
use Rattle.local_ratio.specs.Bounds.{Residuals, ClosedTo}
use Rattle.local_ratio.specs.Below.{closed_below}
use Rattle.local_ratio.specs.Counting.{costs_from}
use Rattle.local_ratio.proofs.Signed.{left_small}
use Rattle.local_ratio.proofs.Replaying.{steps_from, steps_from_start, steps_from_more, steps_from_none}
use Rattle.check_spec.specs.Check.{after_right, step_causes}
use Rattle.check_spec.proofs.Passing.{after_right_lem}
use Rattle.check_board.specs.Moves.{moves_in}

-- ---- one step

module _ (p : Size) (cols : List ℕ) (s : List ℤ) (j a : ℕ) {r : Bool} (e : r ≡ right (turns_by p cols) s (record { turn = j; amount = a })) where
  module _ (t : r ≡ true) where
    one_true : right (turns_by p cols) s (record { turn = j; amount = a }) ≡ true
    one_true = sym e ∙ t

    is_right : Right (turns_by p cols) s (record { turn = j; amount = a })
    is_right = (right_is (turns_by p cols) s (record { turn = j; amount = a })).0 one_true

    pub one_inside : j < p.count
    one_inside = omega (arith, is_right.inside, count_is p cols)

    pub one_amount : Residuals p.count s → a ≤ most_worth
    one_amount own = omega (arith, is_right.owed, left_small s j own.small)

pub ruleset one_cases = (one_inside, one_amount)

-- ---- the steps from i on, by place

unfoldable pub moves_from : List ℕ → ℕ → ℕ → List ℕ → List Step
moves_from places k i bytes = relabel_all (place_at places) (steps_from k i bytes)

module _ (places : List ℕ) (m i : ℕ) (bytes : List ℕ) where
  moves_none : m ≤ i → moves_from places (m - i) i bytes ≡ []
  unfolding moves_from relabel_all
  moves_none h = ap (relabel_all (place_at places)) (steps_from_none m i bytes h)

  module _ {j a : ℕ} (p : j ≡ place_at places (step_at bytes i).turn) (q : a ≡ (step_at bytes i).amount) where
    move_is : ◌≡◌ {A = Step} (record { turn = j; amount = a }) (relabel (place_at places) (step_at bytes i))
    move_is = λ k. record { turn = p k; amount = q k }

    moves_more : i < m → moves_from places (m - i) i bytes ≡ record { turn = j; amount = a } ∷ moves_from places (m - (i + 1)) (i + 1) bytes
    unfolding moves_from relabel_all
    moves_more h = ap (relabel_all (place_at places)) (steps_from_more m i bytes h) ∙ ap (λ (x : Step). x ∷ relabel_all (place_at places) (steps_from (m - (i + 1)) (i + 1) bytes)) (sym move_is)

moves_start : (places : List ℕ) (m : ℕ) (bytes : List ℕ) → moves_from places (m - 0) 0 bytes ≡ moves_in places m bytes
unfolding moves_from moves_in
moves_start places m bytes = ap (relabel_all (place_at places)) (steps_from_start m bytes)

-- ---- the loop

module _ (T : Turns) (s : List ℤ) (places bytes : List ℕ) (m i : ℕ) where
  module _ {j a : ℕ} (u : j ≡ place_at places (step_at bytes i).turn) (v : a ≡ (step_at bytes i).amount) where
    abbrev x : Step
    x = record { turn = j; amount = a }

    pub replay_more_right : {z : Bool} {s' : List ℤ} → right T s x ≡ true → s' ≡ after_step T s x → i < m
        → all_right T s (moves_from places (m - i) i bytes) ≡ z → all_right T s' (moves_from places (m - (i + 1)) (i + 1) bytes) ≡ z
    unfolding all_right
    replay_more_right t p h q = rw p (rw (moves_more places m i bytes u v h, t) at q)

    pub replay_more_after : {z s' : List ℤ} → s' ≡ after_step T s x → i < m
        → after_steps T s (moves_from places (m - i) i bytes) ≡ z → after_steps T s' (moves_from places (m - (i + 1)) (i + 1) bytes) ≡ z
    unfolding after_steps
    replay_more_after p h q = rw p (rw (moves_more places m i bytes u v h) at q)

    pub replay_more_costs : (sum : ℕ) {c z : ℕ} {s' : List ℤ} → s' ≡ after_step T s x → c ≡ step_cost T s x → i < m
        → sum + costs_from T s (moves_from places (m - i) i bytes) ≡ z → sum + c + costs_from T s' (moves_from places (m - (i + 1)) (i + 1) bytes) ≡ z
    unfolding costs_from
    replay_more_costs sum p e h q = rw (p, e) (omega (arith, rw (moves_more places m i bytes u v h) at q))

    pub replay_stop : {z : Bool} → right T s x ≡ false → i < m → all_right T s (moves_from places (m - i) i bytes) ≡ z → z ≡ false
    unfolding all_right
    replay_stop f h q = sym (rw (moves_more places m i bytes u v h, f) at q)

  module _ (h : m ≤ i) where
    pub replay_done_right : {z : Bool} → all_right T s (moves_from places (m - i) i bytes) ≡ z → z ≡ true
    unfolding all_right
    replay_done_right q = sym (rw (moves_none places m i bytes h) at q)

    pub replay_done_after : {z : List ℤ} → after_steps T s (moves_from places (m - i) i bytes) ≡ z → s ≡ z
    unfolding after_steps
    replay_done_after q = rw (moves_none places m i bytes h) at q

    pub replay_done_costs : {sum z : ℕ} → sum + costs_from T s (moves_from places (m - i) i bytes) ≡ z → sum ≡ z
    unfolding costs_from
    replay_done_costs q = omega (arith, rw (moves_none places m i bytes h) at q)

module _ (T : Turns) (s : List ℤ) (places bytes : List ℕ) (m : ℕ) where
  pub replay_start_right : all_right T s (moves_from places (m - 0) 0 bytes) ≡ all_right T s (moves_in places m bytes)
  replay_start_right = ap (all_right T s) (moves_start places m bytes)

  pub replay_start_after : after_steps T s (moves_from places (m - 0) 0 bytes) ≡ after_steps T s (moves_in places m bytes)
  replay_start_after = ap (after_steps T s) (moves_start places m bytes)

  pub replay_start_costs : 0 + costs_from T s (moves_from places (m - 0) 0 bytes) ≡ costs_from T s (moves_in places m bytes)
  replay_start_costs = zero-add (costs_from T s (moves_from places (m - 0) 0 bytes)) ∙ ap (costs_from T s) (moves_start places m bytes)

  pub replay_start_closed : ClosedTo 0 s
  replay_start_closed = record { within = omega arith; closed = λ t h. absurd (omega arith) }

pub ruleset replay_cases = (replay_start_right, replay_start_after, replay_start_costs, replay_start_closed, replay_more_right, replay_more_after, replay_more_costs, replay_stop, replay_done_right, replay_done_after, replay_done_costs)

-- ---- the faults of steps

none_is : (p : Size) (cols : List ℕ) (s : List ℤ) → none_open (turns_by p cols) s ≡ closed_below s p.count
unfolding none_open closed_below turns_by
none_is p cols s = refl

module _ (p : Size) (cols : List ℕ) (xs : List Step) {s : List ℤ} (i : s ≡ initial (turns_by p cols)) where
  pub fault_step : all_right (turns_by p cols) s xs ≡ false → wrong_step ≡ first_of (step_causes (turns_by p cols) xs)
  unfolding step_causes first_of
  fault_step f = rw (rw i at f)

  module _ {s' : List ℤ} {o : Bool} (t : all_right (turns_by p cols) s xs ≡ true) (a : s' ≡ after_steps (turns_by p cols) s xs) (l : length s' ≡ p.count) (g : o ≡ closed_below s' (length s')) where
    shown : all_right (turns_by p cols) (initial (turns_by p cols)) xs ≡ true
    shown = rw i at t

    closed : none_open (turns_by p cols) (after_right (turns_by p cols) (initial (turns_by p cols)) xs) ≡ o
    closed = rw (after_right_lem (turns_by p cols) (initial (turns_by p cols)) xs shown, ← i, ← a) (none_is p cols s' ∙ sym (rw l at g))

    pub fault_open : o ≡ false → turn_left_open ≡ first_of (step_causes (turns_by p cols) xs)
    unfolding step_causes first_of
    fault_open f = rw (shown, closed, f)

    pub fault_none : o ≡ true → 0 ≡ first_of (step_causes (turns_by p cols) xs)
    unfolding step_causes first_of
    fault_none f = rw (shown, closed, f)

pub ruleset fault_cases = (fault_step, fault_open, fault_none)

-- ---- by number

-- what steps by place come to is what they come to by number
module _ {p : Size} {cols order own places : List ℕ} (h : PutByEnd p cols order own) (o : PlacesOfAll order places) (bytes : List ℕ) (m : ℕ) where
  abbrev T : Turns
  T = turns_by p cols

  abbrev U : Turns
  U = turns_by p own

  abbrev xs : List Step
  xs = steps_in m bytes

  right_same : all_right U (initial U) (moves_in places m bytes) ≡ all_right T (initial T) xs
  unfolding moves_in
  right_same = all_right_same (list_places h o) (put_relabelled h) xs (first_alike (list_places h o) (put_worths h))

  closed_same : all_right T (initial T) xs ≡ true → none_open U (after_right U (initial U) (moves_in places m bytes)) ≡ none_open T (after_right T (initial T) xs)
  unfolding moves_in
  closed_same e =
      rw (after_right_lem U (initial U) (moves_in places m bytes) (right_same ∙ e), after_right_lem T (initial T) xs e)
      (none_open_same (list_places h o) (put_relabelled h)
      (after_all_same (list_places h o) (put_relabelled h) xs (first_alike (list_places h o) (put_worths h)) e))

  ceiling_same : all_right T (initial T) xs ≡ true → ceiling U (moves_in places m bytes) ≡ ceiling T xs
  unfolding moves_in ceiling
  ceiling_same e = costs_same (list_places h o) (put_relabelled h) xs (first_alike (list_places h o) (put_worths h)) e

  by_number : first_of (step_causes U (moves_in places m bytes)) ≡ first_of (step_causes T xs)
  unfolding step_causes first_of
  by_number = rw right_same (go (all_right T (initial T) xs) refl)
    where
      go : (b : Bool) → all_right T (initial T) xs ≡ b
          → first_of (wrong_step when not b ∷ turn_left_open when not (none_open U (after_right U (initial U) (moves_in places m bytes))) ∷ [])
          ≡ first_of (wrong_step when not b ∷ turn_left_open when not (none_open T (after_right T (initial T) xs)) ∷ [])
      go true e = rw (closed_same e)
      go false e = refl

  none_right : 0 ≡ first_of (step_causes T xs) → all_right T (initial T) xs ≡ true
  unfolding step_causes
  none_right e = not-false (all_right T (initial T) xs) (clear_cons (wrong_step when not (all_right T (initial T) xs)) _ (λ z. omega arith) (sym e)).0

  pub first_by_number : {f : ℕ} → f ≡ first_of (step_causes U (moves_in places m bytes)) → f ≡ first_of (step_causes T xs)
  first_by_number e = e ∙ by_number

  pub counted_by_number : (r : Result ℕ Refusal) → failure r ≡ first_of (step_causes U (moves_in places m bytes)) → IfOk r (λ c. c ≡ ceiling U (moves_in places m bytes)) → IfOk r (λ c. c ≡ ceiling T xs)
  counted_by_number (Ok c) e h = h ∙ ceiling_same (none_right (e ∙ by_number))
  counted_by_number (Err k) e h = record {}
