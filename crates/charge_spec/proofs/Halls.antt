-- The hall's plan keeps its promises (5.2.5, both kinds of instances, factor 5). The source says it of the optimum in fractions; here of every allowed set, with the rounding in the added term. Assumes nothing.
use mathlib.Core.Path.{◌≡◌, refl, ap, ◌∙◌}
use mathlib.Core.Logic.{◌⊎◌, inl, inr}
use mathlib.Core.Bool.{Bool, true, false, not, cond}
use mathlib.Core.List.{List, [], ◌∷◌}
use Prim.Native.Nat.{ℕ, ◌+◌, ◌*◌, ◌≤◌, ◌<◌}
use native.Mathlib.Omega.{arith}
use native.Mathlib.Decide.{dec_lt}
use lib.ListN.{length}
use borrow.Author.Tests.{le-ltb, lt-ltb}
use Rattle.model.proofs.Members.{keep_once}
use Rattle.lists.proofs.Keeping.{keep_every, keep_holds, keep_where, keep_most}
use Rattle.lists.specs.Lists.{sum_over, All, keep}
use Rattle.model.specs.Steps.{tally}
use Rattle.model.specs.Choice.{has}
use Rattle.lists.proofs.Sums.{sum_add, sum_mono, all_map}
use Rattle.charge_spec.specs.Hall.{Hall, window_count, draw_at, is_wide, is_small, Allowed, AllowedChoice, FullAmong, HallInRange}
use Rattle.charge_spec.specs.Plan.{turns_among, wide_steps, small_steps, choose_among, wide_choice, small_choice, worth_in, greater_of, hall_choice, hall_worth, ChosenAmong}
use Rattle.charge_spec.proofs.Through.{among_is}
use Rattle.charge_spec.specs.Promises.{worth_of_windows, HallPromises}
use Rattle.charge_spec.proofs.Windows.{among_worth}
use Rattle.charge_spec.proofs.Allowing.{chosen_allowed, chosen_kind, chosen_length, full_among}
use Rattle.charge_spec.proofs.Small.{small_part, small_earns}
use Rattle.charge_spec.proofs.Wide.{wide_twice, wide_earns}

-- ---- those of a set that are of a kind

module _ (kind : ℕ → Bool) where
  -- a part of an allowed set is allowed
  kept_allowed : (H : Hall) (R : List ℕ) → Allowed H R → Allowed H (keep kind R)
  kept_allowed H R r =
      record {
        numbers = keep_every kind r.numbers;
        once = keep_once kind r.once;
        vehicles = keep_every kind (all_map (λ t h. keep_every kind h) r.vehicles);
        supply = λ minute. omega (arith, keep_most kind (draw_at H minute) R, r.supply minute);
      }

module _ (H : Hall) where
  -- the worth of a set is that of its wide windows and that of its small ones
  two_kinds : (R : List ℕ) → worth_of_windows H R ≡ sum_over H.windows.worth (keep (is_wide H) R) + sum_over H.windows.worth (keep (is_small H) R)
  unfolding is_small
  two_kinds R =
      omega (
        arith,
        keep_where (is_wide H) H.windows.worth R,
        keep_where (is_small H) H.windows.worth R,
        sum_add (λ t. cond (is_wide H t) (H.windows.worth t) 0) (λ t. cond (not (is_wide H t)) (H.windows.worth t) 0) R,
        sum_same_all R,
      )
    where
      one : (b : Bool) (k : ℕ) → k ≡ cond b k 0 + cond (not b) k 0
      one true k = omega arith
      one false k = omega arith

      sum_same_all : (R : List ℕ) → sum_over H.windows.worth R ≡ sum_over (λ t. cond (is_wide H t) (H.windows.worth t) 0 + cond (not (is_wide H t)) (H.windows.worth t) 0) R
      sum_same_all [] = refl
      sum_same_all (t ∷ R) = omega (arith, one (is_wide H t) (H.windows.worth t), sum_same_all R)

  -- ---- the plan of greater worth

  -- the second of two choices, where the first is worth no more, else the first
  pub greater_second : (S U : List Bool) → worth_in H S ≤ worth_in H U → greater_of H S U ≡ U
  unfolding greater_of
  greater_second S U l = rw (le-ltb (worth_in H U) (worth_in H S) l)

  pub greater_first : (S U : List Bool) → worth_in H U < worth_in H S → greater_of H S U ≡ S
  unfolding greater_of
  greater_first S U l = rw (lt-ltb (worth_in H U) (worth_in H S) l)

  greater_cases : (P : List Bool → Type 0) (S U : List Bool) → (worth_in H U < worth_in H S → P S) → (worth_in H S ≤ worth_in H U → P U) → P (greater_of H S U)
  greater_cases P S U p q = go (dec_lt (worth_in H U) (worth_in H S))
    where
      go : Dec (worth_in H U < worth_in H S) → P (greater_of H S U)
      go (yes l) = rw (greater_first S U l) (p l)
      go (no l) = let m : worth_in H S ≤ worth_in H U = omega arith in rw (greater_second S U m) (q m)

  greater_most : (S U : List Bool) → (worth_in H S ≤ worth_in H (greater_of H S U)) × (worth_in H U ≤ worth_in H (greater_of H S U))
  greater_most S U = greater_cases (λ W. (worth_in H S ≤ worth_in H W) × (worth_in H U ≤ worth_in H W)) S U (λ l. (omega arith, omega arith)) (λ l. (omega arith, omega arith))

  pub plan_allowed : AllowedChoice H (hall_choice H)
  unfolding hall_choice wide_choice small_choice choose_among
  plan_allowed = greater_cases (AllowedChoice H) (wide_choice H) (small_choice H) (λ l. chosen_allowed H (is_wide H) _ (wide_steps H)) (λ l. chosen_allowed H (is_small H) _ (small_steps H))

  pub plan_kind : ((t : ℕ) → has (hall_choice H) t ≡ true → is_wide H t ≡ true) ⊎ ((t : ℕ) → has (hall_choice H) t ≡ true → is_small H t ≡ true)
  unfolding hall_choice wide_choice small_choice choose_among
  plan_kind =
      greater_cases (λ S. ((t : ℕ) → has S t ≡ true → is_wide H t ≡ true) ⊎ ((t : ℕ) → has S t ≡ true → is_small H t ≡ true)) (wide_choice H) (small_choice H)
      (λ l. inl (chosen_kind H (is_wide H) _ (wide_steps H))) (λ l. inr (chosen_kind H (is_small H) _ (small_steps H)))

  pub plan_length : length (hall_choice H) ≡ window_count H
  unfolding hall_choice wide_choice small_choice choose_among
  plan_length = greater_cases (λ S. length S ≡ window_count H) (wide_choice H) (small_choice H) (λ l. chosen_length H (is_wide H) _ (wide_steps H)) (λ l. chosen_length H (is_small H) _ (small_steps H))

  wide_filled : FullAmong H (is_wide H) (wide_choice H)
  unfolding wide_choice choose_among
  wide_filled = full_among H (is_wide H) (wide_steps H)

  small_filled : FullAmong H (is_small H) (small_choice H)
  unfolding small_choice choose_among
  small_filled = full_among H (is_small H) (small_steps H)

  wide_among : ChosenAmong H (is_wide H) (wide_steps H) (wide_choice H)
  unfolding wide_choice
  wide_among = among_is H (is_wide H) (wide_steps H)

  small_among : ChosenAmong H (is_small H) (small_steps H) (small_choice H)
  unfolding small_choice
  small_among = among_is H (is_small H) (small_steps H)

  -- ---- the promises

  module _ (good : HallInRange H) where
    small_thrice : (R : List ℕ) → Allowed H R → All (λ t. is_small H t ≡ true) R → worth_of_windows H R ≤ 3 * tally (small_steps H) + H.units * length (small_steps H)
    small_thrice R r k = omega (arith, sum_mono H.windows.worth (turns_among H (is_small H)).worth (all_map own k), small_part H good R r)
      where
        own : (t : ℕ) → is_small H t ≡ true → H.windows.worth t ≤ (turns_among H (is_small H)).worth t
        own t e = omega (arith, among_worth H (is_small H) t ∙ ap (λ (b : Bool). cond b (H.windows.worth t) 0) e)

    -- twice for the wide part and three times for the small one: five times, whichever plan it is
    five_times : (R : List ℕ) → Allowed H R → worth_of_windows H R ≤ 5 * hall_worth H + H.units * length (small_steps H)
    unfolding hall_worth hall_choice
    five_times R r =
        omega (
          arith,
          two_kinds R,
          wide_twice H good (keep (is_wide H) R) (kept_allowed (is_wide H) H R r) (keep_holds (is_wide H) R),
          wide_earns H good,
          small_thrice (keep (is_small H) R) (kept_allowed (is_small H) H R r) (keep_holds (is_small H) R),
          small_earns H good,
          greater_most (wide_choice H) (small_choice H),
        )

    covered : (worth_in H (wide_choice H) ≤ hall_worth H) × (worth_in H (small_choice H) ≤ hall_worth H)
    unfolding hall_worth hall_choice
    covered = greater_most (wide_choice H) (small_choice H)

    tied : worth_in H (wide_choice H) ≡ worth_in H (small_choice H) → hall_choice H ≡ small_choice H
    unfolding hall_choice
    tied e = greater_second (wide_choice H) (small_choice H) (omega arith)

    pub hall_promises : HallPromises H
    hall_promises =
        record {
          allowed = plan_allowed;
          one_kind = plan_kind;
          wide_chosen = wide_among;
          small_chosen = small_among;
          wide_full = wide_filled;
          small_full = small_filled;
          wide_bound = wide_twice H good;
          wide_covered = wide_earns H good;
          small_bound = small_thrice;
          small_covered = small_earns H good;
          hall_bound = five_times;
          covers_wide = covered.0;
          covers_small = covered.1;
          tie = tied;
        }
