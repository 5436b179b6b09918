-- The plan of the wide windows (5.2.5, wide instances, factor 2): two of them that share a minute exceed the units, so that an allowed set of them is a feasible set of one groomer's turns. Assumes nothing.
use mathlib.Core.Path.{◌≡◌, refl, ap, ◌∙◌}
use mathlib.Core.Logic.{◌≢◌}
use mathlib.Core.Bool.{Bool, true, cond}
use mathlib.Core.List.{List, [], ◌∷◌}
use Prim.Native.Nat.{ℕ, ◌+◌, ◌*◌, ◌≤◌, ◌<◌}
use native.Mathlib.Omega.{arith}
use lib.IntN.{ℤ}
use Rattle.lists.specs.Lists.{sum_over, All, none, more}
use Rattle.model.specs.Turns.{Turns, conflict, Conflict, same_slope, same_groomer, same_driver}
use Rattle.model.specs.Steps.{Step, is_open, initial, taken, after_step, tally}
use Rattle.model.specs.Choice.{has, chosen}
use Rattle.model.specs.Rules.{Right, Each}
use Rattle.model.specs.Feasible.{Feasible}
use Rattle.lists.proofs.Sums.{sum_mono, all_map, all_both}
use Rattle.model.proofs.Account.{each_map, each_with}
use Rattle.model.proofs.Residuals.{taken_touched}
use Rattle.model.proofs.Planned.{conflict_taking, planned_right, steps_closed}
use Rattle.model.proofs.Bound.{bound_twice}
use Rattle.model.proofs.Filled.{Pays, fill_earned}
use Rattle.model.proofs.Choices.{chosen_point, chosen_some}
use Rattle.charge_spec.specs.Hall.{Hall, window_count, vehicle, draw, draw_at, drawn_at, charges_at, is_wide, Allowed, HallInRange}
use Rattle.charge_spec.specs.Plan.{turns_among, wide_steps, fits_among, choose_among, wide_choice, worth_in}
use Rattle.charge_spec.specs.Promises.{worth_of_windows}
use Rattle.charge_spec.proofs.Windows
use Rattle.charge_spec.proofs.Open.{first_only, after_only, kind_worth}
use Rattle.charge_spec.proofs.Allowing.{Short, same_vehicle_lem, out_of_supply, unfit_short}

-- two different elements are at most the sum, in each of many sums
abbrev Two : (ℕ → ℕ → ℕ) → (ℕ → ℕ) → ℕ → ℕ → Type 0
Two f most t u = t ≢ u → (m : ℕ) → f m t + f m u ≤ most m

one_in : (f : ℕ → ℕ → ℕ) (R : List ℕ) → All (λ t. (m : ℕ) → f m t ≤ sum_over (f m) R) R
one_in f [] = none
one_in f (t ∷ R) = more {t = t} (λ m. omega arith) (all_map (λ u h m. omega (arith, h m)) (one_in f R))

two_in : (f : ℕ → ℕ → ℕ) (R : List ℕ) → All (λ t. All (λ u. Two f (λ m. sum_over (f m) R) t u) R) R
two_in f [] = none
two_in f (t ∷ R) =
    more {t = t} (more {t = t} (λ d. absurd (d refl)) (all_map (λ u h d m. omega (arith, h m)) (one_in f R)))
    (all_map (λ u (h, k). more {t = t} (λ d m. omega (arith, h m)) (all_map (λ v i d m. omega (arith, i d m)) k)) (all_both (one_in f R) (two_in f R)))

module _ (H : Hall) (good : HallInRange H) where
  abbrev T : Turns
  T = turns_among H (is_wide H)

  -- ---- against every allowed set

  -- two windows of an allowed set, both wide, are no conflict of the one groomer's turns
  no_conflict : (t u : ℕ) → vehicle H t ≢ vehicle H u → ((m : ℕ) → draw_at H m t + draw_at H m u ≤ H.units) → is_wide H t ≡ true → is_wide H u ≡ true → Conflict T t u → ⊥
  unfolding turns_among
  no_conflict t u d most a b (same_slope e) = d e
  no_conflict t u d most a b (same_groomer e m p q) =
      let ct : charges_at H m t ≡ true = Windows.in_charges H m t p.begun (omega (arith, p.not_over)) in
      let cu : charges_at H m u ≡ true = Windows.in_charges H m u q.begun (omega (arith, q.not_over)) in
      omega (arith, most m, Windows.draw_at_charging H m t ct, Windows.draw_at_charging H m u cu, Windows.wide_is H t a, Windows.wide_is H u b)
  no_conflict t u d most a b (same_driver n m p q) = n.named refl

  pub wide_feasible : (R : List ℕ) → Allowed H R → All (λ t. is_wide H t ≡ true) R → Feasible T R
  unfolding turns_among
  wide_feasible R r w = record { numbers = r.numbers; once = r.once; apart = all_map pair (all_both w (all_both r.vehicles (two_in (draw_at H) R))) }
    where
      pair : (t : ℕ) → (is_wide H t ≡ true) × (All (λ u. t ≢ u → vehicle H t ≢ vehicle H u) R × All (λ u. Two (draw_at H) (λ m. sum_over (draw_at H m) R) t u) R) → All (λ u. t ≢ u → Conflict T t u → ⊥) R
      pair t (a, (v, k)) = all_map (λ u (b, (e, l)) d. no_conflict t u (e d) (λ m. omega (arith, l d m, r.supply m)) a b) (all_both w (all_both v k))

  -- an allowed set of wide windows is worth at most twice the tally
  pub wide_twice : (R : List ℕ) → Allowed H R → All (λ t. is_wide H t ≡ true) R → worth_of_windows H R ≤ 2 * tally (wide_steps H)
  unfolding wide_steps
  wide_twice R r w =
      omega (
        arith,
        sum_mono H.windows.worth T.worth (all_map own w),
        bound_twice T (Windows.among_lengths H (is_wide H) good.lengths) (wide_feasible R r w) (planned_right T) (steps_closed T) (Windows.among_drivers H (is_wide H)),
      )
    where
      own : (t : ℕ) → is_wide H t ≡ true → H.windows.worth t ≤ T.worth t
      own t e = omega (arith, Windows.among_worth H (is_wide H) t ∙ ap (λ (b : Bool). cond b (H.windows.worth t) 0) e)

  -- ---- against the plan's own choice

  module _ (s : List ℤ) (x : Step) (S : List Bool) (h : (t : ℕ) → has S t ≡ true → is_open s t ≡ true) where
    pays_conflict : (t : ℕ) → t < window_count H → has S t ≡ true → conflict T x.turn t ≡ true → x.amount ≤ chosen (window_count H) S (taken T s x)
    pays_conflict t l e c = omega (arith, chosen_point (window_count H) S (taken T s x) t l e, taken_touched T s x t (h t e) c)

    -- beside which J does not fit: its vehicle is there, or a window that shares a minute with it
    pays_short : draw H x.turn ≤ H.units → Short H S x.turn → x.amount ≤ chosen (window_count H) S (taken T s x)
    unfolding drawn_at
    pays_short d (same_vehicle_lem t l e v) = pays_conflict t l e (Windows.vehicle_conflict H (is_wide H) x.turn t (Windows.vehicle_sym H t x.turn v))
    pays_short d (out_of_supply minute c over) =
        let (t, l, e, p) = chosen_some (window_count H) S (draw_at H minute) (omega (arith, over, d)) in
        pays_conflict t l e (Windows.minute_conflict H (is_wide H) x.turn t (Windows.charges_share H minute x.turn t c (Windows.drawn_charging H minute t p)))

  steps_pay : Each (after_step T) (λ s x. Right T s x × Pays T (conflict_taking T) (fits_among H (is_wide H)) s x) (initial T) (wide_steps H)
  unfolding wide_steps turns_among
  steps_pay =
      each_map (λ s x (k, q). (q, λ S h e. pays_short s x S h (good.draws_to x.turn q.inside) (unfit_short H (is_wide H) S x.turn (k x.turn q.live) e)))
      (each_with (λ s x k q. after_only (is_wide H) (conflict_taking T) s x k) (first_only (is_wide H) H) (planned_right T))

  pub wide_earns : tally (wide_steps H) ≤ worth_in H (wide_choice H)
  unfolding wide_choice choose_among turns_among
  wide_earns = let e : tally (wide_steps H) ≤ chosen (window_count H) (wide_choice H) T.worth = fill_earned T (conflict_taking T) (fits_among H (is_wide H)) _ steps_pay in omega (arith, e, kind_worth H (is_wide H) (wide_choice H))
