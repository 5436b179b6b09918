-- What the hall's plan promises about every allowed set of windows (request R-14). Assumes nothing.
use Rattle.std.specs.Prelude.{◌≡◌, ◌⊎◌, true, List, ℕ, ◌+◌, ◌*◌, ◌≤◌, length}
use Rattle.lists.specs.Lists.{sum_over, All}
use Rattle.model.specs.Steps.{tally}
use Rattle.model.specs.Choice.{has}
use Rattle.charge_spec.specs.Hall.{Hall, is_wide, is_small, Allowed, AllowedChoice, FullAmong}
use Rattle.charge_spec.specs.Plan.{wide_steps, small_steps, wide_choice, small_choice, worth_in, hall_choice, hall_worth, ChosenAmong}

-- what a set of windows is worth: their worths, added up
abbrev pub worth_of_windows : Hall → List ℕ → ℕ
worth_of_windows H R = sum_over H.windows.worth R

pub record HallPromises (H : Hall) : Type 0 where
  -- what is chosen is allowed
  pub allowed : AllowedChoice H (hall_choice H)
  -- and is of one kind: all wide, or all small
  pub one_kind : ((t : ℕ) → has (hall_choice H) t ≡ true → is_wide H t ≡ true) ⊎ ((t : ℕ) → has (hall_choice H) t ≡ true → is_small H t ≡ true)
  -- each plan is what going back over its steps and filling choose among its windows
  pub wide_chosen : ChosenAmong H (is_wide H) (wide_steps H) (wide_choice H)
  pub small_chosen : ChosenAmong H (is_small H) (small_steps H) (small_choice H)
  -- each plan is full: none of its kind's other windows could be chosen besides
  pub wide_full : FullAmong H (is_wide H) (wide_choice H)
  pub small_full : FullAmong H (is_small H) (small_choice H)
  -- an allowed set of wide windows is worth at most twice the wide tally, and that tally is at most the wide plan's worth
  pub wide_bound : (R : List ℕ) → Allowed H R → All (λ t. is_wide H t ≡ true) R → worth_of_windows H R ≤ 2 * tally (wide_steps H)
  pub wide_covered : tally (wide_steps H) ≤ worth_in H (wide_choice H)
  -- an allowed set of small windows is worth at most three times the small tally and the units for each small step, and that tally is at most the small plan's worth
  pub small_bound : (R : List ℕ) → Allowed H R → All (λ t. is_small H t ≡ true) R → worth_of_windows H R ≤ 3 * tally (small_steps H) + H.units * length (small_steps H)
  pub small_covered : tally (small_steps H) ≤ worth_in H (small_choice H)
  -- every allowed set is worth at most five times what the hall's plan is, and the units for each small step
  pub hall_bound : (R : List ℕ) → Allowed H R → worth_of_windows H R ≤ 5 * hall_worth H + H.units * length (small_steps H)
  -- neither plan is worth more
  pub covers_wide : worth_in H (wide_choice H) ≤ hall_worth H
  pub covers_small : worth_in H (small_choice H) ≤ hall_worth H
  -- of two plans of one worth it is the small windows'
  pub tie : worth_in H (wide_choice H) ≡ worth_in H (small_choice H) → hall_choice H ≡ small_choice H
