-- The hall's two plans, one of the wide windows and one of the small ones, and the one that the hall gets (request R-14). Assumes nothing.
use Rattle.std.specs.Prelude.{◌≡◌, Bool, true, false, cond, ◌&&◌, List, [], ◌∷◌, map, ℕ, ◌+◌, ◌-◌, ◌*◌, ◌/◌, ltb, set, replicate}
use Rattle.lists.specs.Lists.{below}
use Rattle.model.specs.Turns.{Turns}
use Rattle.model.specs.Steps.{Step, initial, after_step, after_step_by}
use Rattle.model.specs.Pick.{plan_by, steps}
use Rattle.model.specs.Choice.{chosen, back, fill}
use Rattle.model.specs.Run.{Run}
use Rattle.charge_spec.specs.Hall.{hall_gap, Hall, window_count, draw, same_vehicle, share_minute, is_wide, is_small, stays_allowed, AllowedChoice}

-- ---- the steps

-- the windows of a kind as the turns of one groomer, with no gap and no drivers. Those of the other kind have no worth, so that they are closed from the start and no step is on them
unfoldable pub turns_among : Hall → (ℕ → Bool) → Turns
turns_among H kind =
    record {
      count = window_count H;
      gap = hall_gap;
      slope = H.windows.slope;
      groomer = λ t. 0;
      start = H.windows.start;
      end = H.windows.end;
      worth = λ t. cond (kind t) (H.windows.worth t) 0;
      driver = λ t. 0;
    }

-- the wide windows' steps are a shift's, with its pick and its conflicts: one vehicle, or a minute in common
unfoldable pub wide_steps : Hall → List Step
wide_steps H = steps (turns_among H (is_wide H))

-- a / b, rounded up
unfoldable pub rounded_up : ℕ → ℕ → ℕ
rounded_up a b = (a + (b - 1)) / b

-- what a step on j takes from an open small window t: its amount, once, if t is of j's vehicle, as j is; else, if t shares a minute with j, twice t's draw times the amount by the units, rounded up
unfoldable pub small_takes : Hall → ℕ → ℕ → ℕ → ℕ
small_takes H j amount t = cond (same_vehicle H j t) amount (cond (share_minute H j t) (rounded_up (2 * draw H t * amount) H.units) 0)

-- the small windows' steps: the same pick, and steps that take so
unfoldable pub small_steps : Hall → List Step
small_steps H = plan_by (turns_among H (is_small H)) (after_step_by (small_takes H)) (window_count H) (initial (turns_among H (is_small H)))

-- ---- the choices

-- window j can be chosen beside S: it is of the kind, and S is still allowed with it
unfoldable pub fits_among : Hall → (ℕ → Bool) → List Bool → ℕ → Bool
fits_among H kind S j = kind j && stays_allowed H S j

-- from the last step back to the first, then in turn order, among the windows of a kind
unfoldable pub choose_among : Hall → (ℕ → Bool) → List Step → List Bool
choose_among H kind xs = fill (fits_among H kind) (window_count H) (back (fits_among H kind) (window_count H) (map (λ (x : Step). x.turn) xs))

-- the wide windows' plan
unfoldable pub wide_choice : Hall → List Bool
wide_choice H = choose_among H (is_wide H) (wide_steps H)

-- the small windows' plan
unfoldable pub small_choice : Hall → List Bool
small_choice H = choose_among H (is_small H) (small_steps H)

-- what chosen windows are worth
unfoldable pub worth_in : Hall → List Bool → ℕ
worth_in H S = chosen (window_count H) S H.windows.worth

-- of two choices the one of greater worth, of equals the second
unfoldable pub greater_of : Hall → List Bool → List Bool → List Bool
greater_of H S U = cond (ltb (worth_in H U) (worth_in H S)) S U

-- what the hall gets: the choice that is worth more, and the small windows' where both are worth the same
unfoldable pub hall_choice : Hall → List Bool
hall_choice H = greater_of H (wide_choice H) (small_choice H)

-- and what it is worth
unfoldable pub hall_worth : Hall → ℕ
hall_worth H = worth_in H (hall_choice H)

-- ---- as statements

-- steps on the wide windows in words: each is on the window to pick and takes its amount from the open ones that conflict with it, until none is open
abbrev pub WideRun : Hall → List Step → Type 0
WideRun H xs = Run (turns_among H (is_wide H)) (after_step (turns_among H (is_wide H))) (initial (turns_among H (is_wide H))) xs

-- the same on the small windows, with what is taken there
abbrev pub SmallRun : Hall → List Step → Type 0
SmallRun H xs = Run (turns_among H (is_small H)) (after_step_by (small_takes H)) (initial (turns_among H (is_small H))) xs

-- beside S a list of windows is gone through from its last to its first: each that is of the kind, and with which the chosen windows are an allowed set, is taken, and no other. R has what is chosen then
pub data GoneThrough (H : Hall) (kind : ℕ → Bool) (S : List Bool) : List ℕ → List Bool → Type 0 where
  start : GoneThrough H kind S [] S
  taken : {t : ℕ} {ts : List ℕ} {R : List Bool} → GoneThrough H kind S ts R → kind t ≡ true → AllowedChoice H (set R t true) → GoneThrough H kind S (t ∷ ts) (set R t true)
  passed : {t : ℕ} {ts : List ℕ} {R : List Bool} → GoneThrough H kind S ts R → (kind t ≡ true → AllowedChoice H (set R t true) → ⊥) → GoneThrough H kind S (t ∷ ts) R

-- S is what going back over the steps and then filling choose among the windows of a kind: the steps' windows from the last step to the first, then all windows from number 0 on
pub record ChosenAmong (H : Hall) (kind : ℕ → Bool) (xs : List Step) (S : List Bool) : Type 0 where
  pub gone_back : List Bool
  pub from_steps : GoneThrough H kind (replicate (window_count H) false) (map (λ (x : Step). x.turn) xs) gone_back
  pub filled : GoneThrough H kind gone_back (below (window_count H)) S
