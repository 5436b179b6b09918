-- The steps of the two plans are those of the words: no other run is. Assumes nothing.
use mathlib.Core.Path.{◌≡◌}
use mathlib.Core.Logic.{◌↔◌}
use mathlib.Core.List.{List}
use Rattle.model.specs.Steps.{Step, initial, after_step_by}
use Rattle.model.proofs.Planned.{run_is, steps_in_words, opens_most}
use Rattle.charge_spec.specs.Hall.{Hall, window_count, is_wide, is_small}
use Rattle.charge_spec.specs.Plan.{turns_among, small_takes, wide_steps, small_steps, WideRun, SmallRun}
use Rattle.charge_spec.proofs.Takes.{small_taking}

pub wide_steps_are : (H : Hall) (xs : List Step) → WideRun H xs ↔ xs ≡ wide_steps H
unfolding wide_steps
wide_steps_are H xs = steps_in_words (turns_among H (is_wide H)) xs

pub small_steps_are : (H : Hall) (xs : List Step) → SmallRun H xs ↔ xs ≡ small_steps H
unfolding small_steps turns_among
small_steps_are H xs =
    run_is (turns_among H (is_small H)) (after_step_by (small_takes H)) (small_taking H) (window_count H) (initial (turns_among H (is_small H))) xs (opens_most (turns_among H (is_small H)) (initial (turns_among H (is_small H))))
