-- The steps of one kind: those that the planner's loop makes of the engine's turns are the kind's. Assumes nothing.
use mathlib.Core.Path.{◌≡◌, refl, sym, ◌∙◌, ap}
use mathlib.Core.Bool.{Bool, true, false, not, cond}
use mathlib.Core.List.{List, [], ◌∷◌}
use Prim.Native.Nat.{ℕ, ◌*◌, ◌≤◌, ◌<◌}
use native.Mathlib.Omega.{arith}
use lib.ListN.{length}
use Rattle.wire.specs.Number.{puts}
use Rattle.model.specs.Steps.{Step}
use Rattle.model.specs.Pick.{steps}
use Rattle.board.specs.Board.{step_bytes}
use Rattle.instance.specs.Columns.{turns_by}
use Rattle.model.specs.Relabelling.{Places, SameTimes, SameWorths, SameTakes, TiesKept, relabel_all}
use Rattle.model.proofs.Relabelling.{steps_same_by, first_alike}
use Rattle.charge_spec.specs.Hall.{Hall, draw, is_wide, is_small, same_vehicle, share_minute}
use Rattle.charge_spec.specs.Plan.{turns_among, small_takes, wide_steps, small_steps}
use Rattle.charge_spec.proofs.Windows.{small_is}
use Rattle.steps.specs.declared.stepping.Rule.{Rule}
use Rattle.steps.specs.declared.stepping.Rule.TheVariants.{Conflicts, Shares}
use Rattle.steps.specs.Rule.{takes_by, next_by, plan_for, steps_for, RuleHeld}
use Rattle.steps.proofs.Planning.{shift_steps_lem}
use Rattle.hall_steps.specs.declared.one_kind.OneKind.{OneKind}
use Rattle.hall_steps.specs.OneKind.{kind_hall, kind_draw, of_kind, engine_turns, taking_rule, steps_by}
use Rattle.hall_steps.specs.Bounds.{HallHeld}

-- ---- the rule

pub rule_wide : (a : OneKind) → a.wide ≡ true → Conflicts ≡ taking_rule a
unfolding taking_rule
rule_wide a w = rw w

pub rule_small : (a : OneKind) → a.wide ≡ false → Shares a.units ≡ taking_rule a
unfolding taking_rule
rule_small a w = rw w

pub ruleset rule_cases = (rule_wide, rule_small)

-- ---- the kind

module _ (a : OneKind) (cols : List ℕ) where
  abbrev H : Hall
  H = kind_hall a cols

  module _ (w : a.wide ≡ true) where
    kind_wide : (t : ℕ) → of_kind a cols t ≡ is_wide H t
    unfolding of_kind kind_draw is_wide
    kind_wide t = rw w

    engine_wide : engine_turns a cols ≡ turns_among H (is_wide H)
    unfolding engine_turns turns_among
    engine_wide = λ j. record {
      count = H.windows.count;
      gap = 0;
      slope = H.windows.slope;
      groomer = λ t. none t j;
      start = H.windows.start;
      end = H.windows.end;
      worth = λ t. ap (λ (b : Bool). cond b (H.windows.worth t) 0) (kind_wide t) j;
      driver = λ t. 0;
    }
      where
        none : (t : ℕ) → cond (not a.wide) (cond (of_kind a cols t) (draw H t) 0) 0 ≡ 0
        none t = rw w

  module _ (w : a.wide ≡ false) where
    kind_small : (t : ℕ) → of_kind a cols t ≡ is_small H t
    unfolding of_kind kind_draw is_small is_wide
    kind_small t = rw w

    same_turns : SameTimes (turns_among H (is_small H)) (engine_turns a cols) (λ t. t)
    unfolding engine_turns turns_among
    same_turns = record { counts = refl; ends = λ i h. refl }

    same_worths : SameWorths (turns_among H (is_small H)) (engine_turns a cols) (λ t. t)
    unfolding engine_turns turns_among
    same_worths = record { counts = refl; worths = λ i h. ap (λ (b : Bool). cond b (H.windows.worth i) 0) (kind_small i) }

    -- a window with a worth is small, and the engine gets its draw
    own_draw : (t : ℕ) → 0 < (turns_among H (is_small H)).worth t → (engine_turns a cols).groomer t ≡ draw H t
    unfolding engine_turns turns_among
    own_draw t l = given a.wide (of_kind a cols t) w (kind_small t)
      where
        go : (b : Bool) → 0 < cond b (H.windows.worth t) 0 → cond b (draw H t) 0 ≡ draw H t
        go true l = refl
        go false l = absurd (omega arith)

        given : (x o : Bool) → x ≡ false → o ≡ is_small H t → cond (not x) (cond o (draw H t) 0) 0 ≡ draw H t
        given x o e f = rw (e, f) (go (is_small H t) l)

    same_takes : SameTakes (turns_among H (is_small H)) (λ t. t) (small_takes H) (takes_by (Shares a.units) (engine_turns a cols))
    unfolding takes_by small_takes same_vehicle share_minute engine_turns
    same_takes = record { each = λ i amount k h l v. rw (own_draw k v) }

    small_steps_lem : steps_for (Shares a.units) (engine_turns a cols) ≡ small_steps H
    unfolding steps_for plan_for next_by small_steps engine_turns turns_among TiesKept relabel_all
    small_steps_lem = sym (relabel_none _) ∙ steps_same_by places same_turns same_takes (λ i k h l e. h) (first_alike places same_worths)
      where
        places : Places (turns_among H (is_small H)).count (λ t. t) (λ t. t)
        places = record { turn_inside = λ i l. l; place_inside = λ t l. l; place_outside = λ t l. l; place_turn = λ i l. refl; turn_place_lem = λ t l. refl }

        relabel_none : (xs : List Step) → relabel_all (λ t. t) xs ≡ xs
        relabel_none [] = refl
        relabel_none (x ∷ xs) = ap (λ (ys : List Step). x ∷ ys) (relabel_none xs)

  -- ---- either kind

  kind_steps : steps_for (taking_rule a) (engine_turns a cols) ≡ steps_by a cols
  unfolding taking_rule steps_by wide_steps
  kind_steps = go a.wide refl
    where
      go : (b : Bool) → a.wide ≡ b → steps_for (cond b Conflicts (Shares a.units)) (engine_turns a cols) ≡ cond b (steps (turns_among H (is_wide H))) (small_steps H)
      go true w = rw (engine_wide w) (shift_steps_lem (turns_among H (is_wide H)))
      go false w = small_steps_lem w

  -- no draw that the engine gets is more than half of the units
  half : (t : ℕ) → a.wide ≡ false → 2 * (engine_turns a cols).groomer t ≤ a.units
  unfolding engine_turns
  half t w = given a.wide (of_kind a cols t) w (kind_small w t)
    where
      go : (b : Bool) → is_small H t ≡ b → 2 * cond b (draw H t) 0 ≤ a.units
      go true e = omega (arith, small_is H t e)
      go false e = omega arith

      given : (x o : Bool) → x ≡ false → o ≡ is_small H t → 2 * cond (not x) (cond o (draw H t) 0) 0 ≤ a.units
      given x o e f = rw (e, f) (go (is_small H t) refl)

  module _ {r : Rule} (k : r ≡ taking_rule a) (own : List ℕ) (e : turns_by a.size own ≡ engine_turns a cols) where
    pub one_kind_rule : HallHeld a.units a.size cols → RuleHeld r a.size own
    unfolding RuleHeld taking_rule
    one_kind_rule held = rw k (go a.wide refl)
      where
        go : (b : Bool) → a.wide ≡ b → RuleHeld (cond b Conflicts (Shares a.units)) a.size own
        go true w = tt
        go false w = record { units_from = held.units_from; units_to = held.units_to; draws = λ t l. rw e (half t w) }

    steps_are : steps_for r (turns_by a.size own) ≡ steps_by a cols
    steps_are = rw (k, e) kind_steps

    pub one_kind_count : {m : ℕ} → m ≡ length (steps_for r (turns_by a.size own)) → m ≡ length (steps_by a cols)
    one_kind_count q = q ∙ ap length steps_are

    pub one_kind_out : (l : List ℕ) {l' : List ℕ} → l' ≡ puts l 0 (step_bytes (steps_for r (turns_by a.size own))) → l' ≡ puts l 0 (step_bytes (steps_by a cols))
    one_kind_out l q = q ∙ ap (λ (xs : List Step). puts l 0 (step_bytes xs)) steps_are

pub ruleset one_kind_steps = (one_kind_rule, one_kind_count, one_kind_out)
