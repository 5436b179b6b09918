-- The windows of one kind in a hall that columns hold: which they are, what the engine gets of them, and their steps. For inner functions only (request R-14). Assumes nothing.
use Rattle.std.specs.Prelude.{Bool, not, cond, List, ℕ}
use Rattle.model.specs.Turns.{Turns}
use Rattle.model.specs.Steps.{Step}
use Rattle.instance.specs.declared.ways.Row.{Row}
use Rattle.charge_spec.specs.Hall.{hall_gap, Hall, window_count, draw, wide_draw}
use Rattle.charge_spec.specs.Plan.{wide_steps, small_steps}
use Rattle.shares.specs.Taking.{hall_by}
use Rattle.steps.specs.declared.stepping.Rule.{Rule}
use Rattle.steps.specs.declared.stepping.Rule.TheVariants.{Conflicts, Shares}
use Rattle.hall_steps.specs.declared.one_kind.OneKind.{OneKind}

-- the hall in the columns
abbrev pub kind_hall : OneKind → List ℕ → Hall
kind_hall a cols = hall_by a.units a.size cols

-- a window with this draw is of the kind that is meant
unfoldable pub kind_draw : OneKind → ℕ → Bool
kind_draw a d = let wide = wide_draw a.units d in cond a.wide wide (not wide)

-- window t is
unfoldable pub of_kind : OneKind → List ℕ → ℕ → Bool
of_kind a cols t = kind_draw a (draw (kind_hall a cols) t)

-- what the engine gets of a row: a small window's draw, no driver, and no worth where it is of the other kind
unfoldable pub kind_row : OneKind → Row → Row
kind_row a r =
    let own = kind_draw a r.groomer in
    record { slope = r.slope; groomer = cond (not a.wide) (cond own r.groomer 0) 0; start = r.start; end = r.end; worth = cond own r.worth 0; driver = 0 }

-- what it gets of all windows
unfoldable pub engine_turns : OneKind → List ℕ → Turns
engine_turns a cols =
    let H = kind_hall a cols in
    record {
      count = window_count H;
      gap = hall_gap;
      slope = H.windows.slope;
      groomer = λ t. cond (not a.wide) (cond (of_kind a cols t) (draw H t) 0) 0;
      start = H.windows.start;
      end = H.windows.end;
      worth = λ t. cond (of_kind a cols t) (H.windows.worth t) 0;
      driver = λ t. 0;
    }

-- the rule by which steps take
unfoldable pub taking_rule : OneKind → Rule
taking_rule a = cond a.wide Conflicts (Shares a.units)

-- the steps of that kind
unfoldable pub steps_by : OneKind → List ℕ → List Step
steps_by a cols = cond a.wide (wide_steps (kind_hall a cols)) (small_steps (kind_hall a cols))
