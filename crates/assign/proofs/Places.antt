-- Local places, and the turns in their order, as the code leaves them. Assumes nothing.
use mathlib.Core.Path.{◌≡◌, refl, ap, ◌∙◌}
use mathlib.Core.List.{List}
use Prim.Native.Nat.{ℕ, ◌+◌, ◌<◌, ◌≤◌}
use native.Mathlib.Omega.{arith}
use lib.ListN.{length, get_or, set}
use Rattle.sheet.specs.Kind.{most_turns}
use Rattle.instance.specs.declared.columns.Size.{Size}
use Rattle.instance.specs.Columns.{turns_by, Held}
use Rattle.instance_spec.specs.ByStart.{order_by_start}
use Rattle.instance_spec.proofs.ByStart.{order_length}
use Rattle.instance.proofs.Rows.{count_is}
use Rattle.assign_spec.specs.Numbering.{number_for, numbers_of, used_of}
use Rattle.assign.specs.Serving.{NextIn, BusyUntil, Serving}
use Rattle.assign.proofs.Serving.{earliest_none, used_least, serving_first, serving_turn, serving_more, numbers_done, used_done, serving_few}

-- ---- the turns in their order

module _ (p : Size) (cols order : List ℕ) (i : ℕ) (e : order ≡ order_by_start (turns_by p cols)) (used : ℕ) (busy numbers : List ℕ) (w : Serving (turns_by p cols) i used busy numbers) where
  many : length order ≡ p.count
  many = ap length e ∙ order_length (turns_by p cols) ∙ count_is p cols

  module _ (h : Held p cols) (l : i < length order) where
    inside : i < p.count
    inside = omega (arith, many)

    pub serving_next : {t : ℕ} → t ≡ get_or order i 0 → NextIn (turns_by p cols) numbers t
    serving_next f = rw (f, e) (serving_turn p cols i used busy numbers w inside)

    pub serving_busy : BusyUntil (turns_by p cols) numbers used busy
    serving_busy = w.groomers

    pub serving_least : used < most_turns
    serving_least = used_least p cols numbers (get_or order i 0) h (serving_next refl) used busy serving_busy

    module _ {t : ℕ} {numbers' : List ℕ} (f : t ≡ get_or order i 0) (g : numbers' ≡ set numbers t (number_for (turns_by p cols) numbers t)) where
      pub serving_step : {used' : ℕ} {busy' : List ℕ} → BusyUntil (turns_by p cols) numbers' used' busy' → Serving (turns_by p cols) (i + 1) used' busy' numbers'
      serving_step b = serving_more p cols i used busy numbers w inside (rw (f, e) at g) b

  module _ (l : length order ≤ i) where
    over : p.count ≤ i
    over = omega (arith, many)

    pub serving_done : numbers ≡ numbers_of (turns_by p cols)
    serving_done = numbers_done p cols i used busy numbers w over

    pub serving_used : used ≡ used_of (turns_by p cols)
    serving_used = used_done p cols i used busy numbers w over

pub ruleset serving_cases = (serving_first, earliest_none, serving_next, serving_least, serving_step, serving_done, serving_used, serving_few)
