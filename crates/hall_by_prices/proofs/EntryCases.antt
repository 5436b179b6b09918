-- The entries' answers by their cases, each premise in the form in which the code's calls and tests leave it. Assumes nothing.
use Prim.Native.Nat.{ℕ}
use mathlib.Core.Path.{◌≡◌, sym, ap, ◌∙◌}
use mathlib.Core.List.{List}
use native.Mathlib.Omega.{arith}
use lib.ListN.{length}
use borrow.Author.Tests.{ne_eqb}
use Rattle.refusal.specs.Number.{bad_prices}
use Rattle.refusal.proofs.Outcome.{tried_stops, tried_last}
use Rattle.turn.specs.Turn.{shift_minutes}
use Rattle.sheet.specs.Kind.{Kind}
use Rattle.sheet.specs.declared.answer.ReadAnswer.{ReadAnswer}
use Rattle.sheet.specs.Read.{answer_for}
use Rattle.instance.specs.Load.{PosedFor}
use Rattle.charge_spec.specs.Hall.{hall_gap}
use Rattle.charge_spec.specs.Charge.{charging_sheet}
use Rattle.charge_spec.proofs.ChargingSheets.{vehicles_of}
use Rattle.charge.proofs.Charges.{charge_tried, accepted, counts_are, charge_held, hall_is}
use Rattle.limit_spec.specs.declared.LimitAnswer.{LimitAnswer}
use Rattle.limit_spec.specs.Limit.{limit_is, limit_refused}
use Rattle.hall_by_prices_spec.specs.Prices.{hall_limit}
use Rattle.hall_by_prices_spec.specs.Limit.{charge_limit_causes, sheet_hall_limit, charge_limit_of}
use Rattle.hall_by_prices_spec.proofs.LimitCauses.{charge_limit_is}
use Rattle.hall_look.specs.Look.{hall_for, HallPosed}

-- ---- a sheet that is not refused

pub hall_posed : (s : List ℕ) {K : Kind} {r : ReadAnswer} → K ≡ charging_sheet → r ≡ answer_for K s → r.refusal ≡ 0 → (cols : List ℕ) → (r.refusal ≡ 0 → (gap : ℕ) → PosedFor gap s cols)
    → HallPosed (record { units = r.groomers; vehicles = r.slopes; size = record { count = r.turns; gap = hall_gap } }) cols
hall_posed s k e f cols w = record { held = charge_held s k e f cols w; vehicles = omega (arith, (counts_are s k e f).1, vehicles_of s (accepted s k e f)) }

-- ---- the limit

module _ (s prices : List ℕ) {K : Kind} {r : ReadAnswer} (k : K ≡ charging_sheet) (e : r ≡ answer_for K s) where
  pub limit_fault : {x : LimitAnswer} → (r.refusal ≡ 0 → ⊥) → x ≡ limit_refused r.refusal → x ≡ charge_limit_of s prices
  unfolding charge_limit_of charge_limit_causes
  limit_fault f g = g ∙ tried_stops (charge_tried s k e) _ limit_refused _ f

  module _ (f : r.refusal ≡ 0) where
    pub limit_other : {x : LimitAnswer} → (length prices ≡ shift_minutes → ⊥) → x ≡ limit_refused bad_prices → x ≡ charge_limit_of s prices
    unfolding charge_limit_of charge_limit_causes
    limit_other d h = h ∙ tried_last (charge_tried s k e) _ limit_refused f bad_prices (omega arith) (rw (ne_eqb (length prices) shift_minutes d))

    pub limit_found : (cols : List ℕ) {x : ℕ} → (r.refusal ≡ 0 → (gap : ℕ) → PosedFor gap s cols) → length prices ≡ shift_minutes →
        x ≡ hall_limit (hall_for (record { units = r.groomers; vehicles = r.slopes; size = record { count = r.turns; gap = hall_gap } }) cols) r.slopes prices → limit_is x ≡ charge_limit_of s prices
    unfolding sheet_hall_limit
    limit_found cols w l h =
        ap limit_is (h ∙ rw (hall_is s k e f cols w, (counts_are s k e f).1)) ∙ sym (charge_limit_is s prices (accepted s k e f) l)
