-- What the rounds' entry returns, beside what the lent bytes and the lent numbers hold then (request P-3). Assumes nothing.
use Rattle.std.specs.Prelude.{ℕ, List}
use Rattle.hall_by_prices_spec.specs.declared.ChargeRefineAnswer.{ChargeRefineAnswer}
use Rattle.hall_by_prices_spec.specs.Refine.{ChargeRefinement}

-- a program's answer beside the lent bytes and the lent numbers
abbrev pub charge_refined_by : ChargeRefineAnswer → List ℕ → List ℕ → ChargeRefinement
charge_refined_by answer map prices = record { refusal = answer.refusal; worth = answer.worth; limit = answer.limit; rounds = answer.rounds; map = map; prices = prices }

-- a refusal returns its number and nothing else
abbrev pub charge_refine_refused : ℕ → ChargeRefineAnswer
charge_refine_refused k = record { refusal = k; worth = 0; limit = 0; rounds = 0 }
