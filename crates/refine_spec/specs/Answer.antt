-- What the entry returns, beside what the lent bytes and the lent numbers hold then (request P-2). Assumes nothing.
use Rattle.std.specs.Prelude.{ℕ, List}
use Rattle.refine_spec.specs.declared.RefineAnswer.{RefineAnswer}
use Rattle.refine_spec.specs.Refine.{Refinement}

-- a program's answer beside the lent bytes and the lent numbers
abbrev pub refined_by : RefineAnswer → List ℕ → List ℕ → Refinement
refined_by answer board prices = record { refusal = answer.refusal; bytes = answer.bytes; worth = answer.worth; limit = answer.limit; rounds = answer.rounds; board = board; prices = prices }

-- a refusal returns its number and nothing else
abbrev pub refine_refused : ℕ → RefineAnswer
refine_refused k = record { refusal = k; bytes = 0; worth = 0; limit = 0; rounds = 0 }
