-- What an entry gives: what it found, or the number of the first cause and nothing else (document 01: what the box says). Assumes nothing.
use Rattle.std.specs.Prelude.{ℕ, cond, List, [], ◌∷◌, ◌++◌, ltb, eqb}
use Rattle.refusal.specs.Number.{buffer_too_small}
use Rattle.refusal.specs.Cause.{Cause, ◌when◌, first_of}

-- what is returned, and what the lent places hold then
pub record Outcome (A P : Type 0) : Type 0 where
  pub answer : A
  pub lent : P

-- an answer beside the lent places
abbrev pub beside : {A P : Type 0} → A → P → Outcome A P
beside answer lent = record { answer = answer; lent = lent }

-- what was found, unless a cause is there: then the refusal with the first one's number
unfoldable pub unless : {A : Type 0} → List Cause → A → (ℕ → A) → A
unless causes found refused = let f = first_of causes in cond (eqb f 0) found (refused f)

-- and last too few lent places
abbrev pub then_room : List Cause → ℕ → ℕ → List Cause
then_room causes need places = causes ++ buffer_too_small when ltb places need ∷ []
