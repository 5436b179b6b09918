-- Filling in words: which turns are chosen where others are already (document 01: rule 4 of the steps). Assumes nothing.
use Rattle.std.specs.Prelude.{ℕ, ◌<◌, ◌≡◌, ◌↔◌, ◌⊎◌, Bool, true, List, length}
use Rattle.model.specs.Turns.{Turns, Conflict}
use Rattle.model.specs.Choice.{has}

-- turn t can join: it conflicts with no turn of S, and with no turn of R that has a lower number
abbrev pub CanJoin : Turns → List Bool → List Bool → ℕ → Type 0
CanJoin T S R t = (u : ℕ) → u < T.count → (has S u ≡ true) ⊎ ((u < t) × (has R u ≡ true)) → Conflict T u t → ⊥

-- R is S filled up in turn order: a turn is chosen exactly if S has it, or it can join S and the chosen turns of lower numbers
pub record FilledUp (T : Turns) (S R : List Bool) : Type 0 where
  pub places : length R ≡ T.count
  pub exactly : (t : ℕ) → t < T.count → (has R t ≡ true) ↔ ((has S t ≡ true) ⊎ CanJoin T S R t)
