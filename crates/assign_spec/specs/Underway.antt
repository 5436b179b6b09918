-- Turns that get their numbers one after another, as far as it has come (request R-4). Assumes nothing.
use Rattle.std.specs.Prelude.{◌≡◌, true, false, List, ℕ, ◌+◌, ◌≤◌, ◌<◌, eqb, length}
use Rattle.model.specs.Turns.{Turns, overlap}
use Rattle.lists.specs.Lists.{All}
use Rattle.lists.specs.Sorting.{times_in}
use Rattle.lists.specs.Order.{Ascending}
use Rattle.assign_spec.specs.Numbering.{number_in, Before}

-- number k is taken for turn t: a turn before it has got k and overlaps it, by the test
pub record TakenBy (T : Turns) (numbers : List ℕ) (t k : ℕ) : Type 0 where
  pub turn : ℕ
  pub inside : turn < T.count
  pub before : Before T turn t
  pub has_it : number_in numbers turn ≡ k
  pub overlaps : overlap T turn t ≡ true

-- the numbers that all turns but these have got: those with a number come before all of these, no two of one number overlap, and each number is the smallest. There are no more numbers than turns that have one
pub record Underway (T : Turns) (ts numbers : List ℕ) : Type 0 where
  pub places : length numbers ≡ T.count
  pub rising : Ascending T.start ts
  pub inside : All (λ t. t < T.count) ts
  pub past : (u : ℕ) → 1 ≤ number_in numbers u → All (λ t. Before T u t) ts
  pub rest : (u : ℕ) → u < T.count → times_in eqb u ts ≡ 0 → 1 ≤ number_in numbers u
  pub apart : (x y : ℕ) → (x ≡ y → ⊥) → 1 ≤ number_in numbers x → number_in numbers x ≡ number_in numbers y → overlap T x y ≡ false
  pub smallest : (t k : ℕ) → 1 ≤ k → k < number_in numbers t → TakenBy T numbers t k
  pub few : (u : ℕ) → number_in numbers u + length ts ≤ T.count
