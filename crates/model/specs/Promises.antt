-- What a board that keeps the rules promises about every feasible set (document 01: the third demand; requests R-5, R-7). Assumes nothing.
use Rattle.std.specs.Prelude.{◌≡◌, Bool, List, ℕ, ◌*◌, ◌≤◌}
use Rattle.model.specs.Turns.{Turns, NoDrivers}
use Rattle.model.specs.Rules.{Independent, Maximal}
use Rattle.model.specs.Feasible.{Feasible, worth_of, OneTurnASlope}

-- the promises, of a choice, its two sums, and a bound, which is the ceiling of its steps
pub record Promises (T : Turns) (S : List Bool) (tallied worth bound : ℕ) : Type 0 where
  -- no feasible set is worth more than the ceiling
  pub within_ceiling : (R : List ℕ) → Feasible T R → worth_of T R ≤ bound
  -- which is at least the tally and at most three times as much, without drivers at most twice
  pub ceiling_from : tallied ≤ bound
  pub ceiling_to : bound ≤ 3 * tallied
  pub ceiling_to_twice : NoDrivers T → bound ≤ 2 * tallied
  -- without drivers, where no slope has two turns, it is the tally, and so is the worth
  pub ceiling_exact : NoDrivers T → OneTurnASlope T → (bound ≡ tallied) × (tallied ≡ worth)
  -- no feasible set is worth more than three times the tally
  pub thrice : (R : List ℕ) → Feasible T R → worth_of T R ≤ 3 * tallied
  -- nor more than twice the tally, where no slope has two turns
  pub twice_one_turn : OneTurnASlope T → (R : List ℕ) → Feasible T R → worth_of T R ≤ 2 * tallied
  -- on a sheet without drivers: no feasible set is worth more than twice the tally
  pub twice : NoDrivers T → (R : List ℕ) → Feasible T R → worth_of T R ≤ 2 * tallied
  -- the tally is at most the worth
  pub covered : tallied ≤ worth
  -- no two chosen turns conflict
  pub apart : Independent T S
  -- every other turn conflicts with a chosen one
  pub maximal : Maximal T S
  -- on a sheet without drivers, where no slope has two turns: no feasible set is worth more
  pub exact : NoDrivers T → OneTurnASlope T → (R : List ℕ) → Feasible T R → worth_of T R ≤ worth
