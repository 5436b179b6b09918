-- What the best worth of a sheet and its set promise, beside the planned board of the same sheet (request R-9). Assumes nothing.
use Rattle.std.specs.Prelude.{◌≡◌, Bool, true, false, List, ℕ, ◌≤◌, length, take, drop}
use Rattle.model.specs.Choice.{has, chosen}
use Rattle.model.specs.Rules.{Independent}
use Rattle.model.specs.Feasible.{Feasible, worth_of}
use Rattle.choice_map.specs.Choice.{map_bytes, map_of, choice_in}
use Rattle.board.specs.Board.{board_tally, board_worth, board_map}
use Rattle.instance_spec.specs.Problem.{sheet_turns}
use Rattle.plan_spec.specs.Plan.{planned_board}
use Rattle.sheet.specs.Read.{counts_in, turn_count}
use Rattle.best_spec.specs.Table.{best_worth, best_choice, is_among, Later, LeavesOutLatest}
use Rattle.best_spec.specs.Groomers.{groomer_worth, groomers_worth, MostOfGroomer}
use Rattle.best_spec.specs.Best.{best_of}

-- the first of the lent bytes then, which have a bit for each turn
abbrev pub answered_map : List ℕ → List ℕ → List ℕ
answered_map s lent = take (map_bytes (turn_count s)) (best_of s lent).lent

-- the turns whose bits are set there
abbrev pub answered_choice : List ℕ → List ℕ → List Bool
answered_choice s lent = choice_in (turn_count s) (answered_map s lent)

-- ---- as statements

-- of a sheet with one turn a slope and no drivers
pub record BestOfSheet (s : List ℕ) : Type 0 where
  -- no two turns of the set conflict
  pub apart : Independent (sheet_turns s) (best_choice (sheet_turns s))
  -- it earns the best worth
  pub earns : chosen (sheet_turns s).count (best_choice (sheet_turns s)) (sheet_turns s).worth ≡ best_worth (sheet_turns s)
  -- no feasible set earns more
  pub greatest : (R : List ℕ) → Feasible (sheet_turns s) R → worth_of (sheet_turns s) R ≤ best_worth (sheet_turns s)
  -- the planned board has this tally
  pub tallied : board_tally (planned_board s) ≡ best_worth (sheet_turns s)
  -- and this worth
  pub planned_worth : board_worth (planned_board s) ≡ best_worth (sheet_turns s)
  -- and the same choice map, bit for bit
  pub planned_map : board_map (planned_board s) ≡ map_of (best_choice (sheet_turns s))
  -- of two best sets, this one leaves out the latest of a groomer's turns in which they differ
  pub latest : LeavesOutLatest (sheet_turns s) (best_choice (sheet_turns s))

-- of an answer that refuses nothing
pub record BestPromised (s lent : List ℕ) : Type 0 where
  -- the turns whose bits are set are the table's
  pub set : answered_choice s lent ≡ best_choice (sheet_turns s)
  -- there is a place for each turn, and no two of the turns conflict
  pub places : length (answered_choice s lent) ≡ (sheet_turns s).count
  pub apart : Independent (sheet_turns s) (answered_choice s lent)
  -- they earn the answer's worth
  pub earns : chosen (sheet_turns s).count (answered_choice s lent) (sheet_turns s).worth ≡ (best_of s lent).answer.worth
  -- of two sets that earn as much, theirs leaves out the latest of a groomer's turns in which they differ
  pub latest : (R : List ℕ) → Feasible (sheet_turns s) R → worth_of (sheet_turns s) R ≡ (best_of s lent).answer.worth → (x : ℕ) → has (answered_choice s lent) x ≡ true → is_among R x ≡ false →
      (y : ℕ) × (is_among R y ≡ true) × (has (answered_choice s lent) y ≡ false) × Later (sheet_turns s) y x
  -- the first bytes are their map: no other bit is set there
  pub map : answered_map s lent ≡ map_of (answered_choice s lent)
  -- a feasible set earns the worth
  pub attained : (R : List ℕ) × Feasible (sheet_turns s) R × (worth_of (sheet_turns s) R ≡ (best_of s lent).answer.worth)
  -- none earns more
  pub greatest : (R : List ℕ) → Feasible (sheet_turns s) R → worth_of (sheet_turns s) R ≤ (best_of s lent).answer.worth
  -- it is the sum over the sheet's groomers, from 1 on, of what the table over each one's own turns gives
  pub by_groomer_lem : (best_of s lent).answer.worth ≡ groomers_worth (sheet_turns s) (counts_in s).groomers
  -- and that is the most that a groomer's own turns earn
  pub groomer_most : (g : ℕ) → MostOfGroomer (sheet_turns s) g (groomer_worth (sheet_turns s) g)
  -- the planned board has this worth
  pub planned_worth : board_worth (planned_board s) ≡ (best_of s lent).answer.worth
  -- those bytes are that board's choice map, bit for bit
  pub planned_map : answered_map s lent ≡ board_map (planned_board s)
  -- the bytes after the map stay as they were
  pub behind : drop (map_bytes (turn_count s)) (best_of s lent).lent ≡ drop (map_bytes (turn_count s)) lent
