-- The listing of every sheet that is not refused: what its rounds have, how many turn lines there are; and its refusals. Assumes nothing.
use Prim.Native.Nat.{ℕ, ◌+◌, ◌<◌, ◌≤◌}
use mathlib.Core.Path.{◌≡◌, sym, ◌∙◌, ap}
use mathlib.Core.List.{List}
use mathlib.Core.Logic.{◌↔◌}
use native.Mathlib.Omega.{arith}
use lib.ListN.{length}
use Rattle.refusal.specs.Cause.{first_of}
use Rattle.refusal.specs.Written.{kept}
use Rattle.refusal.proofs.Written.{written_number, written_iff, written_not}
use Rattle.wire.specs.Number.{Bytes}
use Rattle.lists.specs.Lists.{sum_over, below}
use Rattle.model.specs.Turns.{Turns, PositiveLengths}
use Rattle.model.specs.Choice.{choice}
use Rattle.model.specs.Pick.{steps}
use Rattle.model.proofs.Promised.{planned_keeps, planned_length}
use Rattle.sheet.specs.Read.{counts_in, turn_count, sheet_causes}
use Rattle.sheet.specs.Accepted.{Accepted}
use Rattle.sheet.proofs.Accepting.{lent_accepted_iff}
use Rattle.sheet.proofs.ReadCauses.{lent_tell}
use Rattle.sheet.proofs.Unrefused.{few_turns}
use Rattle.choice_map.specs.Choice.{map_of, ones_in}
use Rattle.board.specs.Board.{board_map}
use Rattle.board_open.proofs.Written.{map_read}
use Rattle.instance_spec.specs.Problem.{sheet_turns}
use Rattle.instance_spec.proofs.SheetTurns.{sheet_count, sheet_starts, sheet_lengths, sheet_ends, sheet_groomers}
use Rattle.plan_spec.specs.Plan.{board_for, planned_board}
use Rattle.turn.specs.Turn.{shift_minutes}
use Rattle.list_spec.specs.Round.{round_of, Round, StartsApart}
use Rattle.list_spec.specs.List.{sheet_listing, list_causes, list_of, FirstListCause}
use Rattle.list_spec.proofs.Rounds.{apart_starts, round_is, rounds_ones}

module _ (s : List ℕ) (z : first_of (sheet_causes s) ≡ 0) where
  abbrev T : Turns
  T = sheet_turns s

  pub below_count : (u : ℕ) → u < T.count → u < turn_count s
  below_count u h = omega (arith, sheet_count s z)

  lengths : PositiveLengths T
  lengths = sheet_lengths s z

  pub starts : (u : ℕ) → u < T.count → T.start u < shift_minutes
  starts u h = omega (arith, sheet_starts s z u (below_count u h), sheet_ends s z u (below_count u h))

  apart : StartsApart T (choice T)
  apart = apart_starts T (choice T) (planned_keeps T lengths).apart lengths

  -- each chosen turn stands once, under its groomer, by start
  pub sheet_rounds : (h : ℕ) → Round T (choice T) h (round_of T (choice T) h)
  sheet_rounds h = round_is T (choice T) h apart starts

  pub from_1 : (u : ℕ) → u < T.count → 1 ≤ T.groomer u
  from_1 u h = (sheet_groomers s z u (below_count u h)).0

  pub to_most : (u : ℕ) → u < T.count → T.groomer u ≤ (counts_in s).groomers
  to_most u h = (sheet_groomers s z u (below_count u h)).1

  map_is : board_map (planned_board s) ≡ map_of (choice T)
  unfolding planned_board board_for
  map_is = map_read (choice T) (steps T) _ _ (omega (arith, planned_length T, sheet_count s z, few_turns s z))

  -- there are as many turn lines as ones in the map of the planner's board
  pub sheet_lines : sum_over (λ k. length (round_of T (choice T) (k + 1))) (below (counts_in s).groomers) ≡ ones_in (board_map (planned_board s))
  sheet_lines = rounds_ones T (choice T) (counts_in s).groomers (planned_length T) from_1 to_most starts ∙ sym (ap ones_in map_is)

-- ---- refused

pub list_number : (s lent : List ℕ) → (list_of s lent).answer.refusal ≡ first_of (list_causes s (length lent))
unfolding list_of
list_number s lent = written_number (list_causes s (length lent)) _ lent

-- the listing's number is that of the first cause there
pub list_refused_iff : (s lent : List ℕ) (k : ℕ) → (k ≡ 0 → ⊥) → ((list_of s lent).answer.refusal ≡ k) ↔ FirstListCause s (length lent) k
unfolding list_of list_causes
list_refused_iff s lent = written_iff (list_causes s (length lent)) _ lent (lent_tell s (length (sheet_listing s)) (length lent))

-- a refusal leaves the lent bytes as they were, and says that none is written
pub list_unchanged : (s lent : List ℕ) → ((list_of s lent).answer.refusal ≡ 0 → ⊥) → list_of s lent ≡ kept (list_of s lent).answer.refusal lent
unfolding list_of
list_unchanged s lent = written_not (list_causes s (length lent)) _ lent

-- the listing refuses nothing just if the sheet is accepted and the lent bytes hold this very listing
pub list_accepted_iff : {s : List ℕ} → Bytes s → (lent : List ℕ) → ((list_of s lent).answer.refusal ≡ 0) ↔ (Accepted s × (length (sheet_listing s) ≤ length lent))
unfolding list_causes
list_accepted_iff {s} b lent = lent_accepted_iff b (length (sheet_listing s)) (length lent) (list_number s lent)
