-- The listing's answer by its cases, each premise in the form in which the code's calls and tests leave it. Assumes nothing.
use Prim.Native.Nat.{ℕ, ◌<◌, ◌≤◌}
use mathlib.Core.Path.{◌≡◌, refl, sym, ◌∙◌}
use mathlib.Core.List.{List, []}
use native.Mathlib.Omega.{arith}
use lib.ListN.{length, take}
use Rattle.refusal.specs.Number.{buffer_too_small}
use Rattle.refusal.specs.Cause.{first_of}
use Rattle.refusal.specs.Written.{Written, write_refused, wrote, kept, written_unless}
use Rattle.refusal.proofs.Outcome.{tried_stops, tried_goes}
use Rattle.refusal.proofs.Written.{kept_small, wrote_enough}
use Rattle.wire.specs.Number.{puts}
use Rattle.wire.proofs.Puts.{puts_front}
use Rattle.model.specs.Turns.{Turns, PositiveLengths}
use Rattle.model.specs.Pick.{steps}
use Rattle.model.specs.Ceiling.{ceiling}
use Rattle.model.specs.Choice.{choice}
use Rattle.model.proofs.Promised.{planned_keeps}
use Rattle.sheet.specs.declared.answer.ReadAnswer.{ReadAnswer}
use Rattle.choice_map.specs.Choice.{choice_in, Clean}
use Rattle.board.specs.Board.{board_tally, board_worth, board_map}
use Rattle.board_open.proofs.OpenCauses.{formed_clean}
use Rattle.instance.specs.declared.columns.Size.{Size}
use Rattle.instance.specs.Columns.{turns_by, Held}
use Rattle.instance.specs.Load.{shift_size, Loaded}
use Rattle.instance.proofs.Rows.{lengths_are}
use Rattle.plan_spec.specs.Plan.{board_for}
use Rattle.plan_spec.proofs.Boards.{planned_bytes}
use Rattle.list_spec.specs.declared.Sums.{Sums}
use Rattle.list_spec.specs.Text.{listing_of}
use Rattle.list.specs.Ready.{Ready}
use Rattle.list_spec.specs.Limits.{listing_bytes}
use Rattle.refusal.specs.declared.WriteAnswer.{WriteAnswer}
use Rattle.list_spec.specs.List.{sums_for, listing_for, sheet_listing, list_causes, list_of}
use Rattle.list_spec.specs.Answer.{text_answer}
use Rattle.refusal.specs.Outcome.{beside}
use Rattle.list_spec.proofs.Rounds.{apart_starts}
use Rattle.list_spec.proofs.Bytes.{listing_bytes_lem}
use Rattle.instance.proofs.Posed.{loaded_tried, loaded_turns}
use Rattle.plan.proofs.Space.{board_reads, board_opens, board_header_lem, board_count, board_choice_lem, front_holds, front_is, front_part}

-- ---- a text into lent bytes

module _ (text lent : List ℕ) {bytes : ℕ} (e : bytes ≡ length text) where
  pub text_small : {x : WriteAnswer} → length lent < bytes → x ≡ write_refused buffer_too_small → beside x lent ≡ text_answer text lent
  unfolding text_answer first_of
  text_small h g = rw g (sym (kept_small [] _ _ lent refl refl (omega arith)))

  pub text_wrote : {lent' : List ℕ} → bytes ≤ length lent → lent' ≡ puts lent 0 text → beside (record { refusal = 0; bytes = bytes }) lent' ≡ text_answer text lent
  unfolding text_answer first_of
  text_wrote h g = rw (e, g, puts_front text lent (omega arith)) (sym (wrote_enough [] _ text lent refl refl (omega arith)))

module _ (text space : List ℕ) (short : length text ≤ listing_bytes) (room : listing_bytes ≤ length space) {bytes : ℕ} {b : List ℕ} (e : bytes ≡ length text) (f : b ≡ puts space 0 text) where
  held : length text ≤ length space
  held = omega arith

  pub copy_holds : bytes ≤ length b
  copy_holds = front_holds text space held e f

  pub copy_part : bytes ≡ length (take bytes b)
  copy_part = front_part text space held e f

  pub copied_done : (lent : List ℕ) {lent' : List ℕ} → bytes ≤ length lent → lent' ≡ puts lent 0 (take bytes b) → beside (record { refusal = 0; bytes = bytes }) lent' ≡ text_answer text lent
  copied_done lent h g = text_wrote text lent e h (rw (front_is text space held e f) at g)

pub ruleset text_cases = (text_small, copy_holds, copy_part, copied_done)

-- ---- the planner's board and its sums

module _ (size : Size) (cols b : List ℕ) (e : b ≡ board_for (turns_by size cols)) (held : Held size cols) {map : List ℕ} (q : map ≡ board_map b) where
  abbrev T : Turns
  T = turns_by size cols

  lengths : PositiveLengths T
  lengths = lengths_are size cols held

  choice_is : choice_in size.count map ≡ choice T
  choice_is = board_choice_lem size cols b held e q

  map_clean : Clean size.count map
  map_clean = rw q (rw (board_count size cols b held e) at (formed_clean b (board_opens size cols b held e) (rw e (planned_bytes T))))

  pub board_ready : Ready size cols map
  board_ready = record { held = held; clean = map_clean; apart = rw choice_is (apart_starts T (choice T) (planned_keeps T lengths).apart lengths) }

  module _ (groomers : ℕ) {worth tallied limit : ℕ} (w : worth ≡ board_worth b) (t : tallied ≡ board_tally b) (l : limit ≡ ceiling (turns_by size cols) (steps (turns_by size cols))) where
    abbrev sums : Sums
    sums = record { worth = worth; tally = tallied; ceiling = limit }

    listing_is : listing_of groomers T (choice_in size.count map) sums ≡ listing_for groomers T
    unfolding listing_for sums_for
    listing_is = let planned = board_reads size cols b held e in rw (choice_is, w, t, l, planned.worth, planned.tallied)

    pub sums_fit : length (listing_for groomers (turns_by size cols)) ≤ listing_bytes → length (listing_of groomers (turns_by size cols) (choice_in size.count map) sums) ≤ listing_bytes
    sums_fit g = rw listing_is g

    pub sums_answer : {x : Written} (lent : List ℕ) → x ≡ text_answer (listing_of groomers (turns_by size cols) (choice_in size.count map) sums) lent → x ≡ text_answer (listing_for groomers (turns_by size cols)) lent
    sums_answer lent g = rw listing_is at g

pub ruleset sums_cases = (board_opens, board_ready, board_header_lem, sums_fit, sums_answer)

-- ---- the entry

module _ (s cols lent : List ℕ) {r : ReadAnswer} (e : Loaded s r cols) where
  pub list_fault : {x : WriteAnswer} → (r.refusal ≡ 0 → ⊥) → x ≡ write_refused r.refusal → beside x lent ≡ list_of s lent
  unfolding list_of list_causes written_unless
  list_fault f g = rw g (tried_stops (loaded_tried s cols e) _ (λ k. kept k lent) _ f)

  module _ (f : r.refusal ≡ 0) {p : Size} (q : p ≡ shift_size r.turns) where
    listing_same : listing_for r.groomers (turns_by p cols) ≡ sheet_listing s
    unfolding sheet_listing
    listing_same = rw (loaded_turns s cols e f q, (e.posed f).groomers)

    pub list_short : length (listing_for r.groomers (turns_by p cols)) ≤ listing_bytes
    list_short = rw listing_same (listing_bytes_lem s (e.posed f).sound)

    -- what is left to refuse is too few lent bytes
    pub list_done : {x : Written} → x ≡ text_answer (listing_for r.groomers (turns_by p cols)) lent → x ≡ list_of s lent
    unfolding text_answer list_of list_causes written_unless
    list_done g = (rw listing_same at g) ∙ tried_goes (loaded_tried s cols e) (wrote (sheet_listing s) lent) (λ k. kept k lent) f _
