-- The planned board read back, and another choice written into it, each premise in the form in which the code leaves it. Assumes nothing.
use Prim.Native.Nat.{ℕ, ◌+◌, ◌≤◌}
use mathlib.Core.Path.{◌≡◌, refl, sym, ap, ◌∙◌}
use mathlib.Core.List.{List, ◌++◌, append_assoc}
use mathlib.Core.Bool.{Bool}
use native.Mathlib.Omega.{arith}
use lib.ListN.{length, take, drop, length-append}
use lib.Seq.{take_at, take-append_seam, drop-append-add, drop-append_seam}
use Rattle.wire.specs.Number.{bytes_of, puts}
use Rattle.wire.proofs.Puts.{puts_at, puts_front, puts_length, puts_append}
use Rattle.model.specs.Turns.{Turns}
use Rattle.model.specs.Steps.{tally}
use Rattle.model.specs.Pick.{steps}
use Rattle.model.specs.Choice.{chosen, choice, worth_of_choice}
use Rattle.choice_map.specs.Choice.{map_bytes, choice_in, map_of, Clean}
use Rattle.choice_map.proofs.Clean.{map_length, map_choice, map_clean}
use Rattle.board.specs.Board.{worth_place, board_header, board_worth, board_map, board_length, step_bytes, count_bytes, head_bytes}
use Rattle.board_open.proofs.Written.{board_parts, map_read}
use Rattle.instance.specs.declared.columns.Size.{Size}
use Rattle.instance.specs.Columns.{turns_by, Held}
use Rattle.instance.proofs.Rows.{count_is}
use Rattle.plan_spec.specs.Plan.{board_for}
use Rattle.plan_spec.proofs.Boards.{board_most, ReadsBack, board_back}
use Rattle.refusal.specs.Written.{at_front}
use Rattle.refine_spec.specs.Refine.{board_with}
use Rattle.refine_spec.proofs.Boards.{with_size, with_most}
use Rattle.plan.proofs.Space.{board_opens, board_header_lem}
use Rattle.model.proofs.Promised.{planned_length}

-- ---- what the planned board has

module _ (p : Size) (cols b : List ℕ) (held : Held p cols) (e : b ≡ board_for (turns_by p cols)) where
  abbrev T : Turns
  T = turns_by p cols

  back : ReadsBack T b
  back = rw e (board_back T (omega (arith, count_is p cols, held.few)) (λ t h. held.worths t (omega (arith, count_is p cols))))

  pub plan_worth : {w : ℕ} → w ≡ board_worth b → w ≡ worth_of_choice (turns_by p cols) (choice (turns_by p cols))
  plan_worth h = h ∙ back.worth

  choice_size : length (choice T) ≡ p.count
  choice_size = planned_length T ∙ count_is p cols

  map_of_lem : board_map b ≡ map_of (choice T)
  unfolding board_for
  map_of_lem = rw e (map_read (choice T) (steps T) (tally (steps T)) (chosen T.count (choice T) T.worth) (omega (arith, choice_size, held.few)))

  map_size : length (board_map b) ≡ map_bytes p.count
  map_size = ap (λ (l : List ℕ). length l) map_of_lem ∙ map_length (choice T) ∙ ap map_bytes choice_size

  module _ (map : List ℕ) (l : length map ≡ map_bytes p.count) where
    pub plan_room : {m : List ℕ} → m ≡ board_map b → length map ≡ length m
    plan_room h = rw h (omega (arith, map_size))

  module _ {m map' : List ℕ} (h : m ≡ board_map b) (q : map' ≡ m) where
    copied : map' ≡ map_of (choice T)
    copied = q ∙ h ∙ map_of_lem

    pub plan_choice : choice_in p.count map' ≡ choice (turns_by p cols)
    plan_choice = rw copied (rw choice_size at (map_choice (choice T)))

    pub plan_clean : Clean p.count map'
    plan_clean = rw copied (rw choice_size at (map_clean (choice T)))

pub ruleset plan_cases = (board_opens, board_header_lem, plan_worth, plan_room, plan_choice, plan_clean)

-- ---- at the front of lent bytes

module _ (p : Size) (cols lent : List ℕ) (room : board_length p.count p.count ≤ length lent) {bytes : ℕ} {b : List ℕ} (e : bytes ≡ length (board_for (turns_by p cols))) (f : b ≡ puts lent 0 (board_for (turns_by p cols))) where
  board_held : length (board_for (turns_by p cols)) ≤ length lent
  board_held = omega (arith, board_most (turns_by p cols), count_is p cols)

  pub lent_holds : bytes ≤ length b
  lent_holds = rw f (omega (arith, puts_length (board_for (turns_by p cols)) lent 0, board_held, e))

  pub lent_front : take bytes b ≡ board_for (turns_by p cols)
  lent_front = rw (f, puts_front (board_for (turns_by p cols)) lent board_held) (take_at (board_for (turns_by p cols)) (drop (length (board_for (turns_by p cols))) lent) bytes (sym e))

  pub lent_part : bytes ≡ length (take bytes b)
  lent_part = rw lent_front e

pub ruleset lent_cases = (lent_holds, lent_front, lent_part)

-- ---- another choice

pub written_choice : (out map : List ℕ) (worth : ℕ) {out₁ out₂ : List ℕ} → out₁ ≡ puts out worth_place (bytes_of 4 worth) → out₂ ≡ puts out₁ board_header map → out₂ ≡ puts out worth_place (bytes_of 4 worth ++ map)
written_choice out map worth e f = f ∙ rw e (puts_append (bytes_of 4 worth) map out worth_place board_header refl)

-- what stands between two parts gives place to as much
put_between : (a b c other : List ℕ) → length b ≡ length other → puts (a ++ (b ++ c)) (length a) other ≡ a ++ (other ++ c)
put_between a b c other l =
    let room : length a + length other ≤ length (a ++ (b ++ c)) = omega (arith, length-append a (b ++ c), length-append b c) in
    let d : drop (length a + length other) (a ++ (b ++ c)) ≡ c = drop-append-add a (b ++ c) (length other) ∙ rw (sym l) (drop-append_seam b c) in
    puts_at other (a ++ (b ++ c)) (length a) room ∙ rw (take-append_seam a (b ++ c), d) (append_assoc a other c)

-- a board in three parts: up to the worth, worth and map, the steps
module _ (T : Turns) where
  abbrev ahead : List Bool → List ℕ
  ahead S = count_bytes (length S) (length (steps T)) ++ bytes_of 4 (tally (steps T))

  abbrev changing : List Bool → List ℕ
  changing S = bytes_of 4 (worth_of_choice T S) ++ map_of S

  regrouped : (a b c d e : List ℕ) → (a ++ (b ++ c)) ++ (d ++ e) ≡ (a ++ b) ++ ((c ++ d) ++ e)
  regrouped a b c d e = simp append_assoc

  three_parts : (S : List Bool) → board_with T S ≡ ahead S ++ (changing S ++ step_bytes (steps T))
  unfolding board_with head_bytes
  three_parts S =
      board_parts S (steps T) (tally (steps T)) (worth_of_choice T S)
      ∙ regrouped (count_bytes (length S) (length (steps T))) (bytes_of 4 (tally (steps T))) (bytes_of 4 (worth_of_choice T S)) (map_of S) (step_bytes (steps T))

  ahead_length : (S : List Bool) → length (ahead S) ≡ worth_place
  unfolding count_bytes
  ahead_length S = refl

  changing_length : (S : List Bool) → length (changing S) ≡ 4 + map_bytes (length S)
  changing_length S = length-append (bytes_of 4 (worth_of_choice T S)) (map_of S) ∙ ap (λ (n : ℕ). 4 + n) (map_length S)

  module _ (S other : List Bool) (size : length S ≡ T.count) (same : length other ≡ T.count) where
    pub changed_size : length (board_with T S) ≡ length (board_with T other)
    changed_size = with_size T S size ∙ sym (with_size T other same)

    pub board_changed : (lent : List ℕ) → board_length T.count T.count ≤ length lent → puts (puts lent 0 (board_with T S)) worth_place (bytes_of 4 (worth_of_choice T other) ++ map_of other) ≡ at_front (board_with T other) lent
    board_changed lent room =
        let rest = drop (length (board_with T S)) lent in
        let k : length S ≡ length other = size ∙ sym same in
        let l : length (changing S) ≡ length (changing other) = changing_length S ∙ rw k (sym (changing_length other)) in
        let written : puts lent 0 (board_with T S) ≡ ahead S ++ (changing S ++ (step_bytes (steps T) ++ rest)) =
        puts_front (board_with T S) lent (omega (arith, with_most T S size)) ∙ ap (λ (v : List ℕ). v ++ rest) (three_parts S)
        ∙ append_assoc (ahead S) (changing S ++ step_bytes (steps T)) rest ∙ ap (λ (v : List ℕ). ahead S ++ v) (append_assoc (changing S) (step_bytes (steps T)) rest) in
        let put : puts (ahead S ++ (changing S ++ (step_bytes (steps T) ++ rest))) worth_place (changing other) ≡ ahead S ++ (changing other ++ (step_bytes (steps T) ++ rest)) =
        rw (sym (ahead_length S)) (put_between (ahead S) (changing S) (step_bytes (steps T) ++ rest) (changing other) l) in
        let read : at_front (board_with T other) lent ≡ ahead S ++ (changing other ++ (step_bytes (steps T) ++ rest)) =
        ap (λ (v : List ℕ). v ++ drop (length (board_with T other)) lent) (three_parts other) ∙ rw (sym changed_size, sym k)
        (append_assoc (ahead S) (changing other ++ step_bytes (steps T)) rest ∙ ap (λ (v : List ℕ). ahead S ++ v) (append_assoc (changing other) (step_bytes (steps T)) rest)) in
        ap (λ (v : List ℕ). puts v worth_place (changing other)) written ∙ put ∙ sym read
