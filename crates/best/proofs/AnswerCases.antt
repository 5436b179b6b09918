-- The entry's answer by its cases, each premise in the form in which the code's calls and tests leave it. Assumes nothing.
use Prim.Native.Nat.{ℕ, ◌<◌, ◌≤◌}
use mathlib.Core.Path.{◌≡◌, refl, sym, ap, ◌∙◌}
use mathlib.Core.Bool.{Bool, true, false, not}
use mathlib.Core.List.{List, [], ◌∷◌, ◌++◌}
use native.Mathlib.Omega.{arith}
use lib.ListN.{length, drop, replicate}
use Rattle.refusal.specs.Number.{buffer_too_small, not_single_turns}
use Rattle.refusal.specs.Cause.{Cause, ◌when◌, first_of}
use Rattle.sheet.specs.declared.answer.ReadAnswer.{ReadAnswer}
use Rattle.sheet.specs.Read.{turn_count}
use Rattle.choice_map.specs.Choice.{choice_in, map_bytes, map_of, Clean}
use Rattle.choice_map.proofs.Clean.{clean_map, zeros_clean, zeros_choice, map_length}
use Rattle.instance.specs.declared.columns.Size.{Size}
use Rattle.instance.specs.Columns.{turns_by}
use Rattle.instance_spec.specs.Problem.{sheet_turns}
use Rattle.instance.specs.Load.{shift_size, Loaded}
use Rattle.instance_spec.proofs.SheetTurns.{sheet_count}
use Rattle.instance.proofs.Rows.{count_is}
use Rattle.model.specs.Turns.{Turns}
use Rattle.best_spec.specs.declared.BestAnswer.{BestAnswer}
use Rattle.best_spec.specs.Table.{best_worth, best_choice}
use Rattle.best_spec.specs.Single.{single_turns}
use Rattle.best_spec.specs.Best.{best_causes, Earned, found, best_in, best_of, single_causes, best_refused}
use Rattle.best_spec.proofs.Optimal.{best_length}
use Rattle.refusal.specs.Outcome.{beside, unless, then_room}
use Rattle.refusal.proofs.Outcome.{unless_first, unless_same, tried_before, tried_behind, room_short, room_enough}
use Rattle.instance.proofs.Posed.{loaded_tried, loaded_turns}

-- ---- the map of the best set

module _ (p : Size) (cols map : List ℕ) {cleared : List ℕ} (l : length map ≡ map_bytes p.count) (e : cleared ≡ replicate (length map) 0) where
  pub cleared_clean : Clean p.count cleared
  cleared_clean = rw e (zeros_clean p.count (length map) l)

  pub cleared_none : choice_in p.count cleared ≡ replicate p.count false
  cleared_none = rw e (zeros_choice p.count (length map))

pub best_map : (p : Size) (cols : List ℕ) {map : List ℕ} → Clean p.count map → choice_in p.count map ≡ best_choice (turns_by p cols) → map ≡ map_of (best_choice (turns_by p cols))
best_map p cols {map} c e = clean_map p.count map c ∙ ap map_of e

pub ruleset best_map_cases = (cleared_clean, cleared_none, best_map)

-- ---- a problem's answer

module _ (p : Size) (cols lent : List ℕ) {size : ℕ} (m : size ≡ map_bytes p.count) where
  pub problem_small : {x : BestAnswer} → length lent < size → x ≡ best_refused buffer_too_small → beside x lent ≡ best_in (turns_by p cols) lent
  unfolding best_in turns_by first_of
  problem_small l h = rw h (sym (room_short [] (map_bytes p.count) (length lent) _ (λ k. beside (best_refused k) lent) refl refl (omega (arith, m))))

  map_places : length (map_of (best_choice (turns_by p cols))) ≡ size
  map_places = map_length (best_choice (turns_by p cols)) ∙ ap map_bytes (best_length (turns_by p cols) ∙ count_is p cols) ∙ sym m

  pub problem_done : {worth : ℕ} {map : List ℕ} → size ≤ length lent → worth ≡ best_worth (turns_by p cols) → map ≡ map_of (best_choice (turns_by p cols))
      → beside (record { refusal = 0; worth = worth }) (map ++ drop size lent) ≡ best_in (turns_by p cols) lent
  unfolding best_in first_of
  problem_done l h k =
      let T = turns_by p cols in
      rw (h, k, ← map_places) (sym (room_enough [] (map_bytes T.count) (length lent) (found T lent) (λ k. beside (best_refused k) lent) refl refl (omega (arith, m, ap map_bytes (count_is p cols)))))

pub ruleset problem_cases = (problem_small, problem_done)

-- ---- the answer

module _ (s cols lent : List ℕ) {r : ReadAnswer} (e : Loaded s r cols) where
  abbrev refused : ℕ → Earned
  refused k = beside (best_refused k) lent

  pub best_fault : {x : BestAnswer} → (r.refusal ≡ 0 → ⊥) → x ≡ best_refused r.refusal → beside x lent ≡ best_of s lent
  unfolding best_of best_causes single_causes
  best_fault f g = rw g (tried_before (loaded_tried s cols e) _ refused _ _ f)

  module _ (f : r.refusal ≡ 0) {p : Size} (q : p ≡ shift_size r.turns) {b : Bool} (g : b ≡ single_turns (turns_by p cols)) where
    -- what may be wrong then
    abbrev few : List Cause
    few = then_room [] (map_bytes (turn_count s)) (length lent)

    later : unless (not_single_turns when not b ∷ few) (found (sheet_turns s) lent) refused ≡ best_of s lent
    unfolding best_of best_causes single_causes
    later = rw (g, loaded_turns s cols e f q) (tried_behind (loaded_tried s cols e) _ refused (not_single_turns when not (single_turns (sheet_turns s)) ∷ []) few f)

    pub best_two : {x : BestAnswer} → b ≡ false → x ≡ best_refused not_single_turns → beside x lent ≡ best_of s lent
    unfolding first_of
    best_two z h = rw h (sym (unless_first (not_single_turns when not b ∷ few) (found (sheet_turns s) lent) refused not_single_turns (rw z) (omega arith)) ∙ later)

    pub best_found : {x : BestAnswer} {lent' : List ℕ} → b ≡ true → beside x lent' ≡ best_in (turns_by p cols) lent → beside x lent' ≡ best_of s lent
    unfolding best_in first_of
    best_found z h =
        h
        ∙ ap (λ (T : Turns). best_in T lent) (loaded_turns s cols e f q)
        ∙ ap (λ (n : ℕ). unless (then_room [] (map_bytes n) (length lent)) (found (sheet_turns s) lent) refused) (sheet_count s (e.posed f).sound)
        ∙ unless_same few (found (sheet_turns s) lent) refused (not_single_turns when not b ∷ few) (rw z)
        ∙ later
