-- What is judged before the first minute, and the entry's answer, by cases; each premise in the form in which the code's calls and tests leave it. Assumes nothing.
use Prim.Native.Nat.{ℕ, suc, ◌*◌, ◌≤◌, ◌<◌}
use mathlib.Core.Path.{◌≡◌, refl, sym, ◌∙◌, ap, subst}
use mathlib.Core.Bool.{Bool, true, false, ◌&&◌}
use mathlib.Core.List.{List, [], ◌∷◌, ◌++◌}
use native.Mathlib.Omega.{arith}
use native.Mathlib.Decide.{ℕ_discrete}
use lib.Dec.{eqb}
use lib.ListN.{length, drop}
use borrow.Author.Tests.{eq-eqb, ne_eqb, eqb-true}
use Rattle.lists.specs.Lists.{tab}
use Rattle.lists.proofs.Bools.{and_1, and_2}
use Rattle.refusal.specs.Number.{buffer_too_small, bad_delays}
use Rattle.refusal.specs.Cause.{Cause, first_of}
use Rattle.refusal.specs.Outcome.{beside}
use Rattle.refusal.proofs.Order.{first_stops, first_goes}
use Rattle.turn.specs.Turn.{shift_minutes}
use Rattle.sheet.specs.Kind.{most_groomers}
use Rattle.sheet.specs.declared.answer.ReadAnswer.{ReadAnswer}
use Rattle.sheet.specs.Read.{counts_in, turn_count, sheet_causes}
use Rattle.sheet.proofs.Readings.{sheet_numbered}
use Rattle.sheet.proofs.Unrefused.{few_groomers}
use Rattle.model.specs.Turns.{Turns}
use Rattle.choice_map.specs.Choice.{map_bytes, choice_in}
use Rattle.board.specs.Board.{board_turns, board_map, board_choice}
use Rattle.board_open.specs.Open.{malformed}
use Rattle.instance.specs.declared.columns.Size.{Size}
use Rattle.instance.specs.Columns.{turns_by, Held}
use Rattle.instance_spec.specs.Problem.{shift_gap, sheet_turns}
use Rattle.instance.specs.Load.{shift_size, Loaded}
use Rattle.instance.proofs.Rows.{count_is, gap_is, lengths_are}
use Rattle.instance_spec.proofs.SheetTurns.{sheet_count, sheet_groomers}
use Rattle.model.specs.Rules.{Independent}
use Rattle.model.proofs.Readings.{independent_is}
use Rattle.play_spec.proofs.Delayed.{taken_few}
use Rattle.check_spec.specs.Check.{board_causes, check_causes}
use Rattle.check_spec.proofs.Passing.{board_clear, board_numbered}
use Rattle.play_spec.specs.Day.{delay_in, delays_fit, day_of}
use Rattle.play_spec.specs.DayTable.{DelaysFit, Days}
use Rattle.play_spec.proofs.Delays.{fit_delays}
use Rattle.play_spec.specs.declared.Standing.{Standing}
use Rattle.play_spec.specs.declared.PlayAnswer.{PlayAnswer}
use Rattle.play.specs.declared.preparing.Prepared.{Prepared}
use Rattle.play.specs.declared.preparing.Lent.{Lent}
use Rattle.play.specs.Table.{blank_table, GroomersKnown, Playable}
use Rattle.play.proofs.Rows.{blank_places}
use Rattle.play_spec.specs.Standing.{standing_after}
use Rattle.play_spec.specs.Play.{serves_for, lent_causes, play_causes, day_at, standings_of, play_refused, play_of}
use Rattle.play_spec.specs.Minutes.{minutes_from}
use Rattle.play.specs.Prepared.{PreparedBy, PreparedFor}
use Rattle.play_spec.proofs.ListedStandings.{minutes_say}
use Rattle.play_spec.proofs.LentCauses.{by_delays, by_places, by_none}
use Rattle.refusal.proofs.Outcome.{unless_first, unless_none}
use Rattle.instance.proofs.Posed.{loaded_turns, loaded_count}

-- ---- the delays' test

pub serves_other : (n : ℕ) (delays : List ℕ) → (length delays ≡ n → ⊥) → false ≡ serves_for n delays
unfolding serves_for
serves_other n delays e = rw (ne_eqb (length delays) n e)

pub serves_same : (n : ℕ) (delays : List ℕ) {b : Bool} → length delays ≡ n → b ≡ delays_fit delays (length delays) → b ≡ serves_for n delays
unfolding serves_for
serves_same n delays e f = rw (eq-eqb (length delays) n e) f

pub ruleset serves_cases = (serves_other, serves_same)

-- ---- the number of the first cause

append_assoc : (xs ys zs : List Cause) → (xs ++ ys) ++ zs ≡ xs ++ (ys ++ zs)
append_assoc [] ys zs = refl
append_assoc (x ∷ xs) ys zs = ap (λ (ws : List Cause). x ∷ ws) (append_assoc xs ys zs)

-- ---- what is prepared

abbrev Refused : Prepared → ℕ → Type 0
Refused p k = (p.refusal ≡ k) × (p.groomers ≡ 0) × (p.moved ≡ 0) × (p.minutes ≡ 0)

given : (causes : List Cause) (T : Turns) (lent : Lent) (S : List Bool) (delays : List ℕ) (k : ℕ) (p : Prepared) (table : List ℕ) → first_of causes ≡ k → (k ≡ 0 → ⊥) → table ≡ blank_table → Refused p k → PreparedBy causes T lent S delays p table
given causes T lent S delays k p table e z b q = record {
  number = q.0 ∙ sym e;
  none = λ _. (q.1, q.3);
  all = λ y. absurd (z (sym q.0 ∙ y));
  days = λ y. absurd (z (sym q.0 ∙ y));
  places_are = blank_places b;
  moved_are = q.2 ∙ sym q.1;
  few = omega (arith, q.2);
  inside = omega (arith, q.2);
  most = omega (arith, q.3);
}

-- the same where causes that are not there stand in front
carried : (front causes : List Cause) (T : Turns) (lent : Lent) (S : List Bool) (delays : List ℕ) (p : Prepared) (table : List ℕ) → first_of front ≡ first_of causes → PreparedBy causes T lent S delays p table → PreparedBy front T lent S delays p table
carried front causes T lent S delays p table e w = record {
  number = w.number ∙ sym e;
  none = w.none;
  all = w.all;
  days = w.days;
  places_are = w.places_are;
  moved_are = w.moved_are;
  few = w.few;
  inside = w.inside;
  most = w.most;
}

-- ---- as the code leaves it: for a board that passes

module _ (p : Size) (cols : List ℕ) (lent : Lent) (b delays : List ℕ) where
  abbrev its : List Cause
  its = lent_causes lent.groomers p.count delays lent.places

  pub days_delays : (x : Prepared) (table : List ℕ) {c : Bool} → c ≡ serves_for p.count delays → c ≡ false → table ≡ blank_table → Refused x bad_delays → PreparedBy (lent_causes lent.groomers p.count delays lent.places) (turns_by p cols) lent (board_choice b) delays x table
  days_delays x table d f o r = given its (turns_by p cols) lent (board_choice b) delays bad_delays x table (by_delays lent.groomers p.count delays lent.places (sym d ∙ f)) (λ n. omega (arith, n)) o r

  pub days_small : (x : Prepared) (table : List ℕ) {c : Bool} → c ≡ serves_for p.count delays → c ≡ true → lent.places < lent.groomers → table ≡ blank_table → Refused x buffer_too_small → PreparedBy (lent_causes lent.groomers p.count delays lent.places) (turns_by p cols) lent (board_choice b) delays x table
  days_small x table d f l o r = given its (turns_by p cols) lent (board_choice b) delays buffer_too_small x table (by_places lent.groomers p.count delays lent.places (sym d ∙ f) l) (λ n. omega (arith, n)) o r

  pub days_done : {c : Bool} {map table : List ℕ} → c ≡ serves_for p.count delays → c ≡ true → lent.groomers ≤ lent.places → lent.groomers ≤ most_groomers → board_turns b ≡ p.count → map ≡ board_map b → Days (turns_by p cols) (choice_in p.count map) (delay_in delays) table
      → PreparedBy (lent_causes lent.groomers p.count delays lent.places) (turns_by p cols) lent (board_choice b) delays (record { refusal = 0; groomers = lent.groomers; moved = lent.groomers; minutes = shift_minutes }) table
  unfolding board_choice
  days_done d f l few n m t = record {
    number = sym (by_none lent.groomers p.count delays lent.places (sym d ∙ f) l);
    none = λ z. absurd (z refl);
    all = λ _. (refl, refl);
    days = λ _. rw (n, ← m) t;
    places_are = t.places;
    moved_are = refl;
    few = few;
    inside = l;
    most = omega arith;
  }

  pub days_bits : (map : List ℕ) → board_turns b ≡ p.count → length map ≡ map_bytes (board_turns b) → p.count ≤ 8 * length map
  days_bits map n l = omega (arith, l, n)

  pub days_playable : (map : List ℕ) → board_turns b ≡ p.count → map ≡ board_map b → Playable (turns_by p cols) (board_choice b) → Playable (turns_by p cols) (choice_in p.count map)
  unfolding board_choice
  days_playable map n m w =
      let e : choice_in (board_turns b) (board_map b) ≡ choice_in p.count map = λ i. choice_in (n i) (sym m i) in
      subst (Playable (turns_by p cols)) e w

  pub days_fit : {c : Bool} → c ≡ serves_for p.count delays → c ≡ true → DelaysFit delays p.count
  unfolding serves_for
  days_fit d f =
      let t : (eqb (length delays) p.count && delays_fit delays (length delays)) ≡ true = sym d ∙ f in
      let k : length delays ≡ p.count = eqb-true (length delays) p.count (and_1 (eqb (length delays) p.count) (delays_fit delays (length delays)) t) in
      fit_delays delays p.count (sym k) (ap (delays_fit delays) (sym k) ∙ and_2 (eqb (length delays) p.count) (delays_fit delays (length delays)) t)

pub ruleset days_cases = (days_delays, days_small, days_done, days_bits, days_playable, days_fit)

-- ---- for a board and a problem

module _ (T : Turns) (b : List ℕ) (e : 0 ≡ first_of (board_causes T b)) where
  pub board_formed : malformed b ≡ false
  board_formed = (board_clear T b (sym e)).formed

  pub board_counted : board_turns b ≡ T.count
  board_counted = (board_clear T b (sym e)).counted

  pub board_passes : (causes : List Cause) (lent : Lent) (S : List Bool) (delays : List ℕ) (x : Prepared) (table : List ℕ) → PreparedBy causes T lent S delays x table → PreparedBy (board_causes T b ++ causes) T lent S delays x table
  board_passes causes lent S delays x table w = carried (board_causes T b ++ causes) causes T lent S delays x table (first_goes (board_causes T b) causes (board_numbered T b) (sym e)) w

pub board_refused : (T : Turns) (b : List ℕ) (causes : List Cause) (lent : Lent) (S : List Bool) (delays : List ℕ) (x : Prepared) (table : List ℕ) {f : ℕ} → f ≡ first_of (board_causes T b) → (f ≡ 0 → ⊥) → table ≡ blank_table → Refused x f → PreparedBy (board_causes T b ++ causes) T lent S delays x table
board_refused T b causes lent S delays x table {f} e z o r = given (board_causes T b ++ causes) T lent S delays f x table (first_stops (board_causes T b) causes f (sym e) z) z o r

pub board_size : (p : Size) (cols b : List ℕ) → 0 ≡ first_of (board_causes (turns_by p cols) b) → board_turns b ≡ p.count
board_size p cols b e = board_counted (turns_by p cols) b e ∙ count_is p cols

-- what a board that passes gives for its days: its turns leave ten minutes to each other
pub board_playable : (p : Size) (cols b : List ℕ) → 0 ≡ first_of (board_causes (turns_by p cols) b) → Held p cols → p.gap ≡ shift_gap → GroomersKnown (turns_by p cols) → Playable (turns_by p cols) (board_choice b)
board_playable p cols b e h gap known =
    let T : Turns = turns_by p cols in
    let apart : Independent T (board_choice b) = (independent_is T (board_choice b) (lengths_are p cols h)).0 (board_clear T b (sym e)).apart in
    record { known = known; rows = λ g i. taken_few T (board_choice b) (suc g) apart (lengths_are p cols h) (omega (arith, gap_is p cols, gap)) (λ t l. h.ends t (omega (arith, l, count_is p cols))) i }

pub ruleset board_cases = (board_formed, board_size, board_playable)

-- ---- for a sheet

module _ (s b delays cols : List ℕ) (places : ℕ) {a : ReadAnswer} (e : Loaded s a cols) where
  pub sheet_refused : (x : Prepared) (table : List ℕ) → (a.refusal ≡ 0 → ⊥) → table ≡ blank_table → Refused x a.refusal → PreparedFor s b delays places x table
  unfolding play_causes check_causes
  sheet_refused x table z o r =
      given (play_causes s b delays places) (sheet_turns s) (record { groomers = (counts_in s).groomers; places = places }) (board_choice b) delays a.refusal x table
      (first_stops (sheet_causes s ++ board_causes (sheet_turns s) b) _ a.refusal (first_stops (sheet_causes s) (board_causes (sheet_turns s) b) a.refusal (sym e.refusal) z) z) z o r

module _ (s cols : List ℕ) {a : ReadAnswer} (e : Loaded s a cols) (y : a.refusal ≡ 0) where
  groomers_of : a.groomers ≡ (counts_in s).groomers
  groomers_of = (e.posed y).groomers

  pub sheet_few : a.groomers ≤ most_groomers
  sheet_few = omega (arith, groomers_of, few_groomers s (e.posed y).sound)

  module _ {p : Size} (q : p ≡ shift_size a.turns) where
    turns_are : turns_by p cols ≡ sheet_turns s
    turns_are = loaded_turns s cols e y q

    size_is : p.count ≡ turn_count s
    size_is = loaded_count s cols e y q

    pub sheet_gap : p.gap ≡ shift_gap
    sheet_gap = ap (λ (x : Size). x.gap) q

    pub sheet_known : GroomersKnown (turns_by p cols)
    sheet_known = rw turns_are (record { each = λ t l. let r = sheet_groomers s (e.posed y).sound t (omega (arith, l, sheet_count s (e.posed y).sound)) in (r.0, omega (arith, r.1, few_groomers s (e.posed y).sound)) })

    pub sheet_prepared : (b delays : List ℕ) (places : ℕ) (x : Prepared) (table : List ℕ) → PreparedBy (board_causes (turns_by p cols) b ++ lent_causes a.groomers p.count delays places) (turns_by p cols) (record { groomers = a.groomers; places = places }) (board_choice b) delays x table → PreparedFor s b delays places x table
    unfolding play_causes check_causes
    sheet_prepared b delays places x table v =
        let lent : Lent = record { groomers = (counts_in s).groomers; places = places } in
        let v' : PreparedBy (board_causes (sheet_turns s) b ++ lent_causes (counts_in s).groomers (turn_count s) delays places) (sheet_turns s) lent (board_choice b) delays x table = rw (turns_are, groomers_of, size_is) at v in
        carried ((sheet_causes s ++ board_causes (sheet_turns s) b) ++ lent_causes (counts_in s).groomers (turn_count s) delays places) _ (sheet_turns s) lent (board_choice b) delays x table
        (ap first_of (append_assoc (sheet_causes s) (board_causes (sheet_turns s) b) (lent_causes (counts_in s).groomers (turn_count s) delays places)) ∙ first_goes (sheet_causes s) _ (sheet_numbered s) (e.posed y).sound) v'

-- ---- the entry

-- the standings of the first k groomers
abbrev standings_up_to : List ℕ → List ℕ → List ℕ → ℕ → List Standing
standings_up_to s b delays k = tab k (λ g. standing_after (day_of (sheet_turns s) (board_choice b) (delay_in delays) (suc g)) shift_minutes)

-- the answer that is made of what is prepared, beside the list that the minutes leave; on a refusal none is played, and the list is as it was
module _ (s b delays : List ℕ) (lent : List Standing) (p : Prepared) (table : List ℕ) (w : PreparedFor s b delays (length lent) p table) where
  abbrev answer : PlayAnswer
  answer = record { refusal = p.refusal; groomers = p.groomers }

  refused_answer : (p.refusal ≡ 0 → ⊥) → beside answer (minutes_from p.minutes 0 p.moved lent table) ≡ play_of s b delays lent
  unfolding play_of minutes_from
  refused_answer z =
      let c : answer ≡ play_refused p.refusal = λ i. record { refusal = p.refusal; groomers = (w.none z).0 i } in
      rw ((w.none z).1, c) (sym (unless_first (play_causes s b delays (length lent)) _ (λ k. beside (play_refused k) lent) p.refusal (sym w.number) z))

  played_answer : p.refusal ≡ 0 → beside answer (minutes_from p.minutes 0 p.moved lent table) ≡ play_of s b delays lent
  unfolding play_of standings_of day_at
  played_answer z =
      let n : p.groomers ≡ (counts_in s).groomers = (w.all z).0 in
      let a = minutes_say (sheet_turns s) (board_choice b) (delay_in delays) table (w.days z) p.moved w.few lent w.inside shift_minutes (omega arith) (omega arith) ∙ ap (λ (k : ℕ). standings_up_to s b delays k ++ drop k lent) (w.moved_are ∙ n) in
      let c : answer ≡ record { refusal = 0; groomers = (counts_in s).groomers } = λ i. record { refusal = z i; groomers = n i } in
      rw ((w.all z).1, a, c) (sym (unless_none (play_causes s b delays (length lent)) _ (λ k. beside (play_refused k) lent) (sym w.number ∙ z)))

  pub play_answer : {zs : List Standing} → zs ≡ minutes_from p.minutes 0 p.moved lent table → beside answer zs ≡ play_of s b delays lent
  play_answer y = rw y (go (ℕ_discrete p.refusal 0))
    where
      go : Dec (p.refusal ≡ 0) → beside answer (minutes_from p.minutes 0 p.moved lent table) ≡ play_of s b delays lent
      go (yes z) = played_answer z
      go (no z) = refused_answer z
