-- The plans and the entry's answer by their cases, each premise in the form in which the code's calls and tests leave it. Assumes nothing.
use Prim.Native.Nat.{ℕ, ◌*◌, ◌<◌, ◌≤◌}
use mathlib.Core.Path.{◌≡◌, refl, sym, ap, ◌∙◌}
use mathlib.Core.Bool.{true, false}
use mathlib.Core.List.{List, [], ◌++◌}
use native.Mathlib.Omega.{arith}
use lib.ListN.{length, drop, take, replicate, length-replicate}
use lib.Seq.{length-take-le}
use Rattle.refusal.specs.Number.{buffer_too_small}
use Rattle.refusal.specs.Cause.{first_of}
use Rattle.wire.specs.Number.{puts}
use Rattle.wire.proofs.Puts.{puts_length}
use Rattle.sheet.specs.declared.answer.ReadAnswer.{ReadAnswer}
use Rattle.sheet.specs.Kind.{Kind, most_turns}
use Rattle.sheet.specs.Read.{counts_in, turn_count, turns_of, causes_for, answer_for}
use Rattle.sheet.proofs.Readings.{causes_numbered}
use Rattle.sheet.proofs.Whole.{whole_refusal_for, whole_accepted_for, whole_answer_for, whole_turns_for}
use Rattle.model.specs.Choice.{chosen}
use Rattle.choice_map.specs.Choice.{choice_in, map_bytes, map_of, Clean}
use Rattle.board.specs.Board.{step_size, steps_in, step_bytes}
use Rattle.choice_map.proofs.Clean.{clean_map, map_length}
use Rattle.instance.specs.declared.columns.Size.{Size}
use Rattle.instance.specs.Columns.{turns_by}
use Rattle.instance_spec.specs.Problem.{problem_of}
use Rattle.instance.specs.Load.{PosedFor}
use Rattle.instance_spec.proofs.SheetTurns.{sheet_count_for}
use Rattle.instance.proofs.Rows.{count_is}
use Rattle.selection.specs.Bounds.{StepsOf}
use Rattle.charge_spec.specs.Hall.{hall_gap, Hall, window_count, is_wide, is_small}
use Rattle.charge_spec.specs.Plan.{choose_among, wide_choice, small_choice, worth_in, hall_choice, hall_worth}
use Rattle.charge_spec.proofs.Halls.{greater_first, greater_second, plan_length}
use Rattle.shares.specs.Taking.{hall_by}
use Rattle.hall_steps.specs.declared.one_kind.OneKind.{OneKind}
use Rattle.hall_steps.specs.OneKind.{kind_hall, kind_draw, of_kind, steps_by}
use Rattle.hall_steps.specs.Bounds.{HallHeld}
use Rattle.hall_steps.proofs.Written.{written_few, written_read, written_inside}
use Rattle.charge_spec.specs.declared.ChargeAnswer.{ChargeAnswer}
use Rattle.charge.specs.OneKind.{kind_choice}
use Rattle.charge_spec.specs.Charge.{charging_sheet, hall_of, charge_causes, hall_found, charge_in, charge_of, charge_refused}
use Rattle.charge_spec.proofs.ChargingSheets.{charging_sound, units_of, vehicle_of, draw_of_lem}
use Rattle.refusal.specs.Outcome.{beside, unless, then_room}
use Rattle.refusal.proofs.Outcome.{Tried, tried_stops, tried_goes, room_short, room_enough}

-- ---- the plan of one kind

-- places for the steps of every sheet
abbrev steps_places : ℕ
steps_places = step_size * most_turns

module _ (a : OneKind) (cols : List ℕ) (held : HallHeld a.units a.size cols) {m : ℕ} (e : m ≡ length (steps_by a cols)) {l' : List ℕ} (p : l' ≡ puts (replicate steps_places 0) 0 (step_bytes (steps_by a cols))) where
  abbrev l : List ℕ
  l = replicate steps_places 0

  room : 4 * a.size.count ≤ length l
  room = omega (arith, held.held.few, length-replicate {A = ℕ} steps_places 0)

  pub kind_room : 4 * m ≤ length l'
  kind_room = rw p (omega (arith, puts_length (step_bytes (steps_by a cols)) l 0, written_few a cols held e, room))

  pub kind_few : m ≤ most_turns
  kind_few = omega (arith, written_few a cols held e, held.held.few)

  pub kind_steps_of : StepsOf a.size.count m l'
  unfolding StepsOf
  kind_steps_of = written_inside a cols held e l room p

  module _ (map : List ℕ) (c : choice_in a.size.count map ≡ choose_among (kind_hall a cols) (of_kind a cols) (steps_in m l')) where
    choice_is : choice_in a.size.count map ≡ kind_choice a cols
    unfolding kind_choice
    choice_is = c ∙ ap (choose_among (kind_hall a cols) (of_kind a cols)) (written_read a cols held e l room p)

    pub kind_worth_is : {r : ℕ} → r ≡ chosen a.size.count (choice_in a.size.count map) (turns_by a.size cols).worth → r ≡ worth_in (kind_hall a cols) (kind_choice a cols)
    unfolding chosen worth_in
    kind_worth_is q = q ∙ rw (choice_is, count_is a.size cols)

    pub kind_map_is : Clean a.size.count map → map ≡ map_of (kind_choice a cols)
    kind_map_is d = clean_map a.size.count map d ∙ ap map_of choice_is

pub ruleset kind_cases = (kind_room, kind_few, kind_steps_of, kind_worth_is, kind_map_is)

-- ---- of the two plans the one of greater worth

module _ (units : ℕ) (p : Size) (cols : List ℕ) where
  abbrev wide : OneKind
  wide = record { units = units; size = p; wide = true }

  abbrev small : OneKind
  small = record { units = units; size = p; wide = false }

  abbrev H : Hall
  H = hall_by units p cols

  pub size_of : HallHeld units p cols → p.count ≤ most_turns
  size_of h = h.held.few

  wide_is : kind_choice wide cols ≡ wide_choice H
  unfolding kind_choice wide_choice of_kind kind_draw is_wide steps_by
  wide_is = refl

  small_is : kind_choice small cols ≡ small_choice H
  unfolding kind_choice small_choice of_kind kind_draw is_small is_wide steps_by
  small_is = refl

  module _ {w s : ℕ} (f : w ≡ worth_in H (kind_choice wide cols)) (g : s ≡ worth_in H (kind_choice small cols)) where
    first_is : s < w → hall_choice H ≡ wide_choice H
    unfolding hall_choice
    first_is h = greater_first H (wide_choice H) (small_choice H) (omega (arith, f ∙ ap (worth_in H) wide_is, g ∙ ap (worth_in H) small_is))

    second_is : w ≤ s → hall_choice H ≡ small_choice H
    unfolding hall_choice
    second_is h = greater_second H (wide_choice H) (small_choice H) (omega (arith, f ∙ ap (worth_in H) wide_is, g ∙ ap (worth_in H) small_is))

    pub wide_worth : s < w → w ≡ hall_worth H
    unfolding hall_worth
    wide_worth h = rw (first_is h) (f ∙ ap (worth_in H) wide_is)

    pub small_worth : w ≤ s → s ≡ hall_worth H
    unfolding hall_worth
    small_worth h = rw (second_is h) (g ∙ ap (worth_in H) small_is)

    module _ {own map : List ℕ} (q : map ≡ own) where
      pub wide_map : s < w → own ≡ map_of (kind_choice wide cols) → map ≡ map_of (hall_choice H)
      wide_map h o = rw (first_is h, ← wide_is) (q ∙ o)

      pub small_map : w ≤ s → own ≡ map_of (kind_choice small cols) → map ≡ map_of (hall_choice H)
      small_map h o = rw (second_is h, ← small_is) (q ∙ o)

pub ruleset greater_cases = (size_of, wide_worth, small_worth, wide_map, small_map)

-- ---- a hall's answer

module _ (units : ℕ) (p : Size) (cols lent : List ℕ) {size : ℕ} (m : size ≡ map_bytes p.count) where
  pub hall_small : {x : ChargeAnswer} → length lent < size → x ≡ charge_refused buffer_too_small → beside x lent ≡ charge_in (hall_by units p cols) lent
  unfolding charge_in turns_by first_of
  hall_small l h = rw h (sym (room_short [] (map_bytes p.count) (length lent) _ (λ k. beside (charge_refused k) lent) refl refl (omega (arith, m))))

  pub hall_room : size ≤ length lent → length (take size lent) ≡ map_bytes p.count
  hall_room l = length-take-le size lent l ∙ m

  plan_places : length (map_of (hall_choice (hall_by units p cols))) ≡ size
  plan_places = map_length (hall_choice (hall_by units p cols)) ∙ ap map_bytes (plan_length (hall_by units p cols) ∙ count_is p cols) ∙ sym m

  pub hall_done : {worth : ℕ} {map : List ℕ} → size ≤ length lent → worth ≡ hall_worth (hall_by units p cols) → map ≡ map_of (hall_choice (hall_by units p cols))
      → beside (record { refusal = 0; worth = worth }) (map ++ drop size lent) ≡ charge_in (hall_by units p cols) lent
  unfolding charge_in first_of
  hall_done l h k =
      let H = hall_by units p cols in
      rw (h, k, ← plan_places) (sym (room_enough [] (map_bytes (window_count H)) (length lent) (hall_found H lent) (λ k. beside (charge_refused k) lent) refl refl (omega (arith, m, ap map_bytes (count_is p cols)))))

pub ruleset charge_in_cases = (hall_small, hall_room, hall_done)

-- ---- the answer

module _ (s : List ℕ) {K : Kind} {r : ReadAnswer} (k : K ≡ charging_sheet) (e : r ≡ answer_for K s) where
  own : r ≡ answer_for charging_sheet s
  own = e ∙ ap (λ (J : Kind). answer_for J s) k

  -- an entry's causes come after the sheet's
  pub charge_tried : Tried (causes_for charging_sheet s) r.refusal
  charge_tried = record { number = whole_refusal_for charging_sheet s own; above = causes_numbered charging_sheet charging_sound.numbers s }

  module _ (f : r.refusal ≡ 0) where
    pub accepted : first_of (causes_for charging_sheet s) ≡ 0
    accepted = whole_accepted_for charging_sheet s own f

    pub counts_are : (r.groomers ≡ (counts_in s).groomers) × (r.slopes ≡ (counts_in s).slopes) × (r.turns ≡ turn_count s)
    counts_are = let w = whole_answer_for charging_sheet s own f in (ap (λ (x : ReadAnswer). x.groomers) w, ap (λ (x : ReadAnswer). x.slopes) w, whole_turns_for charging_sheet s own f)

    module _ (cols : List ℕ) (w : r.refusal ≡ 0 → (gap : ℕ) → PosedFor gap s cols) where
      abbrev size : Size
      size = record { count = r.turns; gap = hall_gap }

      turns_are : turns_by size cols ≡ problem_of hall_gap (turns_of s)
      turns_are = rw counts_are.2 (w f hall_gap).turns

      pub charge_held : HallHeld r.groomers (record { count = r.turns; gap = hall_gap }) cols
      charge_held =
          record {
            held = rw counts_are.2 (w f hall_gap).held;
            gapless = refl;
            units_from = rw counts_are.0 (units_of s accepted).0;
            units_to = rw counts_are.0 (units_of s accepted).1;
            vehicles = λ t l. rw turns_are (vehicle_of s accepted t (omega (arith, counts_are.2)));
            draws = λ t l. rw (turns_are, counts_are.0) (draw_of_lem s accepted t (omega (arith, counts_are.2))).1;
          }

      pub hall_is : hall_by r.groomers (record { count = r.turns; gap = hall_gap }) cols ≡ hall_of s
      unfolding hall_of
      hall_is = rw (counts_are.0, turns_are)

  module _ (lent : List ℕ) where
    pub charge_fault : {x : ChargeAnswer} → (r.refusal ≡ 0 → ⊥) → x ≡ charge_refused r.refusal → beside x lent ≡ charge_of s lent
    unfolding charge_of charge_causes
    charge_fault f g = rw g (tried_stops charge_tried _ (λ k. beside (charge_refused k) lent) _ f)

    pub charge_found : (f : r.refusal ≡ 0) (cols : List ℕ) → (r.refusal ≡ 0 → (gap : ℕ) → PosedFor gap s cols) → {x : ChargeAnswer} {lent' : List ℕ}
        → beside x lent' ≡ charge_in (hall_by r.groomers (record { count = r.turns; gap = hall_gap }) cols) lent → beside x lent' ≡ charge_of s lent
    unfolding charge_in charge_of charge_causes hall_of
    charge_found f cols w h =
        h
        ∙ ap (λ (H : Hall). charge_in H lent) (hall_is f cols w)
        ∙ ap (λ (n : ℕ). unless (then_room [] (map_bytes n) (length lent)) (hall_found (hall_of s) lent) (λ k. beside (charge_refused k) lent)) (sheet_count_for charging_sheet charging_sound hall_gap s (accepted f))
        ∙ tried_goes charge_tried (hall_found (hall_of s) lent) (λ k. beside (charge_refused k) lent) f _
