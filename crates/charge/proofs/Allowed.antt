-- Choosing windows by its cases: one window, one of a kind, and all of a list. Assumes nothing.
use Prim.Native.Nat.{ℕ, ◌<◌}
use mathlib.Core.Path.{◌≡◌, sym, ◌∙◌, ap}
use mathlib.Core.Bool.{Bool, true, false, cond, ◌&&◌, ◌||◌}
use mathlib.Core.List.{List}
use native.Mathlib.Omega.{arith}
use lib.ListN.{set, replicate}
use Rattle.lists.proofs.Bools.{and_1}
use Rattle.model.specs.Steps.{Step}
use Rattle.model.specs.Choice.{choose, choose_each}
use Rattle.model.proofs.Choices.{choose_set, choose_not}
use Rattle.choice_map.specs.Choice.{choice_in, with_turn, Clean}
use Rattle.choice_map.proofs.Clean.{choice_with, choice_length}
use Rattle.instance.specs.declared.ways.Row.{Row}
use Rattle.instance.specs.Ways.{turn_row}
use Rattle.instance.specs.Columns.{row_in, turns_by}
use Rattle.instance.proofs.Rows.{count_is, groomer_at, row_is}
use Rattle.selection.specs.Asked.{asked_turns}
use Rattle.selection.proofs.Numbers.{asked_room, asked_size, asked_numbers, asked_chosen, each_start, each_more, each_done}
use Rattle.selection.proofs.Fitting.{bit_inside, room_clean}
use Rattle.charge_spec.specs.Hall.{Hall, window_count, vehicle_free, supply_lasts, stays_allowed}
use Rattle.charge_spec.specs.Plan.{fits_among, choose_among}
use Rattle.hall_steps.specs.declared.one_kind.OneKind.{OneKind}
use Rattle.hall_steps.specs.OneKind.{kind_hall, kind_draw, of_kind}
use Rattle.hall_steps.specs.Bounds.{HallHeld}
use Rattle.charge.specs.OneKind.{meant}
use Rattle.charge.specs.Supply.{allowed_row, RoomFor, WithWindow, Supplied}
use Rattle.charge.proofs.Supplies.{row_in_hall, lasts_room, row_stays, supplied_put, supplied_none}

-- ---- one window

module _ (a : OneKind) (cols map used : List ℕ) (j : ℕ) {r : Row} {q : Bool} (held : HallHeld a.units a.size cols) (l : j < a.size.count) (e : r ≡ row_in cols j)
    (s : Supplied (kind_hall a cols) (choice_in a.size.count map) used) (f : q ≡ allowed_row a.units used r) where
  abbrev H : Hall
  H = kind_hall a cols

  abbrev S : List Bool
  S = choice_in a.size.count map

  inside : j < window_count H
  inside = omega (arith, count_is a.size cols)

  row_turn : r ≡ turn_row H.windows j
  row_turn = e ∙ row_is a.size cols j l

  allowed_is : q ≡ stays_allowed H S j
  allowed_is = f ∙ rw row_turn (row_stays H S used s j inside (held.held.ends j l))

  pub allowed_none : q ≡ false → S ≡ choose (stays_allowed H) S j
  allowed_none g = sym (choose_not (stays_allowed H) S j (sym allowed_is ∙ g))

  module _ (g : q ≡ true) where
    pub allowed_room : RoomFor a.units used r
    allowed_room = lasts_room a.units used r (sym f ∙ g)

    module _ {map' : List ℕ} (m : map' ≡ with_turn map j) (d : Clean a.size.count map) where
      pub allowed_added : choice_in a.size.count map' ≡ choose (stays_allowed H) S j
      allowed_added = rw m (choice_with map j d.bytes (bit_inside l d) a.size.count l ∙ sym (choose_set (stays_allowed H) S j (sym allowed_is ∙ g)))

      free : vehicle_free H S j ≡ true
      unfolding stays_allowed
      free = and_1 (vehicle_free H S j) (supply_lasts H S j) (sym allowed_is ∙ g)

      pub allowed_supplied : {used' : List ℕ} → WithWindow r used used' → Supplied H (choice_in a.size.count map') used'
      allowed_supplied w = rw (m, choice_with map j d.bytes (bit_inside l d) a.size.count l) (supplied_put H S used s j inside (choice_length a.size.count map ∙ sym (count_is a.size cols)) free (rw row_turn at w))

pub ruleset allowed_cases = (row_in_hall, bit_inside, room_clean, allowed_none, allowed_room, allowed_added, allowed_supplied)

-- ---- one window that is meant

module _ (a : OneKind) (any : Bool) (cols : List ℕ) (j : ℕ) {r : Row} {own : Bool} (l : j < a.size.count) (e : r ≡ row_in cols j) (f : own ≡ kind_draw a r.groomer) (S : List Bool) where
  meant_is : (any || own) ≡ meant a any cols j
  unfolding meant of_kind
  meant_is = rw (f, groomer_at a.size cols j l e)

  -- what fits among those that are meant is what stays allowed
  fits_is : fits_among (kind_hall a cols) (meant a any cols) S j ≡ ((any || own) && stays_allowed (kind_hall a cols) S j)
  unfolding fits_among
  fits_is = rw meant_is

  pub meant_added : {S' : List Bool} → (any || own) ≡ true → S' ≡ choose (stays_allowed (kind_hall a cols)) S j → S' ≡ choose (fits_among (kind_hall a cols) (meant a any cols)) S j
  unfolding choose
  meant_added g h = let z : fits_among (kind_hall a cols) (meant a any cols) S j ≡ stays_allowed (kind_hall a cols) S j = fits_is ∙ rw g in h ∙ ap (λ (b : Bool). cond b (set S j true) S) (sym z)

  pub meant_none : (any || own) ≡ false → S ≡ choose (fits_among (kind_hall a cols) (meant a any cols)) S j
  meant_none g = sym (choose_not (fits_among (kind_hall a cols) (meant a any cols)) S j (fits_is ∙ rw g))

pub ruleset meant_cases = (meant_added, meant_none)

-- ---- all windows of the list

-- none chosen yet
pub ruleset List-cases = (supplied_none, each_start, each_more, each_done)

-- any window: those of the list that stay allowed
pub any_chosen : (a : OneKind) (cols list : List ℕ) (n : ℕ) {S : List Bool} → S ≡ choose_each (fits_among (kind_hall a cols) (meant a true cols)) list (replicate n false) → S ≡ choose_each (stays_allowed (kind_hall a cols)) list (replicate n false)
unfolding fits_among meant
any_chosen a cols list n e = e

-- going back over the steps, then filling
pub chosen_among : (a : OneKind) (cols : List ℕ) (xs : List Step) {list : List ℕ} {S : List Bool} → list ≡ asked_turns a.size.count xs → S ≡ choose_each (fits_among (kind_hall a cols) (meant a false cols)) list (replicate a.size.count false)
    → S ≡ choose_among (kind_hall a cols) (of_kind a cols) xs
unfolding choose_among turns_by meant
chosen_among a cols xs e f = f ∙ rw e (asked_chosen (fits_among (kind_hall a cols) (of_kind a cols)) a.size.count xs)

pub ruleset both_cases = (asked_room, asked_size, asked_numbers, chosen_among)
