-- Choosing windows one after another, each that is allowed beside the chosen ones: all that are chosen are allowed together, and of one kind. Assumes nothing.
use mathlib.Core.Path.{◌≡◌, refl, sym, ap, ◌∙◌}
use mathlib.Core.Logic.{◌≢◌, ◌↔◌, ◌⊎◌, inl, inr}
use mathlib.Core.Bool.{Bool, true, false, not, ◌&&◌}
use mathlib.Core.List.{List, ◌∷◌, map}
use Prim.Native.Nat.{ℕ, ◌+◌, ◌-◌, ◌≤◌, ◌<◌}
use native.Mathlib.Omega.{arith}
use native.Mathlib.Decide.{dec_lt}
use lib.Dec.{leb}
use lib.ListN.{length, set, replicate, length-set, length-replicate}
use lib.Seq.{get_or-set_same}
use borrow.Author.Tests.{leb-true, leb-false, not-false}
use Rattle.lists.specs.Lists.{sum_over, All, more}
use Rattle.model.specs.Steps.{Step}
use Rattle.model.specs.Choice.{has, chosen, members, back, fill, choose_each}
use Rattle.model.specs.Feasible.{Distinct}
use Rattle.lists.proofs.Bools.{and_1, and_2, not_both, fails, every_at, every_not, second_fails}
use Rattle.lists.proofs.Sums.{all_map}
use Rattle.model.proofs.Members.{chosen_members, members_are, members_once, members_each}
use Rattle.model.proofs.Choices.{put_keeps, put_from, none_chosen, back_kept, fill_kept, fill_full, chosen_mono, chosen_put, chosen_put_most, chosen_some}
use Rattle.charge_spec.specs.Hall.{Hall, window_count, vehicle, draw, same_vehicle, charges_at, draw_at, drawn_at, vehicle_free, supply_lasts, stays_allowed, Allowed, AllowedChoice, FullAmong}
use Rattle.charge_spec.specs.Plan.{fits_among}
use Rattle.charge_spec.proofs.Windows.{vehicle_is, is_vehicle, charges_in, in_charges, draw_at_charging, draw_at_not}

module _ (H : Hall) where
  -- ---- an allowed choice, said of the list of Bool

  pub record Admissible (S : List Bool) : Type 0 where
    pub vehicles : (x y : ℕ) → x < window_count H → y < window_count H → x ≢ y → has S x ≡ true → has S y ≡ true → vehicle H x ≢ vehicle H y
    pub supply : (minute : ℕ) → drawn_at H S minute ≤ H.units

  drawn_members : (S : List Bool) (minute : ℕ) → drawn_at H S minute ≡ sum_over (draw_at H minute) (members (window_count H) S)
  unfolding drawn_at
  drawn_members S minute = chosen_members (window_count H) S (draw_at H minute)

  pub admissible_allowed : (S : List Bool) → Admissible S → AllowedChoice H S
  admissible_allowed S k =
      record {
        numbers = all_map (λ t h. h.0) are;
        once = members_once (window_count H) S;
        vehicles = all_map (λ t h. all_map (λ u i d. k.vehicles t u h.0 i.0 d h.1 i.1) are) are;
        supply = λ minute. omega (arith, k.supply minute, drawn_members S minute);
      }
    where
      are : All (λ t. (t < window_count H) × (has S t ≡ true)) (members (window_count H) S)
      are = members_are (window_count H) S

  pub allowed_admissible : (S : List Bool) → AllowedChoice H S → Admissible S
  allowed_admissible S a =
      record {
        vehicles = λ x y hx hy d p q. members_each (window_count H) S (members_each (window_count H) S a.vehicles x hx p) y hy q d;
        supply = λ minute. omega (arith, a.supply minute, drawn_members S minute);
      }

  -- ---- the test: what it says where it passes, and where it fails

  pub free_vehicle : (S : List Bool) (j : ℕ) → vehicle_free H S j ≡ true → (t : ℕ) → t < window_count H → has S t ≡ true → vehicle H t ≢ vehicle H j
  unfolding vehicle_free
  free_vehicle S j e t l h q =
      not_both (is_vehicle H t j q) (second_fails (has S t) (same_vehicle H t j) (every_at (λ t. not (has S t && same_vehicle H t j)) (window_count H) e t l) h)

  pub supply_at : (S : List Bool) (j : ℕ) → supply_lasts H S j ≡ true → (minute : ℕ) → charges_at H minute j ≡ true → drawn_at H S minute + draw H j ≤ H.units
  unfolding supply_lasts
  supply_at S j e minute c =
      let (a, b) = charges_in H minute j c in
      let q : H.windows.start j + (minute - H.windows.start j) ≡ minute = omega arith in
      leb-true (drawn_at H S minute + draw H j) H.units
      (rw q at (every_at (λ i. leb (drawn_at H S (H.windows.start j + i) + draw H j) H.units) (H.windows.end j - H.windows.start j) e (minute - H.windows.start j) (omega arith)))

  -- why the set would not stay allowed: a chosen window of j's vehicle, or a minute of j's at which the units do not last
  pub data Short (S : List Bool) (j : ℕ) : Type 0 where
    same_vehicle_lem : (t : ℕ) → t < window_count H → has S t ≡ true → same_vehicle H t j ≡ true → Short S j
    out_of_supply : (minute : ℕ) → charges_at H minute j ≡ true → H.units < drawn_at H S minute + draw H j → Short S j

  pub short_by : (S : List Bool) (j : ℕ) → stays_allowed H S j ≡ false → Short S j
  unfolding stays_allowed vehicle_free supply_lasts
  short_by S j e = go (vehicle_free H S j) refl e
    where
      by_vehicle : vehicle_free H S j ≡ false → Short S j
      by_vehicle f =
          let (t, l, g) = every_not (λ t. not (has S t && same_vehicle H t j)) (window_count H) f in
          let both : (has S t && same_vehicle H t j) ≡ true = not-false (has S t && same_vehicle H t j) g in
          same_vehicle_lem t l (and_1 (has S t) (same_vehicle H t j) both) (and_2 (has S t) (same_vehicle H t j) both)

      by_supply : supply_lasts H S j ≡ false → Short S j
      by_supply f =
          let (i, l, g) = every_not (λ i. leb (drawn_at H S (H.windows.start j + i) + draw H j) H.units) (H.windows.end j - H.windows.start j) f in
          out_of_supply (H.windows.start j + i) (in_charges H (H.windows.start j + i) j (omega arith) (omega arith)) (leb-false (drawn_at H S (H.windows.start j + i) + draw H j) H.units g)

      go : (b : Bool) → vehicle_free H S j ≡ b → (b && supply_lasts H S j) ≡ false → Short S j
      go true f g = by_supply g
      go false f g = by_vehicle f

  -- and such a set does not stay allowed
  short_not : (S : List Bool) (j : ℕ) → Short S j → stays_allowed H S j ≡ false
  unfolding stays_allowed
  short_not S j h = fails (stays_allowed H S j) (λ e. go h (and_1 (vehicle_free H S j) (supply_lasts H S j) e) (and_2 (vehicle_free H S j) (supply_lasts H S j) e))
    where
      go : Short S j → vehicle_free H S j ≡ true → supply_lasts H S j ≡ true → ⊥
      go (same_vehicle_lem t l h v) e f = free_vehicle S j e t l h (vehicle_is H t j v)
      go (out_of_supply minute c m) e f = omega (arith, supply_at S j f minute c, m)

  -- fewer windows draw no more
  drawn_fewer : (E S : List Bool) → ((u : ℕ) → u < window_count H → has E u ≡ true → has S u ≡ true) → (minute : ℕ) → drawn_at H E minute ≤ drawn_at H S minute
  unfolding drawn_at
  drawn_fewer E S h minute = chosen_mono (window_count H) E S (draw_at H minute) (draw_at H minute) (λ u l e. (h u l e, omega arith))

  -- a window that is short of something is so beside more windows
  short_more : (S : List Bool) (j t : ℕ) → Short S t → Short (set S j true) t
  short_more S j t (same_vehicle_lem u l h v) = same_vehicle_lem u l (put_keeps S j u h) v
  short_more S j t (out_of_supply minute c m) = out_of_supply minute c (omega (arith, m, drawn_fewer S (set S j true) (λ u l h. put_keeps S j u h) minute))

  -- what does not stay allowed never does later
  pub refused_more : (S : List Bool) (j t : ℕ) → stays_allowed H S t ≡ false → stays_allowed H (set S j true) t ≡ false
  refused_more S j t e = short_not (set S j true) t (short_more S j t (short_by S t e))

  -- with such a window the chosen ones are no allowed set
  short_out : (S : List Bool) (t : ℕ) → Short S t → Allowed H (t ∷ members (window_count H) S) → ⊥
  short_out S t h a = go h a.numbers a.once a.vehicles
    where
      go : Short S t → All (λ u. u < window_count H) (t ∷ members (window_count H) S) → Distinct (t ∷ members (window_count H) S)
          → All (λ x. All (λ u. x ≢ u → vehicle H x ≢ vehicle H u) (t ∷ members (window_count H) S)) (t ∷ members (window_count H) S) → ⊥
      go (same_vehicle_lem u l h v) n (Distinct.other d ds) (more (more w ws) vs) = members_each (window_count H) S ws u l h (members_each (window_count H) S d u l h) (sym (vehicle_is H u t v))
      go (out_of_supply minute c m) n d v = omega (arith, a.supply minute, drawn_members S minute, draw_at_charging H minute t c, m)

  -- some windows of an allowed choice are allowed
  pub fewer_allowed : (E S : List Bool) → ((u : ℕ) → u < window_count H → has E u ≡ true → has S u ≡ true) → AllowedChoice H S → AllowedChoice H E
  fewer_allowed E S h a =
      let k = allowed_admissible S a in
      admissible_allowed E (record { vehicles = λ x y hx hy d p q. k.vehicles x y hx hy d (h x hx p) (h y hy q); supply = λ minute. omega (arith, k.supply minute, drawn_fewer E S h minute) })

  -- ---- one window more

  drawn_more : (S : List Bool) (j minute : ℕ) → drawn_at H (set S j true) minute ≤ draw_at H minute j + drawn_at H S minute
  unfolding drawn_at
  drawn_more S j minute = chosen_put_most (window_count H) S (draw_at H minute) j

  drawn_room : (S : List Bool) (j minute : ℕ) → j < window_count H → length S ≡ window_count H → has S j ≡ false → draw_at H minute j + drawn_at H S minute ≤ drawn_at H (set S j true) minute
  unfolding drawn_at
  drawn_room S j minute l n f = chosen_put (window_count H) S (draw_at H minute) j l n f

  pub put_admissible : (S : List Bool) (j : ℕ) → stays_allowed H S j ≡ true → Admissible S → Admissible (set S j true)
  unfolding stays_allowed
  put_admissible S j e k = record { vehicles = λ x y hx hy d p q. other x y hx hy d (put_from S j x p) (put_from S j y q); supply = λ minute. lasts minute (charges_at H minute j) refl }
    where
      free : (t : ℕ) → t < window_count H → has S t ≡ true → vehicle H t ≢ vehicle H j
      free = free_vehicle S j (and_1 (vehicle_free H S j) (supply_lasts H S j) e)

      other : (x y : ℕ) → x < window_count H → y < window_count H → x ≢ y → (x ≡ j) ⊎ (has S x ≡ true) → (y ≡ j) ⊎ (has S y ≡ true) → vehicle H x ≢ vehicle H y
      other x y hx hy d (inl p) (inl q) f = d (p ∙ sym q)
      other x y hx hy d (inl p) (inr q) f = free y hy q (sym f ∙ ap (vehicle H) p)
      other x y hx hy d (inr p) (inl q) f = free x hx p (f ∙ ap (vehicle H) q)
      other x y hx hy d (inr p) (inr q) f = k.vehicles x y hx hy d p q f

      lasts : (minute : ℕ) (b : Bool) → charges_at H minute j ≡ b → drawn_at H (set S j true) minute ≤ H.units
      lasts minute true c = omega (arith, drawn_more S j minute, draw_at_charging H minute j c, supply_at S j (and_2 (vehicle_free H S j) (supply_lasts H S j) e) minute c)
      lasts minute false c = omega (arith, drawn_more S j minute, draw_at_not H minute j c, k.supply minute)

  none_admissible : (n : ℕ) → Admissible (replicate n false)
  unfolding drawn_at
  none_admissible n = record { vehicles = λ x y hx hy d p q. absurd (none_chosen n x p); supply = λ minute. empty minute (dec_lt 0 (chosen (window_count H) (replicate n false) (draw_at H minute))) }
    where
      empty : (minute : ℕ) → Dec (0 < chosen (window_count H) (replicate n false) (draw_at H minute)) → chosen (window_count H) (replicate n false) (draw_at H minute) ≤ H.units
      empty minute (yes h) = let r = chosen_some (window_count H) (replicate n false) (draw_at H minute) h in absurd (none_chosen n r.0 r.2)
      empty minute (no h) = omega arith

  -- the test is the words: where a choice is allowed and j is not in it, the test passes just if the choice with j is allowed too
  pub stays_is : (S : List Bool) (j : ℕ) → length S ≡ window_count H → j < window_count H → has S j ≡ false → AllowedChoice H S → stays_allowed H S j ≡ true ↔ AllowedChoice H (set S j true)
  stays_is S j n l f a = (λ e. admissible_allowed (set S j true) (put_admissible S j e (allowed_admissible S a)), λ b. stays (allowed_admissible (set S j true) b))
    where
      stays : Admissible (set S j true) → stays_allowed H S j ≡ true
      stays k = go (stays_allowed H S j) refl
        where
          chose : has (set S j true) j ≡ true
          chose = get_or-set_same S j true false (omega arith)

          not_short : Short S j → ⊥
          not_short (same_vehicle_lem t m h v) = k.vehicles t j m l (λ q. not_both (ap (has S) (sym q) ∙ h) f) (put_keeps S j t h) chose (vehicle_is H t j v)
          not_short (out_of_supply minute c m) = omega (arith, drawn_room S j minute l n f, k.supply minute, draw_at_charging H minute j c)

          go : (b : Bool) → stays_allowed H S j ≡ b → b ≡ true
          go true e = refl
          go false e = absurd (not_short (short_by S j e))

  -- ---- a whole plan, among the windows of a kind

  module _ (kind : ℕ → Bool) where
    pub fits_kind : (S : List Bool) (j : ℕ) → fits_among H kind S j ≡ true → kind j ≡ true
    unfolding fits_among
    fits_kind S j e = and_1 (kind j) (stays_allowed H S j) e

    pub fits_stays : (S : List Bool) (j : ℕ) → fits_among H kind S j ≡ true → stays_allowed H S j ≡ true
    unfolding fits_among
    fits_stays S j e = and_2 (kind j) (stays_allowed H S j) e

    -- a window of the kind that does not fit is short of something
    pub unfit_short : (S : List Bool) (j : ℕ) → kind j ≡ true → fits_among H kind S j ≡ false → Short S j
    unfolding fits_among
    unfit_short S j k e = short_by S j (rw k at e)

    -- what does not fit never fits later
    unfit_more : (S : List Bool) (j t : ℕ) → fits_among H kind S t ≡ false → fits_among H kind (set S j true) t ≡ false
    unfolding fits_among
    unfit_more S j t e = go (kind t) refl e
      where
        go : (b : Bool) → kind t ≡ b → (b && stays_allowed H S t) ≡ false → (b && stays_allowed H (set S j true) t) ≡ false
        go true k f = refused_more S j t f
        go false k f = refl

    -- going back over steps, then filling with the windows below i
    abbrev filled_to : ℕ → List Step → List Bool
    filled_to i xs = fill (fits_among H kind) i (back (fits_among H kind) (window_count H) (map (λ (x : Step). x.turn) xs))

    -- what one window more keeps is had then, however far it is filled
    chosen_has : (P : List Bool → Type 0) → P (replicate (window_count H) false) → ((S : List Bool) (j : ℕ) → fits_among H kind S j ≡ true → P S → P (set S j true)) → (i : ℕ) (xs : List Step) → P (filled_to i xs)
    chosen_has P none put i xs = fill_kept (fits_among H kind) P put i _ (back_kept (fits_among H kind) P put (window_count H) none _)

    pub chosen_allowed : (i : ℕ) (xs : List Step) → AllowedChoice H (filled_to i xs)
    chosen_allowed i xs = admissible_allowed (filled_to i xs) (chosen_has Admissible (none_admissible (window_count H)) (λ S j e k. put_admissible S j (fits_stays S j e) k) i xs)

    pub chosen_kind : (i : ℕ) (xs : List Step) (t : ℕ) → has (filled_to i xs) t ≡ true → kind t ≡ true
    chosen_kind i xs t = chosen_has (λ S. has S t ≡ true → kind t ≡ true) (λ e. absurd (none_chosen (window_count H) t e)) put i xs
      where
        put : (S : List Bool) (j : ℕ) → fits_among H kind S j ≡ true → (has S t ≡ true → kind t ≡ true) → has (set S j true) t ≡ true → kind t ≡ true
        put S j f h e = elim (put_from S j t e) [ inl q ↦ ap kind q ∙ fits_kind S j f | inr q ↦ h q ]

    pub chosen_length : (i : ℕ) (xs : List Step) → length (filled_to i xs) ≡ window_count H
    chosen_length = chosen_has (λ S. length S ≡ window_count H) (length-replicate (window_count H) false) (λ S j e h. length-set S j true ∙ h)

    -- filled with all windows a plan is full: each of the kind is chosen or does not stay allowed
    pub chosen_full : (xs : List Step) (t : ℕ) → t < window_count H → kind t ≡ true → (has (filled_to (window_count H) xs) t ≡ true) ⊎ (stays_allowed H (filled_to (window_count H) xs) t ≡ false)
    unfolding fits_among fill back choose_each
    chosen_full xs t l k = go (fill_full (fits_among H kind) unfit_more (window_count H) (filled_to 0 xs) (omega (arith, chosen_length 0 xs)) t l)
      where
        go : (has (filled_to (window_count H) xs) t ≡ true) ⊎ (fits_among H kind (filled_to (window_count H) xs) t ≡ false) → (has (filled_to (window_count H) xs) t ≡ true) ⊎ (stays_allowed H (filled_to (window_count H) xs) t ≡ false)
        go (inl h) = inl h
        go (inr f) = inr (rw k at f)

    -- so that with another window of the kind the chosen ones are no allowed set
    pub full_among : (xs : List Step) → FullAmong H kind (filled_to (window_count H) xs)
    full_among xs t k a = go a.numbers a.once
      where
        S : List Bool
        S = filled_to (window_count H) xs

        go : All (λ u. u < window_count H) (t ∷ members (window_count H) S) → Distinct (t ∷ members (window_count H) S) → ⊥
        go (more l ls) (Distinct.other d ds) = by (chosen_full xs t l k)
          where
            by : (has S t ≡ true) ⊎ (stays_allowed H S t ≡ false) → ⊥
            by (inl h) = members_each (window_count H) S d t l h refl
            by (inr f) = short_out S t (short_by S t f) a
