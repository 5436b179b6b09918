-- Windows of vehicles that have a window left out of a list: the loop by its cases, and that choosing from what is left comes to the same. Assumes nothing.
use Prim.Native.Nat.{ℕ, zero, suc, ◌+◌, ◌-◌, ◌≤◌, ◌<◌}
use mathlib.Core.Path.{◌≡◌, refl, sym, ap, ◌∙◌}
use mathlib.Core.Bool.{Bool, true, false, not, cond, ◌&&◌}
use mathlib.Core.List.{List, [], ◌∷◌, ◌++◌, append-nil, append_assoc}
use native.Mathlib.Omega.{arith}
use native.Mathlib.Numerals.{add-one}
use lib.ListN.{length, get_or, set, take, drop, replicate, take-append-drop, length-drop}
use lib.Seq.{drop-cons, drop-length, take-suc-set, take-set-le, take_all, get_or-take, get_or-drop, length-take-le}
use borrow.Author.Tests.{not-false}
use Rattle.lists.proofs.Bools.{and_1, and_2, every_not, every_fails, and_false}
use Rattle.model.specs.Choice.{has, choose, choose_each}
use Rattle.model.proofs.Choices.{put_keeps, choose_not, each_kept, each_both}
use Rattle.sheet.specs.Kind.{most_turns}
use Rattle.instance.specs.declared.ways.Row.{Row}
use Rattle.instance.specs.declared.columns.Size.{Size}
use Rattle.instance.specs.Columns.{row_in}
use Rattle.instance.proofs.Rows.{count_is, slope_at}
use Rattle.selection.specs.Asked.{NumbersOf}
use Rattle.charge_spec.specs.Hall.{Hall, window_count, same_vehicle, vehicle_free, stays_allowed}
use Rattle.charge_spec.specs.Plan.{fits_among}
use Rattle.hall_steps.specs.declared.one_kind.OneKind.{OneKind}
use Rattle.hall_steps.specs.OneKind.{kind_hall}
use Rattle.hall_steps.specs.Bounds.{HallHeld}
use Rattle.lists.specs.Lists.{keep}
use Rattle.charge.specs.OneKind.{meant}
use Rattle.charge.specs.Supply.{free_row, free_in, RowInHall, Supplied}
use Rattle.charge.proofs.Supplies.{row_in_hall, supplied_none}

-- ---- the loop: what is kept of the places before i stands at the front

module _ (p : ℕ → Bool) (list free : List ℕ) (count i : ℕ) (h : i < length list) where
  keep_at : keep p (drop i list) ≡ cond (p (get_or list i 0)) (get_or list i 0 ∷ keep p (drop (i + 1) list)) (keep p (drop (i + 1) list))
  unfolding keep
  keep_at = rw (add-one, drop-cons list i 0 h)

  keep_out : p (get_or list i 0) ≡ false → take count (set free count (get_or list i 0)) ++ keep p (drop (i + 1) list) ≡ take count free ++ keep p (drop i list)
  keep_out e = rw (take-set-le count free count (get_or list i 0) (omega arith)) (ap (λ (l : List ℕ). take count free ++ l) (sym (keep_at ∙ rw e)))

  keep_in : p (get_or list i 0) ≡ true → count < length free → take (count + 1) (set free count (get_or list i 0)) ++ keep p (drop (i + 1) list) ≡ take count free ++ keep p (drop i list)
  keep_in e l =
      let rest = keep p (drop (i + 1) list) in
      let t : take (count + 1) (set free count (get_or list i 0)) ≡ take count free ++ (get_or list i 0 ∷ []) = rw add-one (take-suc-set free count (get_or list i 0) l) in
      let k : keep p (drop i list) ≡ get_or list i 0 ∷ rest = keep_at ∙ rw e in
      ap (λ (x : List ℕ). x ++ rest) t ∙ append_assoc (take count free) (get_or list i 0 ∷ []) rest ∙ ap (λ (x : List ℕ). take count free ++ x) (sym k)

  keep_more : {b : Bool} {k : ℕ} → b ≡ p (get_or list i 0) → k ≡ cond b 1 0 → count < length free → take (count + k) (set free count (get_or list i 0)) ++ keep p (drop (i + 1) list) ≡ take count free ++ keep p (drop i list)
  keep_more {b} {k} e f l = go b refl
    where
      go : (c : Bool) → b ≡ c → take (count + k) (set free count (get_or list i 0)) ++ keep p (drop (i + 1) list) ≡ take count free ++ keep p (drop i list)
      go true g = let z : k ≡ 1 = f ∙ ap (λ (c : Bool). cond c 1 0) g in rw z (keep_in (sym e ∙ g) l)
      go false g = let z : count + k ≡ count = omega (arith, f ∙ ap (λ (c : Bool). cond c 1 0) g) in rw z (keep_out (sym e ∙ g))

module _ (a : OneKind) (cols list : List ℕ) (i : ℕ) (held : HallHeld a.units a.size cols) (w : NumbersOf a.size.count list) (h : i < length list) {t : ℕ} (g : t ≡ get_or list i 0) where
  free_number : t < a.size.count
  unfolding NumbersOf
  free_number = rw g (w i h)

  pub free_inside : t < most_turns
  free_inside = omega (arith, free_number, held.held.few)

  pub free_in_hall : {r : Row} → r ≡ row_in cols t → RowInHall a.units r
  free_in_hall e = row_in_hall a cols t held free_number e

  pub free_more : (used free : List ℕ) (count : ℕ) {r : Row} {b : Bool} {k : ℕ} {z : List ℕ} → r ≡ row_in cols t → b ≡ free_row used r → k ≡ cond b 1 0 → count ≤ i → length list ≤ most_turns → length free ≡ most_turns
      → take count free ++ keep (free_in cols used) (drop i list) ≡ z → take (count + k) (set free count (get_or list i 0)) ++ keep (free_in cols used) (drop (i + 1) list) ≡ z
  unfolding free_in
  free_more used free count {b = b} e f o l m n q =
      let s : b ≡ free_row used (row_in cols (get_or list i 0)) = f ∙ ap (free_row used) e ∙ ap (λ (u : ℕ). free_row used (row_in cols u)) g in
      keep_more (free_in cols used) list free count i h s o (omega arith) ∙ q

module _ (cols used list free : List ℕ) where
  pub free_start : take 0 free ++ keep (free_in cols used) (drop 0 list) ≡ keep (free_in cols used) list
  free_start = refl

  pub free_done : (count i : ℕ) → length list ≤ i → i ≤ length list → take count free ++ keep (free_in cols used) (drop i list) ≡ keep (free_in cols used) list → take count free ≡ keep (free_in cols used) list
  unfolding keep
  free_done count i h l e =
      let q : i ≡ length list = omega arith in
      let d : keep (free_in cols used) (drop i list) ≡ [] = rw (q, drop-length list) in
      sym (append-nil (take count free)) ∙ ap (λ (x : List ℕ). take count free ++ x) (sym d) ∙ e

pub ruleset free_cases = (free_inside, free_in_hall, free_more, free_start, free_done)

-- ---- parts of a list

module _ (list : List ℕ) (k : ℕ) (l : k ≤ length list) where
  pub part_size : k ≡ length (take k list)
  part_size = sym (length-take-le k list l)

  pub part_few : (units : ℕ) (p : Size) (cols : List ℕ) → HallHeld units p cols → k ≤ p.count → length (take k list) ≤ most_turns
  part_few units p cols held h = omega (arith, held.held.few, length-take-le k list l)

  rest_is : take (length list - k) (drop k list) ≡ drop k list
  rest_is = take_all (length list - k) (drop k list) (omega (arith, length-drop k list))

  module _ (n : ℕ) (w : NumbersOf n list) where
    pub part_numbers : NumbersOf n (take k list)
    unfolding NumbersOf
    part_numbers i h = let m : i < k = omega (arith, length-take-le k list l) in rw (get_or-take k list i 0 m) (w i (omega arith))

    pub rest_numbers : NumbersOf n (take (length list - k) (drop k list))
    unfolding NumbersOf
    rest_numbers i h = let m : k + i < length list = omega (arith, length-drop k list, ap (λ (x : List ℕ). length x) rest_is) in rw (rest_is, get_or-drop k list i 0) (w (k + i) m)

  -- choosing from the part after, then from the one before
  pub parts_chosen : (test : List Bool → ℕ → Bool) (n : ℕ) {S U W : List Bool} → S ≡ replicate n false → U ≡ choose_each test (take (length list - k) (drop k list)) S → W ≡ choose_each test (take k list) U → W ≡ choose_each test list (replicate n false)
  parts_chosen test n e f g =
      g
      ∙ ap (choose_each test (take k list)) (f ∙ ap (choose_each test (take (length list - k) (drop k list))) e ∙ ap (λ (ts : List ℕ). choose_each test ts (replicate n false)) rest_is)
      ∙ sym (each_both test (take k list) (drop k list) (replicate n false))
      ∙ ap (λ (ts : List ℕ). choose_each test ts (replicate n false)) (take-append-drop k list)

pub ruleset parts_cases = (part_size, part_few, part_numbers, rest_numbers, supplied_none)

-- ---- the kept ones as a list

pub kept_size : (free : List ℕ) (count : ℕ) {n : ℕ} → count ≤ n → n ≤ most_turns → length free ≡ most_turns → count ≡ length (take count free)
kept_size free count h k l = sym (length-take-le count free (omega arith))

numbers_kept : (n : ℕ) (p : ℕ → Bool) (list : List ℕ) → NumbersOf n list → NumbersOf n (keep p list)
unfolding NumbersOf keep
numbers_kept n p [] w = w
numbers_kept n p (t ∷ ts) w = go (p t) (numbers_kept n p ts (λ k l. w (suc k) (omega arith)))
  where
    go : (b : Bool) → ((k : ℕ) → k < length (keep p ts) → get_or (keep p ts) k 0 < n) → (k : ℕ) → k < length (cond b (t ∷ keep p ts) (keep p ts)) → get_or (cond b (t ∷ keep p ts) (keep p ts)) k 0 < n
    go true ih zero l = w 0 (omega arith)
    go true ih (suc k) l = ih k (omega arith)
    go false ih k l = ih k l

pub kept_numbers : (n : ℕ) (cols used list : List ℕ) {kept : List ℕ} → NumbersOf n list → kept ≡ keep (free_in cols used) list → NumbersOf n kept
kept_numbers n cols used list w e = rw e (numbers_kept n (free_in cols used) list w)

-- ---- choosing from what is left

module _ (H : Hall) where
  -- a vehicle that has a window has it beside more windows
  taken_more : (S : List Bool) (j t : ℕ) → vehicle_free H S t ≡ false → vehicle_free H (set S j true) t ≡ false
  unfolding vehicle_free
  taken_more S j t e =
      let (u, l, g) = every_not (λ u. not (has S u && same_vehicle H u t)) (window_count H) e in
      let both : (has S u && same_vehicle H u t) ≡ true = not-false (has S u && same_vehicle H u t) g in
      let here : has (set S j true) u ≡ true = put_keeps S j u (and_1 (has S u) (same_vehicle H u t) both) in
      let same : same_vehicle H u t ≡ true = and_2 (has S u) (same_vehicle H u t) both in
      every_fails (λ u. not (has (set S j true) u && same_vehicle H u t)) (window_count H) u l (rw (here, same))

  module _ (kind : ℕ → Bool) where
    taken_unfit : (S : List Bool) (t : ℕ) → vehicle_free H S t ≡ false → fits_among H kind S t ≡ false
    unfolding fits_among stays_allowed
    taken_unfit S t e = rw e (and_false (kind t))

    each_left : (p : ℕ → Bool) (S : List Bool) (js : List ℕ) → ((k : ℕ) → k < length js → p (get_or js k 0) ≡ false → vehicle_free H S (get_or js k 0) ≡ false) → choose_each (fits_among H kind) (keep p js) S ≡ choose_each (fits_among H kind) js S
    unfolding choose_each keep
    each_left p S [] h = refl
    each_left p S (j ∷ js) h = go (p j) refl (each_left p S js (λ k l. h (suc k) (omega arith)))
      where
        go : (b : Bool) → p j ≡ b → choose_each (fits_among H kind) (keep p js) S ≡ choose_each (fits_among H kind) js S
            → choose_each (fits_among H kind) (cond b (j ∷ keep p js) (keep p js)) S ≡ choose (fits_among H kind) (choose_each (fits_among H kind) js S) j
        go true e ih = ap (λ (U : List Bool). choose (fits_among H kind) U j) ih
        go false e ih =
            ih
            ∙ sym (choose_not (fits_among H kind) (choose_each (fits_among H kind) js S) j (taken_unfit (choose_each (fits_among H kind) js S) j (each_kept (fits_among H kind) (λ U. vehicle_free H U j ≡ false) (λ U k f q. taken_more U k j q) js S (h 0 (omega arith) e))))

pub kept_chosen : (a : OneKind) (any : Bool) (cols list used : List ℕ) {S U : List Bool} {kept : List ℕ} → NumbersOf a.size.count list → Supplied (kind_hall a cols) S used → kept ≡ keep (free_in cols used) list
    → U ≡ choose_each (fits_among (kind_hall a cols) (meant a any cols)) kept S → U ≡ choose_each (fits_among (kind_hall a cols) (meant a any cols)) list S
unfolding free_in free_row NumbersOf
kept_chosen a any cols list used {S = S} w s e f =
    f ∙ ap (λ (ts : List ℕ). choose_each (fits_among (kind_hall a cols) (meant a any cols)) ts S) e ∙ each_left (kind_hall a cols) (meant a any cols) (free_in cols used) S list taken
  where
    taken : (i : ℕ) → i < length list → free_in cols used (get_or list i 0) ≡ false → vehicle_free (kind_hall a cols) S (get_or list i 0) ≡ false
    taken i h b =
        let t = get_or list i 0 in
        let m : t < a.size.count = w i h in
        let c : t < window_count (kind_hall a cols) = omega (arith, m, count_is a.size cols) in
        sym (s.vehicles t c) ∙ rw (sym (slope_at a.size cols t m refl)) b

pub ruleset kept_cases = (kept_size, kept_numbers)
