-- Rows in columns: one that is put is read back and leaves the others, and the problem that they pose. Assumes nothing.
use mathlib.Core.Path.{◌≡◌, refl, sym, ◌∙◌, ap}
use mathlib.Core.Bool.{Bool}
use mathlib.Core.List.{List}
use Prim.Native.Nat.{ℕ, ◌+◌, ◌-◌, ◌*◌, ◌≤◌, ◌<◌}
use native.Mathlib.Omega.{arith}
use lib.ListN.{length, get_or, set, take, drop, length-set, length-drop}
use lib.Seq.{get_or-set_same, get_or-set_other, get_or-take, get_or-drop, ext_get_or, length-take-le}
use borrow.Author.Tests.{lt-ltb}
use Rattle.lists.specs.Lists.{tab}
use Rattle.lists.proofs.Sums.{tab_length, tab_at}
use Rattle.model.specs.Turns.{PositiveLengths, one_groomer, one_driver, conflict}
use Rattle.sheet.specs.Kind.{most_turns}
use Rattle.instance.specs.declared.ways.Row.{Row}
use Rattle.instance.specs.declared.ways.Ways.{Ways}
use Rattle.instance.specs.declared.columns.Size.{Size}
use Rattle.instance.specs.Ways.{turn_row, shared_of, conflicting}
use Rattle.instance.specs.Columns.{column_places, row_in, with_row, within, turns_by, Held}
use Rattle.instance.proofs.Conflicting.{rows_conflict, shared_groomer, shared_driver}

-- ---- as the code leaves them

pub row_read : (cols : List ℕ) (i : ℕ)
    → ◌≡◌ {A = Row} (record { slope = get_or cols i 0; groomer = get_or cols (most_turns + i) 0; start = get_or cols (2 * most_turns + i) 0; end = get_or cols (3 * most_turns + i) 0; worth = get_or cols (4 * most_turns + i) 0; driver = get_or cols (5 * most_turns + i) 0 }) (row_in cols i)
unfolding row_in
row_read cols i = refl

pub row_put : (cols : List ℕ) (i : ℕ) (r : Row)
    → set (set (set (set (set (set cols i r.slope) (most_turns + i) r.groomer) (2 * most_turns + i) r.start) (3 * most_turns + i) r.end) (4 * most_turns + i) r.worth) (5 * most_turns + i) r.driver ≡ with_row cols i r
unfolding with_row
row_put cols i r = refl

pub ruleset row_cases = (row_read, row_put)

-- ---- a row that is put

module _ (cols : List ℕ) (i : ℕ) (r : Row) where
  abbrev c₁ : List ℕ
  c₁ = set cols i r.slope

  abbrev c₂ : List ℕ
  c₂ = set c₁ (most_turns + i) r.groomer

  abbrev c₃ : List ℕ
  c₃ = set c₂ (2 * most_turns + i) r.start

  abbrev c₄ : List ℕ
  c₄ = set c₃ (3 * most_turns + i) r.end

  abbrev c₅ : List ℕ
  c₅ = set c₄ (4 * most_turns + i) r.worth

  pub row_length : length (with_row cols i r) ≡ length cols
  unfolding with_row
  row_length = simp length-set

  kept : (k : ℕ) → (k ≡ i → ⊥) → (k ≡ most_turns + i → ⊥) → (k ≡ 2 * most_turns + i → ⊥) → (k ≡ 3 * most_turns + i → ⊥) → (k ≡ 4 * most_turns + i → ⊥) → (k ≡ 5 * most_turns + i → ⊥) → get_or (with_row cols i r) k 0 ≡ get_or cols k 0
  unfolding with_row
  kept k a b c d e f =
      get_or-set_other c₅ (5 * most_turns + i) k r.driver 0 f
      ∙ get_or-set_other c₄ (4 * most_turns + i) k r.worth 0 e
      ∙ get_or-set_other c₃ (3 * most_turns + i) k r.end 0 d
      ∙ get_or-set_other c₂ (2 * most_turns + i) k r.start 0 c
      ∙ get_or-set_other c₁ (most_turns + i) k r.groomer 0 b
      ∙ get_or-set_other cols i k r.slope 0 a

  -- the other rows stay
  pub row_other : (k : ℕ) → k < most_turns → i < most_turns → (k ≡ i → ⊥) → row_in (with_row cols i r) k ≡ row_in cols k
  unfolding row_in
  row_other k l h d = λ j. record {
    slope = kept k d (omega arith) (omega arith) (omega arith) (omega arith) (omega arith) j;
    groomer = kept (most_turns + k) (omega arith) (λ e. d (omega arith)) (omega arith) (omega arith) (omega arith) (omega arith) j;
    start = kept (2 * most_turns + k) (omega arith) (omega arith) (λ e. d (omega arith)) (omega arith) (omega arith) (omega arith) j;
    end = kept (3 * most_turns + k) (omega arith) (omega arith) (omega arith) (λ e. d (omega arith)) (omega arith) (omega arith) j;
    worth = kept (4 * most_turns + k) (omega arith) (omega arith) (omega arith) (omega arith) (λ e. d (omega arith)) (omega arith) j;
    driver = kept (5 * most_turns + k) (omega arith) (omega arith) (omega arith) (omega arith) (omega arith) (λ e. d (omega arith)) j;
  }

  -- and the new one is there
  module _ (h : i < most_turns) (w : length cols ≡ column_places) where
    pub row_new : row_in (with_row cols i r) i ≡ r
    unfolding row_in with_row
    row_new = λ j. record {
      slope = (get_or-set_other c₅ (5 * most_turns + i) i r.driver 0 (omega arith) ∙ get_or-set_other c₄ (4 * most_turns + i) i r.worth 0 (omega arith) ∙ get_or-set_other c₃ (3 * most_turns + i) i r.end 0 (omega arith) ∙ get_or-set_other c₂ (2 * most_turns + i) i r.start 0 (omega arith) ∙ get_or-set_other c₁ (most_turns + i) i r.groomer 0 (omega arith) ∙ get_or-set_same cols i r.slope 0 (omega arith)) j;
      groomer = (get_or-set_other c₅ (5 * most_turns + i) (most_turns + i) r.driver 0 (omega arith) ∙ get_or-set_other c₄ (4 * most_turns + i) (most_turns + i) r.worth 0 (omega arith) ∙ get_or-set_other c₃ (3 * most_turns + i) (most_turns + i) r.end 0 (omega arith) ∙ get_or-set_other c₂ (2 * most_turns + i) (most_turns + i) r.start 0 (omega arith) ∙ get_or-set_same c₁ (most_turns + i) r.groomer 0 (simp length-set (omega arith))) j;
      start = (get_or-set_other c₅ (5 * most_turns + i) (2 * most_turns + i) r.driver 0 (omega arith) ∙ get_or-set_other c₄ (4 * most_turns + i) (2 * most_turns + i) r.worth 0 (omega arith) ∙ get_or-set_other c₃ (3 * most_turns + i) (2 * most_turns + i) r.end 0 (omega arith) ∙ get_or-set_same c₂ (2 * most_turns + i) r.start 0 (simp length-set (omega arith))) j;
      end = (get_or-set_other c₅ (5 * most_turns + i) (3 * most_turns + i) r.driver 0 (omega arith) ∙ get_or-set_other c₄ (4 * most_turns + i) (3 * most_turns + i) r.worth 0 (omega arith) ∙ get_or-set_same c₃ (3 * most_turns + i) r.end 0 (simp length-set (omega arith))) j;
      worth = (get_or-set_other c₅ (5 * most_turns + i) (4 * most_turns + i) r.driver 0 (omega arith) ∙ get_or-set_same c₄ (4 * most_turns + i) r.worth 0 (simp length-set (omega arith))) j;
      driver = get_or-set_same c₅ (5 * most_turns + i) r.driver 0 (simp length-set (omega arith)) j;
    }

-- ---- the problem

pub within_at : (n : ℕ) (f : ℕ → ℕ) (t : ℕ) → t < n → within n f t ≡ f t
unfolding within
within_at n f t h = rw (lt-ltb t n h)

module _ (p : Size) (cols : List ℕ) where
  pub count_is : (turns_by p cols).count ≡ p.count
  unfolding turns_by
  count_is = refl

  pub gap_is : (turns_by p cols).gap ≡ p.gap
  unfolding turns_by
  gap_is = refl

  -- row t of the columns is turn t's
  pub row_is : (t : ℕ) → t < p.count → row_in cols t ≡ turn_row (turns_by p cols) t
  unfolding turns_by turn_row
  row_is t h = λ j. record {
    slope = sym (within_at p.count (λ i. (row_in cols i).slope) t h) j;
    groomer = sym (within_at p.count (λ i. (row_in cols i).groomer) t h) j;
    start = sym (within_at p.count (λ i. (row_in cols i).start) t h) j;
    end = sym (within_at p.count (λ i. (row_in cols i).end) t h) j;
    worth = sym (within_at p.count (λ i. (row_in cols i).worth) t h) j;
    driver = sym (within_at p.count (λ i. (row_in cols i).driver) t h) j;
  }

  gapped : (x y : ℕ) → conflicting p.gap (turn_row (turns_by p cols) x) (turn_row (turns_by p cols) y) ≡ conflict (turns_by p cols) x y
  unfolding turns_by
  gapped x y = rows_conflict (turns_by p cols) x y

  pub rows_conflict_is : (x y : ℕ) {a b : Row} {r : Bool} → x < p.count → y < p.count → a ≡ row_in cols x → b ≡ row_in cols y → r ≡ conflicting p.gap a b → r ≡ conflict (turns_by p cols) x y
  rows_conflict_is x y h k e f g = g ∙ rw (e, f, row_is x h, row_is y k) (gapped x y)

  pub rows_groomer_is : (x y : ℕ) {a b : Row} {w : Ways} → x < p.count → y < p.count → a ≡ row_in cols x → b ≡ row_in cols y → w ≡ shared_of a b → w.groomer ≡ one_groomer (turns_by p cols) x y
  rows_groomer_is x y h k e f g = ap (λ (w : Ways). w.groomer) g ∙ rw (e, f, row_is x h, row_is y k) (shared_groomer (turns_by p cols) x y)

  pub rows_driver_is : (x y : ℕ) {a b : Row} {w : Ways} → x < p.count → y < p.count → a ≡ row_in cols x → b ≡ row_in cols y → w ≡ shared_of a b → w.driver ≡ one_driver (turns_by p cols) x y
  rows_driver_is x y h k e f g = ap (λ (w : Ways). w.driver) g ∙ rw (e, f, row_is x h, row_is y k) (shared_driver (turns_by p cols) x y)

  -- a number of turn t, from its row
  module _ (t : ℕ) {a : Row} (h : t < p.count) (e : a ≡ row_in cols t) where
    row_at_is : a ≡ turn_row (turns_by p cols) t
    row_at_is = e ∙ row_is t h

    pub slope_at : a.slope ≡ (turns_by p cols).slope t
    unfolding turn_row
    slope_at = ap (λ (r : Row). r.slope) row_at_is

    pub groomer_at : a.groomer ≡ (turns_by p cols).groomer t
    unfolding turn_row
    groomer_at = ap (λ (r : Row). r.groomer) row_at_is

    pub start_at : a.start ≡ (turns_by p cols).start t
    unfolding turn_row
    start_at = ap (λ (r : Row). r.start) row_at_is

    pub end_at : a.end ≡ (turns_by p cols).end t
    unfolding turn_row
    end_at = ap (λ (r : Row). r.end) row_at_is

    pub worth_at : a.worth ≡ (turns_by p cols).worth t
    unfolding turn_row
    worth_at = ap (λ (r : Row). r.worth) row_at_is

  pub lengths_are : Held p cols → PositiveLengths (turns_by p cols)
  lengths_are b t h = b.starts t (omega (arith, count_is))

-- ---- one column

column_part : (cols : List ℕ) (k n : ℕ) (f : ℕ → ℕ) → k + n ≤ length cols → ((t : ℕ) → t < n → get_or cols (k + t) 0 ≡ f t) → take (k + n - k) (drop k cols) ≡ tab n f
column_part cols k n f l h =
    let e : k + n - k ≡ n = omega arith in
    let z : length (take n (drop k cols)) ≡ n = length-take-le n (drop k cols) (omega (arith, length-drop k cols)) in
    rw e (
    ext_get_or 0 (take n (drop k cols)) (tab n f) (z ∙ sym (tab_length n f))
    (λ i m. let j : i < n = omega arith in get_or-take n (drop k cols) i 0 j ∙ get_or-drop k cols i 0 ∙ h i j ∙ sym (tab_at n f 0 i j)))

module _ (p : Size) (cols : List ℕ) (w : Held p cols) where
  pub starts_part : take (2 * most_turns + p.count - 2 * most_turns) (drop (2 * most_turns) cols) ≡ tab p.count (turns_by p cols).start
  unfolding row_in
  starts_part = column_part cols (2 * most_turns) p.count (turns_by p cols).start (omega (arith, w.places, w.few)) (λ t h. start_at p cols t h refl)

  pub ends_part : take (3 * most_turns + p.count - 3 * most_turns) (drop (3 * most_turns) cols) ≡ tab p.count (turns_by p cols).end
  unfolding row_in
  ends_part = column_part cols (3 * most_turns) p.count (turns_by p cols).end (omega (arith, w.places, w.few)) (λ t h. end_at p cols t h refl)

pub ruleset column_cases = (starts_part, ends_part)
