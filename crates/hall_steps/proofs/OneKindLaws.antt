-- The windows of one kind as turns in columns: rows by their cases, and the problem that they pose. Assumes nothing.
use mathlib.Core.Path.{◌≡◌, refl, ◌∙◌, ap}
use mathlib.Core.Bool.{Bool, true, false, not, cond}
use mathlib.Core.List.{List}
use Prim.Native.Nat.{ℕ, ◌+◌, ◌*◌, ◌≤◌, ◌<◌}
use native.Mathlib.Omega.{arith}
use native.Mathlib.Numerals.{add-one}
use native.Mathlib.Decide.{dec_lt}
use lib.Dec.{ltb}
use lib.ListN.{length}
use borrow.Author.Tests.{lt-ltb, le-ltb}
use Rattle.lists.proofs.Bools.{up_to, cond_most}
use Rattle.sheet.specs.Kind.{most_turns}
use Rattle.instance.specs.declared.ways.Row.{Row}
use Rattle.instance.specs.declared.columns.Size.{Size}
use Rattle.instance.specs.Ways.{turn_row}
use Rattle.instance.specs.Columns.{column_places, row_in, with_row, within, turns_by, Held}
use Rattle.instance.proofs.Rows.{row_length, row_new, row_other, row_is}
use Rattle.charge_spec.specs.Hall.{Hall, draw, wide_draw}
use Rattle.hall_steps.specs.declared.one_kind.OneKind.{OneKind}
use Rattle.hall_steps.specs.OneKind.{kind_hall, kind_draw, of_kind, kind_row, engine_turns}
use Rattle.hall_steps.specs.Bounds.{HallHeld}

-- ---- one row

module _ (a : OneKind) (draw : ℕ) {u d : ℕ} (e : u ≡ a.units) (f : d ≡ draw) where
  pub kind_wide : a.wide ≡ true → ltb u (2 * d) ≡ kind_draw a draw
  unfolding kind_draw wide_draw
  kind_wide w = rw (w, e, f)

  pub kind_small : a.wide ≡ false → not (ltb u (2 * d)) ≡ kind_draw a draw
  unfolding kind_draw wide_draw
  kind_small w = rw (w, e, f)

pub row_of_kind : (a : OneKind) (r : Row) {own : Bool} {d g w : ℕ} → own ≡ kind_draw a r.groomer → d ≡ cond own r.groomer 0 → g ≡ cond (not a.wide) d 0 → w ≡ cond own r.worth 0
    → ◌≡◌ {A = Row} (record { slope = r.slope; groomer = g; start = r.start; end = r.end; worth = w; driver = 0 }) (kind_row a r)
unfolding kind_row
row_of_kind a r o e f h = rw (f, h, e, o)

pub ruleset row_cases = (kind_wide, kind_small, row_of_kind)

-- ---- all rows

-- the first i rows are what the engine gets of the hall's
unfoldable pub KindRows : OneKind → List ℕ → List ℕ → ℕ → Type 0
KindRows a cols own i = (t : ℕ) → t < i → row_in own t ≡ kind_row a (row_in cols t)

module _ (a : OneKind) (cols own : List ℕ) where
  pub one_kind_none : KindRows a cols own 0
  unfolding KindRows
  one_kind_none = λ t h. absurd (omega arith)

  pub one_kind_more : (i : ℕ) {x r : Row} {own' : List ℕ} → HallHeld a.units a.size cols → i < a.size.count → length own ≡ column_places → x ≡ row_in cols i → r ≡ kind_row a x → own' ≡ with_row own i r → KindRows a cols own i → KindRows a cols own' (i + 1)
  unfolding KindRows
  one_kind_more i {r = r} held l w e f q o =
      let h : i < most_turns = omega (arith, held.held.few) in
      rw (add-one, q) (up_to (λ t. row_in (with_row own i r) t ≡ kind_row a (row_in cols t)) i (λ t k. row_other own i r t (omega arith) h (omega arith) ∙ o t k) (row_new own i r h w ∙ f ∙ ap (kind_row a) e))

  module _ (i : ℕ) (held : HallHeld a.units a.size cols) (h : a.size.count ≤ i) (w : length own ≡ column_places) (o : KindRows a cols own i) where
    abbrev H : Hall
    H = kind_hall a cols

    abbrev p : Size
    p = a.size

    own_row : (t : ℕ) → t < p.count → row_in own t ≡ kind_row a (turn_row H.windows t)
    unfolding KindRows
    own_row t l = o t (omega arith) ∙ ap (kind_row a) (row_is p cols t l)

    -- a number of each window; 0 after the last
    own_number : (f : Row → ℕ) (g : ℕ → ℕ) → ((t : ℕ) → t < p.count → f (kind_row a (turn_row H.windows t)) ≡ g t) → ((t : ℕ) → p.count ≤ t → 0 ≡ g t) → (t : ℕ) → within p.count (λ u. f (row_in own u)) t ≡ g t
    unfolding within
    own_number f g e z t = go (dec_lt t p.count)
      where
        go : Dec (t < p.count) → cond (ltb t p.count) (f (row_in own t)) 0 ≡ g t
        go (yes l) = rw (lt-ltb t p.count l, own_row t l) (e t l)
        go (no l) = rw (le-ltb t p.count (omega arith)) (z t (omega arith))

    -- after the last window everything reads as 0
    behind : (f : Row → ℕ) (t : ℕ) → p.count ≤ t → 0 ≡ within p.count (λ u. f (row_in cols u)) t
    unfolding within
    behind f t l = rw (le-ltb t p.count l)

    -- a number of a window, or 0, by a test
    none_there : (b : Bool) {x : ℕ} → 0 ≡ x → 0 ≡ cond b x 0
    none_there true e = e
    none_there false e = refl

    pub one_kind_turns : turns_by a.size own ≡ engine_turns a cols
    unfolding turns_by engine_turns kind_row turn_row of_kind
    one_kind_turns = λ j. record {
      count = p.count;
      gap = held.gapless j;
      slope = λ t. own_number (λ r. r.slope) H.windows.slope (λ u l. refl) (behind (λ r. r.slope)) t j;
      groomer = λ t. own_number (λ r. r.groomer) (λ u. cond (not a.wide) (cond (of_kind a cols u) (draw H u) 0) 0) (λ u l. refl) (λ u l. none_there (not a.wide) (none_there (of_kind a cols u) (behind (λ r. r.groomer) u l))) t j;
      start = λ t. own_number (λ r. r.start) H.windows.start (λ u l. refl) (behind (λ r. r.start)) t j;
      end = λ t. own_number (λ r. r.end) H.windows.end (λ u l. refl) (behind (λ r. r.end)) t j;
      worth = λ t. own_number (λ r. r.worth) (λ u. cond (of_kind a cols u) (H.windows.worth u) 0) (λ u l. refl) (λ u l. none_there (of_kind a cols u) (behind (λ r. r.worth) u l)) t j;
      driver = λ t. own_number (λ r. r.driver) (λ u. 0) (λ u l. refl) (λ u l. refl) t j;
    }

    pub one_kind_held : Held a.size own
    unfolding engine_turns
    one_kind_held =
        record {
          places = w;
          few = held.held.few;
          slopes = λ t l. rw one_kind_turns (held.held.slopes t l);
          starts = λ t l. rw one_kind_turns (held.held.starts t l);
          ends = λ t l. rw one_kind_turns (held.held.ends t l);
          worths = λ t l. rw one_kind_turns (cond_most (of_kind a cols t) (held.held.worths t l));
        }

pub put_length : (cols : List ℕ) (i : ℕ) (r : Row) {cols' : List ℕ} → cols' ≡ with_row cols i r → length cols ≡ column_places → length cols' ≡ column_places
put_length cols i r e w = rw e (row_length cols i r ∙ w)

pub ruleset one_kind_cases = (one_kind_none, one_kind_more, put_length, one_kind_turns, one_kind_held)
