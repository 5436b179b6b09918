-- From a sheet's table to the columns, one column after another, and then the ends. Assumes nothing.
use mathlib.Core.Path.{◌≡◌, refl, sym, ap, ◌∙◌, subst}
use mathlib.Core.List.{List}
use Prim.Native.Nat.{ℕ, ◌+◌, ◌*◌, ◌≤◌, ◌<◌}
use native.Mathlib.Omega.{arith}
use native.Mathlib.Numerals.{add-one}
use lib.ListN.{length, get_or}
use Rattle.lists.proofs.Bools.{up_to}
use Rattle.turn.specs.Turn.{row_numbers, turn_in}
use Rattle.sheet.specs.Kind.{most_turns}
use Rattle.instance.specs.declared.ways.Row.{Row}
use Rattle.instance.specs.Ways.{row_for}
use Rattle.instance.specs.Columns.{column_count, column_places, row_in, with_row}
use Rattle.instance.specs.Load.{EndsFit, Copied, with_end, LengthsFit, EndsPut, RowsOf}
use Rattle.instance.proofs.Rows.{row_length, row_new, row_other}

-- ---- the ends

pub end_put : (r : Row) → ◌≡◌ {A = Row} (record { slope = r.slope; groomer = r.groomer; start = r.start; end = r.start + r.end; worth = r.worth; driver = r.driver }) (with_end r)
unfolding with_end
end_put r = refl

module _ (n : ℕ) (old cols : List ℕ) where
  pub ends_none : length old ≡ column_places → EndsPut n old old 0
  ends_none w = record { places = w; put = λ t h. absurd (omega arith); rest = λ t h l. refl }

  module _ (i : ℕ) (s : EndsPut n old cols i) where
    pub end_fits : {r : Row} → r ≡ row_in cols i → i < n → LengthsFit n old → r.start + r.end < 65536
    unfolding LengthsFit
    end_fits e l f = rw (e, s.rest i (omega arith) l) (f i l)

    pub ends_more : {r a : Row} {cols' : List ℕ} → i < n → n ≤ most_turns → r ≡ row_in cols i → a ≡ with_end r → cols' ≡ with_row cols i a → EndsPut n old cols' (i + 1)
    ends_more {r} {a} l m e f q =
        let h : i < most_turns = omega arith in
        rw (add-one, q) (record {
          places = row_length cols i a ∙ s.places;
          put = up_to (λ t. row_in (with_row cols i a) t ≡ with_end (row_in old t)) i (λ t k. row_other cols i a t (omega arith) h (omega arith) ∙ s.put t k) (row_new cols i a h s.places ∙ f ∙ ap with_end (e ∙ s.rest i (omega arith) l));
          rest = λ t k b. row_other cols i a t (omega arith) h (λ z. omega arith) ∙ s.rest t (omega arith) b;
        })

    pub ends_done : i ≤ n → n ≤ i → EndsPut n old cols n
    ends_done h l = let q : i ≡ n = omega arith in subst (EndsPut n old cols) q s

pub ruleset ends_cases = (ends_none, end_fits, ends_more, ends_done)

-- ---- both

module _ (table : List ℕ) (n : ℕ) (cols : List ℕ) (s : Copied table n cols column_count) where
  -- the values of a turn, its length in the end's place
  copied_row : (t : ℕ) → t < n → row_in cols t ≡ record { slope = (turn_in table t).slope; groomer = (turn_in table t).groomer; start = (turn_in table t).start; end = (turn_in table t).length; worth = (turn_in table t).worth; driver = (turn_in table t).driver }
  unfolding row_in
  copied_row t l = λ j. record {
    slope = at 0 t (t * row_numbers) (omega arith) (omega arith) (omega arith) j;
    groomer = at 1 (most_turns + t) (t * row_numbers + 1) (omega arith) (omega arith) (omega arith) j;
    start = at 2 (2 * most_turns + t) (t * row_numbers + 2) (omega arith) (omega arith) (omega arith) j;
    end = at 3 (3 * most_turns + t) (t * row_numbers + 3) (omega arith) (omega arith) (omega arith) j;
    worth = at 4 (4 * most_turns + t) (t * row_numbers + 4) (omega arith) (omega arith) (omega arith) j;
    driver = at 5 (5 * most_turns + t) (t * row_numbers + 5) (omega arith) (omega arith) (omega arith) j;
  }
    where
      at : (k p q : ℕ) → k < column_count → k * most_turns + t ≡ p → t * row_numbers + k ≡ q → get_or cols p 0 ≡ get_or table q 0
      at k p q h a b = rw (sym a, sym b) (s.values k t h l)

  pub lengths_fit : EndsFit n table → LengthsFit n cols
  unfolding EndsFit LengthsFit
  lengths_fit f t l = rw (copied_row t l) (f t l)

  pub rows_put : {cols' : List ℕ} → EndsPut n cols cols' n → RowsOf table cols' n
  unfolding RowsOf with_end row_for
  rows_put e t l = e.put t l ∙ ap with_end (copied_row t l)

pub ruleset rows_cases = (lengths_fit, rows_put)
