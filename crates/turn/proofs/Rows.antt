-- A table and its turns: a row for each, and back. Assumes nothing.
use Prim.Native.Nat.{ℕ, zero, suc, ◌+◌, ◌-◌, ◌*◌, ◌%◌, ◌<◌, ◌≤◌}
use mathlib.Core.Path.{◌≡◌, refl, sym, ◌∙◌, ap, ap₂}
use mathlib.Core.List.{List, [], ◌∷◌, ◌++◌}
use native.Mathlib.Omega.{arith}
use native.Mathlib.Nat.{zero-add}
use lib.ListN.{length, get_or, drop}
use lib.Seq.{drop-length, drop-drop, get_or-drop}
use Rattle.lists.proofs.Places.{drop_step}
use Rattle.turn.specs.declared.Turn.{Turn}
use Rattle.turn.specs.Turn.{row_numbers, row_of, rows, turn_in, turns_of_table, table_rows, table_turns}

-- ---- how many

pub rows_length : (ts : List Turn) → length (rows ts) ≡ row_numbers * length ts
unfolding rows
rows_length [] = refl
rows_length (t ∷ ts) = omega (arith, rows_length ts)

pub table_turns_length : (k : ℕ) (table : List ℕ) (i : ℕ) → length (turns_of_table k table i) ≡ k
unfolding turns_of_table
table_turns_length zero table i = refl
table_turns_length (suc k) table i = ap suc (table_turns_length k table (i + 1))

-- ---- one turn of a table

pub turns_step : (n i : ℕ) (table : List ℕ) → i < n → turns_of_table (n - i) table i ≡ turn_in table i ∷ turns_of_table (n - (i + 1)) table (i + 1)
unfolding turns_of_table
turns_step n i table h = let k : n - i ≡ suc (n - (i + 1)) = omega arith in rw k

pub turns_end : (n i : ℕ) (table : List ℕ) → n ≤ i → turns_of_table (n - i) table i ≡ []
unfolding turns_of_table
turns_end n i table h = let k : n - i ≡ 0 = omega arith in rw k

-- a row and more from a place on: the turn at that place, and the rest after its row
row_turn : (t : Turn) (rest table : List ℕ) (i : ℕ) → drop (i * row_numbers) table ≡ row_of t ++ rest → turn_in table i ≡ t
row_turn t rest table i e =
    let at : (k : ℕ) → get_or table (i * row_numbers + k) 0 ≡ get_or (row_of t ++ rest) k 0 = λ k. sym (get_or-drop (i * row_numbers) table k 0) ∙ ap (λ (l : List ℕ). get_or l k 0) e in
    let z : i * row_numbers ≡ i * row_numbers + 0 = omega arith in
    λ j. record { slope = (ap (λ (k : ℕ). get_or table k 0) z ∙ at 0) j; groomer = at 1 j; start = at 2 j; length = at 3 j; worth = at 4 j; driver = at 5 j }

row_rest : (t : Turn) (rest table : List ℕ) (i : ℕ) → drop (i * row_numbers) table ≡ row_of t ++ rest → drop ((i + 1) * row_numbers) table ≡ rest
row_rest t rest table i e =
    let n : (i + 1) * row_numbers ≡ i * row_numbers + row_numbers = omega arith in
    rw n (sym (drop-drop row_numbers (i * row_numbers) table) ∙ ap (drop row_numbers) e)

turn_row_lem : (table : List ℕ) (i : ℕ) → (i + 1) * row_numbers ≤ length table → drop (i * row_numbers) table ≡ row_of (turn_in table i) ++ drop ((i + 1) * row_numbers) table
turn_row_lem table i h =
    let j = i * row_numbers in
    let e2 : j + 1 + 1 ≡ j + 2 = omega arith in
    let e3 : j + 2 + 1 ≡ j + 3 = omega arith in
    let e4 : j + 3 + 1 ≡ j + 4 = omega arith in
    let e5 : j + 4 + 1 ≡ j + 5 = omega arith in
    let e6 : (i + 1) * row_numbers ≡ j + 5 + 1 = omega arith in
    rw (drop_step table j (omega arith), drop_step table (j + 1) (omega arith), e2, drop_step table (j + 2) (omega arith), e3, drop_step table (j + 3) (omega arith), e4, drop_step table (j + 4) (omega arith), e5, drop_step table (j + 5) (omega arith), e6)

-- ---- the turns of a table of rows are the turns

row_turns : (ts : List Turn) (table : List ℕ) (i : ℕ) → drop (i * row_numbers) table ≡ rows ts → turns_of_table (length ts) table i ≡ ts
unfolding rows turns_of_table
row_turns [] table i e = refl
row_turns (t ∷ ts) table i e = ap₂ ◌∷◌ (row_turn t (rows ts) table i e) (row_turns ts table (i + 1) (row_rest t (rows ts) table i e))

pub turns_rows : (ts : List Turn) → table_turns (rows ts) ≡ ts
turns_rows ts = let n : table_rows (rows ts) ≡ length ts = omega (arith, rows_length ts) in rw n (row_turns ts (rows ts) 0 refl)

-- turn i among them; past the end a list reads as any turn that is named
nth_row : (ts : List Turn) (table : List ℕ) (j i : ℕ) (d : Turn) → drop (j * row_numbers) table ≡ rows ts → i < length ts → turn_in table (j + i) ≡ get_or ts i d
unfolding rows
nth_row [] table j i d e h = absurd (omega arith)
nth_row (t ∷ ts) table j zero d e h = let z : j + 0 ≡ j = omega arith in rw z (row_turn t (rows ts) table j e)
nth_row (t ∷ ts) table j (suc i) d e h = let n : j + suc i ≡ j + 1 + i = omega arith in rw n (nth_row ts table (j + 1) i d (row_rest t (rows ts) table j e) (omega arith))

pub turn_of_rows : (ts : List Turn) (i : ℕ) (d : Turn) → i < length ts → turn_in (rows ts) i ≡ get_or ts i d
turn_of_rows ts i d h = ap (turn_in (rows ts)) (sym (zero-add i)) ∙ nth_row ts (rows ts) 0 i d refl h

-- ---- the rows of a table's turns are the table

table_rows_lem : (k : ℕ) (table : List ℕ) (i : ℕ) → (i + k) * row_numbers ≡ length table → rows (turns_of_table k table i) ≡ drop (i * row_numbers) table
unfolding rows turns_of_table
table_rows_lem zero table i h = let e : i * row_numbers ≡ length table = omega arith in rw e (sym (drop-length table))
table_rows_lem (suc k) table i h = rw (table_rows_lem k table (i + 1) (omega arith)) (sym (turn_row_lem table i (omega arith)))

pub rows_table : (table : List ℕ) → length table % row_numbers ≡ 0 → rows (table_turns table) ≡ table
rows_table table h = table_rows_lem (table_rows table) table 0 (omega arith)
