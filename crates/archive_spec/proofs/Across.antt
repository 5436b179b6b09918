-- All columns one after another: put, and read into a table's rows. Assumes nothing.
use Prim.Native.Nat.{ℕ, zero, suc, ◌+◌, ◌*◌, ◌%◌, ◌<◌, ◌≤◌}
use mathlib.Core.Path.{◌≡◌, refl, ◌∙◌, ap, ap₂}
use mathlib.Core.List.{List, [], ◌∷◌, ◌++◌}
use native.Mathlib.Omega.{arith}
use lib.ListN.{length, get_or, set, length-append, length-set}
use lib.Seq.{get_or-set_same, get_or-set_other}
use Rattle.wire.specs.Number.{puts}
use Rattle.wire.proofs.Puts.{puts_append}
use Rattle.turn.specs.declared.Turn.{Turn}
use Rattle.turn.specs.Turn.{row_numbers, turn_in, turns_of_table}
use Rattle.sheet.specs.Record.{width_of}
use Rattle.archive_spec.specs.declared.Field.{Field}
use Rattle.archive_spec.specs.Column.{slopes, groomers, starts, lengths, worths, drivers, size_in, field_in, field_value, column_size, values_of, column_of, column_read, widths, columns_of, Columns, columns_in, turn_across, turns_across, spread}
use Rattle.archive_spec.proofs.ColumnCases.{field_in_length}

-- ---- lengths

pub values_length : (F : Field) (ts : List Turn) → length (values_of F ts) ≡ length ts
unfolding values_of
values_length F [] = refl
values_length F (t ∷ ts) = ap suc (values_length F ts)

pub column_length : (F : Field) (ms vs : List ℕ) → length vs ≡ length ms → length (column_of F ms vs) ≡ column_size F ms
unfolding column_of column_size
column_length F [] vs e = refl
column_length F (m ∷ ms) [] e = absurd (omega arith)
column_length F (m ∷ ms) (v ∷ vs) e = length-append (field_in F m v) (column_of F ms vs) ∙ ap₂ ◌+◌ (field_in_length F m v) (column_length F ms vs (omega arith))

pub read_length : (F : Field) (ms s : List ℕ) (at old : ℕ) → length (column_read F ms s at old) ≡ length ms
unfolding column_read
read_length F [] s at old = refl
read_length F (m ∷ ms) s at old = ap suc (read_length F ms s (at + size_in F m) (field_value F s at m old))

pub widths_sum : (ms : List ℕ) → widths ms ≡ column_size slopes ms + column_size groomers ms + column_size starts ms + column_size lengths ms + column_size worths ms + column_size drivers ms
unfolding widths column_size size_in width_of
widths_sum [] = refl
widths_sum (m ∷ ms) = omega (arith, widths_sum ms)

-- ---- put

pub columns_put : (l ms : List ℕ) (ts : List Turn) (at : ℕ) {l1 l2 l3 l4 l5 l6 : List ℕ} {p1 p2 p3 p4 p5 : ℕ} → length ts ≡ length ms
    → p1 ≡ at + column_size slopes ms → l1 ≡ puts l at (column_of slopes ms (values_of slopes ts))
    → p2 ≡ p1 + column_size groomers ms → l2 ≡ puts l1 p1 (column_of groomers ms (values_of groomers ts))
    → p3 ≡ p2 + column_size starts ms → l3 ≡ puts l2 p2 (column_of starts ms (values_of starts ts))
    → p4 ≡ p3 + column_size lengths ms → l4 ≡ puts l3 p3 (column_of lengths ms (values_of lengths ts))
    → p5 ≡ p4 + column_size worths ms → l5 ≡ puts l4 p4 (column_of worths ms (values_of worths ts))
    → l6 ≡ puts l5 p5 (column_of drivers ms (values_of drivers ts))
    → l6 ≡ puts l at (columns_of ms ts)
unfolding columns_of
columns_put l ms ts at {l1} {l2} {l3} {l4} {l5} {l6} {p1} {p2} {p3} {p4} {p5} n h1 e1 h2 e2 h3 e3 h4 e4 h5 e5 e6 =
    let f1 = column_of slopes ms (values_of slopes ts) in
    let f2 = column_of groomers ms (values_of groomers ts) in
    let f3 = column_of starts ms (values_of starts ts) in
    let f4 = column_of lengths ms (values_of lengths ts) in
    let f5 = column_of worths ms (values_of worths ts) in
    let f6 = column_of drivers ms (values_of drivers ts) in
    let long : (F : Field) → length (column_of F ms (values_of F ts)) ≡ column_size F ms = λ F. column_length F ms (values_of F ts) (values_length F ts ∙ n) in
    let q5 : l6 ≡ puts l4 p4 (f5 ++ f6) = e6 ∙ rw e5 (puts_append f5 f6 l4 p4 p5 (omega (arith, long worths))) in
    let q4 : l6 ≡ puts l3 p3 (f4 ++ (f5 ++ f6)) = q5 ∙ rw e4 (puts_append f4 (f5 ++ f6) l3 p3 p4 (omega (arith, long lengths))) in
    let q3 : l6 ≡ puts l2 p2 (f3 ++ (f4 ++ (f5 ++ f6))) = q4 ∙ rw e3 (puts_append f3 (f4 ++ (f5 ++ f6)) l2 p2 p3 (omega (arith, long starts))) in
    let q2 : l6 ≡ puts l1 p1 (f2 ++ (f3 ++ (f4 ++ (f5 ++ f6)))) = q3 ∙ rw e2 (puts_append f2 (f3 ++ (f4 ++ (f5 ++ f6))) l1 p1 p2 (omega (arith, long groomers))) in
    q2 ∙ rw e1 (puts_append f1 (f2 ++ (f3 ++ (f4 ++ (f5 ++ f6)))) l at p1 (omega (arith, long slopes)))

-- ---- read: values a row apart

spread_length : (vs l : List ℕ) (at : ℕ) → length (spread l at vs) ≡ length l
unfolding spread
spread_length [] l at = refl
spread_length (v ∷ vs) l at = spread_length vs (set l at v) (at + row_numbers) ∙ length-set l at v

-- the places before them stay
spread_before : (vs l : List ℕ) (at j : ℕ) → j < at → get_or (spread l at vs) j 0 ≡ get_or l j 0
unfolding spread
spread_before [] l at j h = refl
spread_before (v ∷ vs) l at j h = spread_before vs (set l at v) (at + row_numbers) j (omega arith) ∙ get_or-set_other l at j v 0 (omega arith)

-- so do the other places of a row
spread_other : (vs l : List ℕ) (at j : ℕ) → (j % row_numbers ≡ at % row_numbers → ⊥) → get_or (spread l at vs) j 0 ≡ get_or l j 0
unfolding spread
spread_other [] l at j h = refl
spread_other (v ∷ vs) l at j h =
    let n : j % row_numbers ≡ (at + row_numbers) % row_numbers → ⊥ = λ e. h (omega arith) in
    let o : j ≡ at → ⊥ = λ e. h (ap (λ (k : ℕ). k % row_numbers) e) in
    spread_other vs (set l at v) (at + row_numbers) j n ∙ get_or-set_other l at j v 0 o

spread_same : (vs l : List ℕ) (at i : ℕ) → i < length vs → at + row_numbers * length vs < length l + row_numbers → get_or (spread l at vs) (at + row_numbers * i) 0 ≡ get_or vs i 0
unfolding spread
spread_same [] l at i h r = absurd (omega arith)
spread_same (v ∷ vs) l at zero h r =
    let z : at + row_numbers * 0 ≡ at = omega arith in
    rw z (spread_before vs (set l at v) (at + row_numbers) at (omega arith) ∙ get_or-set_same l at v 0 (omega arith))
spread_same (v ∷ vs) l at (suc i) h r =
    let z : at + row_numbers * suc i ≡ at + row_numbers + row_numbers * i = omega arith in
    rw z (spread_same vs (set l at v) (at + row_numbers) i (omega arith) (omega (arith, length-set l at v)))

-- six columns of n values, one after another, are n turns
module _ (C : Columns) (n : ℕ) (l : List ℕ) (room : row_numbers * n ≤ length l)
    (k1 : length C.slope ≡ n) (k2 : length C.groomer ≡ n) (k3 : length C.start ≡ n) (k4 : length C.length ≡ n) (k5 : length C.worth ≡ n) (k6 : length C.driver ≡ n)
    {l1 l2 l3 l4 l5 l6 : List ℕ} (e1 : l1 ≡ spread l 0 C.slope) (e2 : l2 ≡ spread l1 1 C.groomer) (e3 : l3 ≡ spread l2 2 C.start)
    (e4 : l4 ≡ spread l3 3 C.length) (e5 : l5 ≡ spread l4 4 C.worth) (e6 : l6 ≡ spread l5 5 C.driver) where
  -- one column stands, and the later ones leave it
  stands : (a : List ℕ) {b : List ℕ} (p i j : ℕ) (vs : List ℕ) → b ≡ spread a p vs → i < length vs → p + row_numbers * length vs < length a + row_numbers → j ≡ p + row_numbers * i → get_or b j 0 ≡ get_or vs i 0
  stands a p i j vs e h r q = rw (e, q) (spread_same vs a p i h r)

  leaves : (a : List ℕ) {b : List ℕ} (p j : ℕ) (vs : List ℕ) → b ≡ spread a p vs → (j % row_numbers ≡ p % row_numbers → ⊥) → get_or b j 0 ≡ get_or a j 0
  leaves a p j vs e h = rw e (spread_other vs a p j h)

  long : (a : List ℕ) {b : List ℕ} (p : ℕ) (vs : List ℕ) → b ≡ spread a p vs → length b ≡ length a
  long a p vs e = rw e (spread_length vs a p)

  row_across : (i : ℕ) → i < n → turn_in l6 i ≡ turn_across C i
  unfolding turn_across
  row_across i h =
      let n1 = long l 0 C.slope e1 in
      let n2 = long l1 1 C.groomer e2 in
      let n3 = long l2 2 C.start e3 in
      let n4 = long l3 3 C.length e4 in
      let n5 = long l4 4 C.worth e5 in
      let j = i * row_numbers in
      let past6 : (q : ℕ) → q < 5 → get_or l6 (j + q) 0 ≡ get_or l5 (j + q) 0 = λ q b. leaves l5 5 (j + q) C.driver e6 (omega arith) in
      let past5 : (q : ℕ) → q < 4 → get_or l6 (j + q) 0 ≡ get_or l4 (j + q) 0 = λ q b. past6 q (omega arith) ∙ leaves l4 4 (j + q) C.worth e5 (omega arith) in
      let past4 : (q : ℕ) → q < 3 → get_or l6 (j + q) 0 ≡ get_or l3 (j + q) 0 = λ q b. past5 q (omega arith) ∙ leaves l3 3 (j + q) C.length e4 (omega arith) in
      let past3 : (q : ℕ) → q < 2 → get_or l6 (j + q) 0 ≡ get_or l2 (j + q) 0 = λ q b. past4 q (omega arith) ∙ leaves l2 2 (j + q) C.start e3 (omega arith) in
      let past2 : (q : ℕ) → q < 1 → get_or l6 (j + q) 0 ≡ get_or l1 (j + q) 0 = λ q b. past3 q (omega arith) ∙ leaves l1 1 (j + q) C.groomer e2 (omega arith) in
      let z : j ≡ j + 0 = omega arith in
      let a1 : get_or l6 j 0 ≡ get_or C.slope i 0 = ap (λ (x : ℕ). get_or l6 x 0) z ∙ past2 0 (omega arith) ∙ stands l 0 i (j + 0) C.slope e1 (omega arith) (omega arith) (omega arith) in
      let a2 : get_or l6 (j + 1) 0 ≡ get_or C.groomer i 0 = past3 1 (omega arith) ∙ stands l1 1 i (j + 1) C.groomer e2 (omega arith) (omega arith) (omega arith) in
      let a3 : get_or l6 (j + 2) 0 ≡ get_or C.start i 0 = past4 2 (omega arith) ∙ stands l2 2 i (j + 2) C.start e3 (omega arith) (omega arith) (omega arith) in
      let a4 : get_or l6 (j + 3) 0 ≡ get_or C.length i 0 = past5 3 (omega arith) ∙ stands l3 3 i (j + 3) C.length e4 (omega arith) (omega arith) (omega arith) in
      let a5 : get_or l6 (j + 4) 0 ≡ get_or C.worth i 0 = past6 4 (omega arith) ∙ stands l4 4 i (j + 4) C.worth e5 (omega arith) (omega arith) (omega arith) in
      let a6 : get_or l6 (j + 5) 0 ≡ get_or C.driver i 0 = stands l5 5 i (j + 5) C.driver e6 (omega arith) (omega arith) (omega arith) in
      λ x. record { slope = a1 x; groomer = a2 x; start = a3 x; length = a4 x; worth = a5 x; driver = a6 x }

  rows_from : (k i : ℕ) → i + k ≤ n → turns_of_table k l6 i ≡ turns_across k C i
  unfolding turns_of_table turns_across
  rows_from zero i h = refl
  rows_from (suc k) i h = ap₂ ◌∷◌ (row_across i (omega arith)) (rows_from k (i + 1) (omega arith))

  pub rows_across : turns_of_table n l6 0 ≡ turns_across n C 0
  rows_across = rows_from n 0 (omega arith)

pub columns_read : (ms s : List ℕ) (at : ℕ) (l : List ℕ) {l1 l2 l3 l4 l5 l6 : List ℕ} {p1 p2 p3 p4 p5 : ℕ} → row_numbers * length ms ≤ length l
    → p1 ≡ at + column_size slopes ms → l1 ≡ spread l 0 (column_read slopes ms s at 0)
    → p2 ≡ p1 + column_size groomers ms → l2 ≡ spread l1 1 (column_read groomers ms s p1 0)
    → p3 ≡ p2 + column_size starts ms → l3 ≡ spread l2 2 (column_read starts ms s p2 0)
    → p4 ≡ p3 + column_size lengths ms → l4 ≡ spread l3 3 (column_read lengths ms s p3 0)
    → p5 ≡ p4 + column_size worths ms → l5 ≡ spread l4 4 (column_read worths ms s p4 0)
    → l6 ≡ spread l5 5 (column_read drivers ms s p5 0)
    → turns_of_table (length ms) l6 0 ≡ turns_across (length ms) (columns_in ms s at) 0
unfolding columns_in
columns_read ms s at l {p1 = p1} {p2 = p2} {p3 = p3} {p4 = p4} {p5 = p5} room h1 e1 h2 e2 h3 e3 h4 e4 h5 e5 e6 =
    let q1 : p1 ≡ at + column_size slopes ms = h1 in
    let q2 : p2 ≡ at + column_size slopes ms + column_size groomers ms = omega arith in
    let q3 : p3 ≡ at + column_size slopes ms + column_size groomers ms + column_size starts ms = omega arith in
    let q4 : p4 ≡ at + column_size slopes ms + column_size groomers ms + column_size starts ms + column_size lengths ms = omega arith in
    let q5 : p5 ≡ at + column_size slopes ms + column_size groomers ms + column_size starts ms + column_size lengths ms + column_size worths ms = omega arith in
    rows_across (columns_in ms s at) (length ms) l room
    (read_length slopes ms s _ 0) (read_length groomers ms s _ 0) (read_length starts ms s _ 0) (read_length lengths ms s _ 0) (read_length worths ms s _ 0) (read_length drivers ms s _ 0)
    e1 (e2 ∙ rw q1) (e3 ∙ rw q2) (e4 ∙ rw q3) (e5 ∙ rw q4) (e6 ∙ rw q5)
