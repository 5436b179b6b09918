-- What a column has is what is read of it, and the other way round: once for every field, then for all columns. Assumes nothing.
use Prim.Native.Nat.{ℕ, zero, suc, ◌+◌, ◌*◌, ◌/◌, ◌%◌, ◌^◌, ◌<◌, ◌≤◌}
use mathlib.Core.Path.{◌≡◌, refl, sym, ◌∙◌, ap, ap₂}
use mathlib.Core.List.{List, [], ◌∷◌, ◌++◌, append_assoc, append-nil}
use native.Mathlib.Omega.{arith}
use native.Mathlib.Numerals.{add-one}
use native.Mathlib.Nat.{add-zero, div-one}
use lib.ListN.{length, get_or, drop}
use lib.Seq.{drop-cons, drop-drop, drop-length}
use Rattle.wire.specs.Number.{Bytes}
use Rattle.wire.proofs.Numbers.{byte_front}
use Rattle.turn.specs.declared.Turn.{Turn}
use Rattle.turn.specs.Turn.{row_of}
use Rattle.sheet.specs.Accepted.{Carried}
use Rattle.sheet.proofs.Fields.{field_read, field_stands}
use Rattle.sheet.proofs.Records.{field_carried}
use Rattle.archive_spec.specs.declared.Field.{Field}
use Rattle.archive_spec.specs.Column.{slopes, groomers, starts, lengths, worths, drivers, size_in, field_in, field_value, column_size, values_of, column_of, column_read, widths, columns_of, Columns, columns_in, turn_across, turns_across}
use Rattle.archive_spec.proofs.ColumnCases.{bit_below}
use Rattle.archive_spec.proofs.Across.{widths_sum, read_length}

-- ---- from values to what is read

-- values that a column can have after a value: each fits its bytes, and is the one before where the bit is clear
pub data Follows (F : Field) : ℕ → List ℕ → List ℕ → Type 0 where
  none : {old : ℕ} → Follows F old [] []
  more : {old m v : ℕ} {ms vs : List ℕ} → v < 256 ^ F.width → (m / F.unit % 2 ≡ 0 → old ≡ v) → Follows F v ms vs → Follows F old (m ∷ ms) (v ∷ vs)

one_reads : (F : Field) (m v old : ℕ) (s : List ℕ) (at : ℕ) (rest : List ℕ) → v < 256 ^ F.width → (m / F.unit % 2 ≡ 0 → old ≡ v) → drop at s ≡ field_in F m v ++ rest → (field_value F s at m old ≡ v) × (drop (at + size_in F m) s ≡ rest)
unfolding field_in field_value size_in
one_reads F m v old s at rest fits kept q = field_read (m / F.unit % 2) F.width v old (F.width * (m / F.unit % 2)) s at rest (bit_below (m / F.unit)) refl fits kept q

pub column_reads : (F : Field) {old : ℕ} {ms vs : List ℕ} → Follows F old ms vs → (s : List ℕ) (at : ℕ) (rest : List ℕ) → drop at s ≡ column_of F ms vs ++ rest
    → (column_read F ms s at old ≡ vs) × (drop (at + column_size F ms) s ≡ rest)
unfolding column_of column_read column_size
column_reads F none s at rest e = (refl, rw add-zero e)
column_reads F (more {old = old} {m = m} {v = v} {ms = ms} {vs = vs} fits kept r) s at rest e =
    let one = one_reads F m v old s at (column_of F ms vs ++ rest) fits kept (e ∙ append_assoc (field_in F m v) (column_of F ms vs) rest) in
    let others = column_reads F r s (at + size_in F m) rest one.1 in
    let p : at + (size_in F m + column_size F ms) ≡ at + size_in F m + column_size F ms = omega arith in
    (rw one.0 (ap (λ (l : List ℕ). v ∷ l) others.0), rw p others.1)

-- ---- from what is read to the bytes

one_stands : (F : Field) (m old : ℕ) {s : List ℕ} → Bytes s → (at : ℕ) → at + size_in F m ≤ length s → drop at s ≡ field_in F m (field_value F s at m old) ++ drop (at + size_in F m) s
unfolding field_in field_value size_in
one_stands F m old b at l = field_stands (m / F.unit % 2) F.width old (F.width * (m / F.unit % 2)) b at (bit_below (m / F.unit)) refl l

pub column_stands : (F : Field) (ms : List ℕ) {s : List ℕ} → Bytes s → (at old : ℕ) → at + column_size F ms ≤ length s → drop at s ≡ column_of F ms (column_read F ms s at old) ++ drop (at + column_size F ms) s
unfolding column_of column_read column_size
column_stands F [] b at old h = rw add-zero
column_stands F (m ∷ ms) {s} b at old h =
    let v = field_value F s at m old in
    let p : at + (size_in F m + column_size F ms) ≡ at + size_in F m + column_size F ms = omega arith in
    let rest = column_stands F ms b (at + size_in F m) v (omega arith) in
    rw p (one_stands F m old b at (omega arith) ∙ ap (λ (l : List ℕ). field_in F m v ++ l) rest ∙ sym (append_assoc (field_in F m v) _ _))

-- ---- a list from a place on

next_drop : (l : List ℕ) (i v : ℕ) (vs : List ℕ) → drop i l ≡ v ∷ vs → (get_or l i 0 ≡ v) × (drop (i + 1) l ≡ vs)
next_drop l i v vs e = (byte_front l i v vs e, sym (drop-drop 1 i l) ∙ ap (drop 1) e)

-- one value of a column that was read, and the others
read_step : (F : Field) (col ms s : List ℕ) (at old i m : ℕ) → drop i col ≡ column_read F (m ∷ ms) s at old
    → (m / F.unit % 2 ≡ 0 → old ≡ get_or col i 0) × (drop (i + 1) col ≡ column_read F ms s (at + size_in F m) (get_or col i 0))
unfolding column_read field_value
read_step F col ms s at old i m e =
    let n = next_drop col i (field_value F s at m old) (column_read F ms s (at + size_in F m) (field_value F s at m old)) e in
    (λ z. field_carried F.width s at (m / F.unit % 2) old z ∙ sym n.0, n.1 ∙ rw n.0)

-- ---- turns from columns

-- from number i on the columns have what is read of some places, after a turn
pub record Going (C : Columns) (i : ℕ) (ms s : List ℕ) (p : Turn) : Type 0 where
  pub at_1 : ℕ
  pub at_2 : ℕ
  pub at_3 : ℕ
  pub at_4 : ℕ
  pub at_5 : ℕ
  pub at_6 : ℕ
  pub go_1 : drop i C.slope ≡ column_read slopes ms s at_1 p.slope
  pub go_2 : drop i C.groomer ≡ column_read groomers ms s at_2 p.groomer
  pub go_3 : drop i C.start ≡ column_read starts ms s at_3 p.start
  pub go_4 : drop i C.length ≡ column_read lengths ms s at_4 p.length
  pub go_5 : drop i C.worth ≡ column_read worths ms s at_5 p.worth
  pub go_6 : drop i C.driver ≡ column_read drivers ms s at_6 p.driver

pub going_next : (C : Columns) (i m : ℕ) (ms s : List ℕ) (p : Turn) → Going C i (m ∷ ms) s p → Carried m p (turn_across C i) × Going C (i + 1) ms s (turn_across C i)
unfolding turn_across
going_next C i m ms s p g =
    let f1 = read_step slopes C.slope ms s g.at_1 p.slope i m g.go_1 in
    let f2 = read_step groomers C.groomer ms s g.at_2 p.groomer i m g.go_2 in
    let f3 = read_step starts C.start ms s g.at_3 p.start i m g.go_3 in
    let f4 = read_step lengths C.length ms s g.at_4 p.length i m g.go_4 in
    let f5 = read_step worths C.worth ms s g.at_5 p.worth i m g.go_5 in
    let f6 = read_step drivers C.driver ms s g.at_6 p.driver i m g.go_6 in (
      record { slope = λ z. f1.0 (rw (div-one m) z); groomer = f2.0; start = f3.0; length = f4.0; worth = f5.0; driver = f6.0 },
      record {
        at_1 = g.at_1 + size_in slopes m;
        at_2 = g.at_2 + size_in groomers m;
        at_3 = g.at_3 + size_in starts m;
        at_4 = g.at_4 + size_in lengths m;
        at_5 = g.at_5 + size_in worths m;
        at_6 = g.at_6 + size_in drivers m;
        go_1 = f1.1;
        go_2 = f2.1;
        go_3 = f3.1;
        go_4 = f4.1;
        go_5 = f5.1;
        go_6 = f6.1;
      },
    )

-- the columns of the values of turns have these turns
across_values : (C : Columns) (ts : List Turn) (i : ℕ) → drop i C.slope ≡ values_of slopes ts → drop i C.groomer ≡ values_of groomers ts → drop i C.start ≡ values_of starts ts
    → drop i C.length ≡ values_of lengths ts → drop i C.worth ≡ values_of worths ts → drop i C.driver ≡ values_of drivers ts → turns_across (length ts) C i ≡ ts
unfolding turns_across turn_across values_of
across_values C [] i e1 e2 e3 e4 e5 e6 = refl
across_values C (t ∷ ts) i e1 e2 e3 e4 e5 e6 =
    let n1 = next_drop C.slope i t.slope (values_of slopes ts) e1 in
    let n2 = next_drop C.groomer i t.groomer (values_of groomers ts) e2 in
    let n3 = next_drop C.start i t.start (values_of starts ts) e3 in
    let n4 = next_drop C.length i t.length (values_of lengths ts) e4 in
    let n5 = next_drop C.worth i t.worth (values_of worths ts) e5 in
    let n6 = next_drop C.driver i t.driver (values_of drivers ts) e6 in
    ap₂ ◌∷◌ (λ x. record { slope = n1.0 x; groomer = n2.0 x; start = n3.0 x; length = n4.0 x; worth = n5.0 x; driver = n6.0 x }) (across_values C ts (i + 1) n1.1 n2.1 n3.1 n4.1 n5.1 n6.1)

-- and the values of the turns of columns are the columns
values_across : (F : Field) (C : Columns) (col : List ℕ) → ((i : ℕ) → get_or (row_of (turn_across C i)) F.place 0 ≡ get_or col i 0) → (n i : ℕ) → i + n ≡ length col → values_of F (turns_across n C i) ≡ drop i col
unfolding values_of turns_across
values_across F C col same zero i h = let e : i ≡ length col = omega arith in rw e (sym (drop-length col))
values_across F C col same (suc n) i h =
    let d : drop i col ≡ get_or col i 0 ∷ drop (i + 1) col = rw add-one (drop-cons col i 0 (omega arith)) in
    rw d (ap₂ ◌∷◌ (same i) (values_across F C col same n (i + 1) (omega arith)))

-- ---- all columns

-- what all columns of turns have is what is read of them
module _ (s ms : List ℕ) (ts : List Turn) (at : ℕ) (same : length ts ≡ length ms)
    (f1 : Follows slopes 0 ms (values_of slopes ts)) (f2 : Follows groomers 0 ms (values_of groomers ts)) (f3 : Follows starts 0 ms (values_of starts ts))
    (f4 : Follows lengths 0 ms (values_of lengths ts)) (f5 : Follows worths 0 ms (values_of worths ts)) (f6 : Follows drivers 0 ms (values_of drivers ts)) where
  pub columns_read_back : drop at s ≡ columns_of ms ts → (turns_across (length ms) (columns_in ms s at) 0 ≡ ts) × (drop (at + widths ms) s ≡ [])
  unfolding columns_of columns_in
  columns_read_back e =
      let r1 = column_reads slopes f1 s at _ e in
      let r2 = column_reads groomers f2 s (at + column_size slopes ms) _ r1.1 in
      let r3 = column_reads starts f3 s (at + column_size slopes ms + column_size groomers ms) _ r2.1 in
      let r4 = column_reads lengths f4 s (at + column_size slopes ms + column_size groomers ms + column_size starts ms) _ r3.1 in
      let r5 = column_reads worths f5 s (at + column_size slopes ms + column_size groomers ms + column_size starts ms + column_size lengths ms) _ r4.1 in
      let r6 = column_reads drivers f6 s (at + column_size slopes ms + column_size groomers ms + column_size starts ms + column_size lengths ms + column_size worths ms) [] (r5.1 ∙ sym (append-nil _)) in
      let end : at + widths ms ≡ at + column_size slopes ms + column_size groomers ms + column_size starts ms + column_size lengths ms + column_size worths ms + column_size drivers ms = omega (arith, widths_sum ms) in
      (rw (← same) (across_values (columns_in ms s at) ts 0 r1.0 r2.0 r3.0 r4.0 r5.0 r6.0), rw end r6.1)

-- and what is read of bytes makes these bytes
pub columns_stand : {s : List ℕ} → Bytes s → (ms : List ℕ) (at : ℕ) → at + widths ms ≡ length s → drop at s ≡ columns_of ms (turns_across (length ms) (columns_in ms s at) 0)
unfolding columns_of columns_in turn_across
columns_stand {s} b ms at h =
    let C = columns_in ms s at in
    let a1 = at + column_size slopes ms in
    let a2 = a1 + column_size groomers ms in
    let a3 = a2 + column_size starts ms in
    let a4 = a3 + column_size lengths ms in
    let a5 = a4 + column_size worths ms in
    let sum = widths_sum ms in
    let v1 : values_of slopes (turns_across (length ms) C 0) ≡ C.slope = values_across slopes C C.slope (λ i. refl) (length ms) 0 (omega (arith, read_length slopes ms s at 0)) in
    let v2 : values_of groomers (turns_across (length ms) C 0) ≡ C.groomer = values_across groomers C C.groomer (λ i. refl) (length ms) 0 (omega (arith, read_length groomers ms s a1 0)) in
    let v3 : values_of starts (turns_across (length ms) C 0) ≡ C.start = values_across starts C C.start (λ i. refl) (length ms) 0 (omega (arith, read_length starts ms s a2 0)) in
    let v4 : values_of lengths (turns_across (length ms) C 0) ≡ C.length = values_across lengths C C.length (λ i. refl) (length ms) 0 (omega (arith, read_length lengths ms s a3 0)) in
    let v5 : values_of worths (turns_across (length ms) C 0) ≡ C.worth = values_across worths C C.worth (λ i. refl) (length ms) 0 (omega (arith, read_length worths ms s a4 0)) in
    let v6 : values_of drivers (turns_across (length ms) C 0) ≡ C.driver = values_across drivers C C.driver (λ i. refl) (length ms) 0 (omega (arith, read_length drivers ms s a5 0)) in
    let s1 = column_stands slopes ms b at 0 (omega arith) in
    let s2 = column_stands groomers ms b a1 0 (omega arith) in
    let s3 = column_stands starts ms b a2 0 (omega arith) in
    let s4 = column_stands lengths ms b a3 0 (omega arith) in
    let s5 = column_stands worths ms b a4 0 (omega arith) in
    let s6 = column_stands drivers ms b a5 0 (omega arith) in
    let end : a5 + column_size drivers ms ≡ length s = omega arith in
    let last : drop a5 s ≡ column_of drivers ms (column_read drivers ms s a5 0) = s6 ∙ rw (end, drop-length s) (append-nil _) in
    rw (v1, v2, v3, v4, v5, v6)
    (s1 ∙ ap (λ (l : List ℕ). column_of slopes ms C.slope ++ l)
    (s2 ∙ ap (λ (l : List ℕ). column_of groomers ms C.groomer ++ l)
    (s3 ∙ ap (λ (l : List ℕ). column_of starts ms C.start ++ l)
    (s4 ∙ ap (λ (l : List ℕ). column_of lengths ms C.length ++ l)
    (s5 ∙ ap (λ (l : List ℕ). column_of worths ms C.worth ++ l) last)))))

-- at the start each column has what is read after the one before it
pub going_first : (ms s : List ℕ) (at : ℕ) (p : Turn) → p.slope ≡ 0 → p.groomer ≡ 0 → p.start ≡ 0 → p.length ≡ 0 → p.worth ≡ 0 → p.driver ≡ 0 → Going (columns_in ms s at) 0 ms s p
unfolding columns_in
going_first ms s at p e1 e2 e3 e4 e5 e6 =
    let a1 = at + column_size slopes ms in
    let a2 = a1 + column_size groomers ms in
    let a3 = a2 + column_size starts ms in
    let a4 = a3 + column_size lengths ms in
    let a5 = a4 + column_size worths ms in
    record { at_1 = at; at_2 = a1; at_3 = a2; at_4 = a3; at_5 = a4; at_6 = a5; go_1 = rw e1; go_2 = rw e2; go_3 = rw e3; go_4 = rw e4; go_5 = rw e5; go_6 = rw e6 }
