-- From a sheet's table to the columns, by cases, and the problem that they then pose. Assumes nothing.
use mathlib.Core.Path.{◌≡◌, refl, sym, ◌∙◌, ap}
use mathlib.Core.Bool.{cond}
use mathlib.Core.List.{List, ◌++◌}
use Prim.Native.Nat.{ℕ, ◌+◌, ◌*◌, ◌≤◌, ◌<◌}
use native.Mathlib.Omega.{arith}
use native.Mathlib.Decide.{dec_lt}
use lib.Dec.{ltb}
use lib.ListN.{length, get_or, drop, get_or-eq_default, get_or-append}
use borrow.Author.Tests.{lt-ltb, le-ltb}
use Rattle.refusal.specs.Cause.{first_of}
use Rattle.refusal.proofs.Outcome.{Tried}
use Rattle.turn.specs.declared.Turn.{Turn}
use Rattle.turn.specs.Turn.{row_numbers, turn_in, most_driver}
use Rattle.model.specs.Turns.{Turns}
use Rattle.sheet.specs.declared.answer.ReadAnswer.{ReadAnswer}
use Rattle.sheet.specs.Kind.{Kind, most_turns, most_groomers, most_slopes, Sound, shift_sheet}
use Rattle.sheet.specs.Read.{turn_count, turns_of, table_of, causes_for, sheet_causes, answer_for, answer_of}
use Rattle.sheet.proofs.Readings.{sheet_numbered}
use Rattle.sheet.proofs.SoundKinds.{shift_sheet_given}
use Rattle.sheet.proofs.Tables.{turns_length, turns_at, table_length, table_row}
use Rattle.sheet.proofs.Unrefused.{legal_header, few_groomers, few_slopes}
use Rattle.sheet.proofs.Whole.{whole_accepted_for, whole_answer_for, whole_turns_for, whole_few_for, whole_room_for, answer_shift_sheet, whole_refusal, whole_accepted}
use Rattle.instance.specs.declared.ways.Row.{Row}
use Rattle.instance.specs.declared.columns.Size.{Size}
use Rattle.instance.specs.Ways.{row_for}
use Rattle.instance.specs.Columns.{column_places, row_in, within, turns_by, Held}
use Rattle.instance_spec.specs.Problem.{no_turn, problem_of, shift_gap, sheet_turns}
use Rattle.instance.specs.Load.{EndsFit, RowsOf, PosedFor, shift_size, Loaded}
use Rattle.instance_spec.proofs.SheetTurns.{few_turns_for, sheet_range_for, sheet_starts_for, sheet_ends_for, sheet_worths_for, sheet_slopes_for, sheet_slopes, sheet_groomers, sheet_drivers}

-- ---- a sheet of any kind that is not refused, in columns with its rows

module _ (K : Kind) (sound : Sound K) (gap : ℕ) (s : List ℕ) (z : first_of (causes_for K s) ≡ 0) (cols : List ℕ) (w : length cols ≡ column_places) (o : (t : ℕ) → t < turn_count s → row_in cols t ≡ row_for (get_or (turns_of s) t no_turn)) where
  abbrev T : Turns
  T = problem_of gap (turns_of s)

  abbrev turn : ℕ → Turn
  turn t = get_or (turns_of s) t no_turn

  abbrev size : Size
  size = record { count = turn_count s; gap = gap }

  -- a number of each turn, from the columns and from the list; 0 after the last
  same : (f : Row → ℕ) (g : Turn → ℕ) → g no_turn ≡ 0 → ((t : Turn) → f (row_for t) ≡ g t) → (t : ℕ) → within (turn_count s) (λ i. f (row_in cols i)) t ≡ g (turn t)
  unfolding within
  same f g n e t = go (dec_lt t (turn_count s))
    where
      go : Dec (t < turn_count s) → cond (ltb t (turn_count s)) (f (row_in cols t)) 0 ≡ g (turn t)
      go (yes l) = rw (lt-ltb t (turn_count s) l, o t l) (e (turn t))
      go (no l) = rw (le-ltb t (turn_count s) (omega arith), get_or-eq_default (turns_of s) no_turn {n = t} (omega (arith, turns_length s))) (sym n)

  posed_turns : turns_by size cols ≡ T
  unfolding turns_by problem_of row_for
  posed_turns = λ j. record {
    count = sym (turns_length s) j;
    gap = gap;
    slope = λ t. same (λ r. r.slope) (λ u. u.slope) refl (λ u. refl) t j;
    groomer = λ t. same (λ r. r.groomer) (λ u. u.groomer) refl (λ u. refl) t j;
    start = λ t. same (λ r. r.start) (λ u. u.start) refl (λ u. refl) t j;
    end = λ t. same (λ r. r.end) (λ u. u.start + u.length) refl (λ u. refl) t j;
    worth = λ t. same (λ r. r.worth) (λ u. u.worth) refl (λ u. refl) t j;
    driver = λ t. same (λ r. r.driver) (λ u. u.driver) refl (λ u. refl) t j;
  }

  pub posed : PosedFor gap s cols
  posed =
      record {
        turns = posed_turns;
        held =
            record {
              places = w;
              few = few_turns_for K sound gap s z;
              slopes = λ t h. rw posed_turns (omega (arith, sheet_slopes_for K sound gap s z t h, (legal_header K sound s z).slopes_to, sound.slopes));
              starts = λ t h. rw posed_turns (sheet_starts_for K sound gap s z t h);
              ends = λ t h. rw posed_turns (sheet_ends_for K sound gap s z t h);
              worths = λ t h. rw posed_turns (sheet_worths_for K sound gap s z t h);
            };
      }

-- ---- what was read

pub load_refused : (r : ReadAnswer) {s cols : List ℕ} → (r.refusal ≡ 0 → ⊥) → r.refusal ≡ 0 → (gap : ℕ) → PosedFor gap s cols
load_refused r n z gap = absurd (n z)

module _ (K : Kind) (sound : Sound K) (s lent t : List ℕ) (r : ReadAnswer) (e : (r ≡ answer_for K s) × (r.refusal ≡ 0 → t ≡ table_of s ++ drop (length (table_of s)) lent)) (z : r.refusal ≡ 0) where
  pub load_few : r.turns ≤ most_turns
  load_few = omega (arith, whole_few_for K s e.0 z sound, sound.turns)

  pub load_room : row_numbers * r.turns ≤ length t
  load_room = whole_room_for K s e.0 z lent e.1

  accepted : first_of (causes_for K s) ≡ 0
  accepted = whole_accepted_for K s e.0 z

  number : (k : ℕ) → k < row_numbers * turn_count s → get_or t k 0 ≡ get_or (table_of s) k 0
  number k h = rw (e.1 z) (get_or-append (table_of s) (drop (length (table_of s)) lent) 0 k (omega (arith, table_length s)))

  read_turn : (i : ℕ) → i < turn_count s → turn_in t i ≡ get_or (turns_of s) i no_turn
  read_turn i h = front ∙ table_row s i h ∙ sym (turns_at s no_turn i h)
    where
      front : turn_in t i ≡ turn_in (table_of s) i
      front = λ j. record {
        slope = number (i * row_numbers) (omega arith) j;
        groomer = number (i * row_numbers + 1) (omega arith) j;
        start = number (i * row_numbers + 2) (omega arith) j;
        length = number (i * row_numbers + 3) (omega arith) j;
        worth = number (i * row_numbers + 4) (omega arith) j;
        driver = number (i * row_numbers + 5) (omega arith) j;
      }

  pub load_fits : EndsFit r.turns t
  unfolding EndsFit
  load_fits i h =
      let l : i < turn_count s = omega (arith, whole_turns_for K s e.0 z) in
      let q : (turn_in t i).start + (turn_in t i).length ≡ (get_or (turns_of s) i no_turn).start + (get_or (turns_of s) i no_turn).length = ap (λ (u : Turn). u.start + u.length) (read_turn i l) in
      omega (arith, (sheet_range_for K sound 0 s accepted i l).end_to)

  pub load_posed : (cols : List ℕ) → RowsOf t cols r.turns × (length cols ≡ column_places) → (gap : ℕ) → PosedFor gap s cols
  unfolding RowsOf
  load_posed cols o gap = posed K sound gap s accepted cols o.1 (λ i h. o.0 i (omega (arith, whole_turns_for K s e.0 z)) ∙ ap row_for (read_turn i h))

-- its loading is that of its kind
pub load_shift_sheet : (s cols : List ℕ) {K : Kind} {r : ReadAnswer} → K ≡ shift_sheet → (r ≡ answer_for K s) × (r.refusal ≡ 0 → (gap : ℕ) → PosedFor gap s cols) → Loaded s r cols
unfolding sheet_turns
load_shift_sheet s cols {r = r} k w =
    let e : r ≡ answer_of s = answer_shift_sheet s k w.0 in
    record {
      answer = e;
      refusal = whole_refusal s e;
      posed =
          λ z. record {
            sound = whole_accepted s e z;
            groomers = ap (λ (x : ReadAnswer). x.groomers) (whole_answer_for shift_sheet s e z);
            slopes = ap (λ (x : ReadAnswer). x.slopes) (whole_answer_for shift_sheet s e z);
            count = whole_turns_for shift_sheet s e z;
            turns = rw (whole_turns_for shift_sheet s e z) (w.1 z shift_gap).turns;
            held = rw (whole_turns_for shift_sheet s e z) (w.1 z shift_gap).held;
          };
    }

pub ruleset shift_sheet_load_cases = (shift_sheet_given, load_shift_sheet)

-- ---- what callers take of it

-- a caller's causes come after the sheet's
pub loaded_tried : (s cols : List ℕ) {r : ReadAnswer} → Loaded s r cols → Tried (sheet_causes s) r.refusal
loaded_tried s cols l = record { number = l.refusal; above = sheet_numbered s }

-- for a problem of the answer's size
module _ (s cols : List ℕ) {r : ReadAnswer} {p : Size} (l : Loaded s r cols) (z : r.refusal ≡ 0) (q : p ≡ shift_size r.turns) where
  pub loaded_held : Held p cols
  loaded_held = rw q (l.posed z).held

  pub loaded_turns : turns_by p cols ≡ sheet_turns s
  loaded_turns = rw q (l.posed z).turns

  pub loaded_count : p.count ≡ turn_count s
  loaded_count = rw q (l.posed z).count

  -- its numbers are a shift's
  pub loaded_groomers : (t : ℕ) → t < p.count → (turns_by p cols).groomer t ≤ most_groomers
  loaded_groomers t h = rw loaded_turns (omega (arith, sheet_groomers s (l.posed z).sound t (omega (arith, loaded_count)), few_groomers s (l.posed z).sound))

  pub loaded_slopes : (t : ℕ) → t < p.count → (1 ≤ (turns_by p cols).slope t) × ((turns_by p cols).slope t ≤ r.slopes)
  loaded_slopes t h = rw (loaded_turns, (l.posed z).slopes) (sheet_slopes s (l.posed z).sound t (omega (arith, loaded_count)))

  pub loaded_drivers : (t : ℕ) → t < p.count → (turns_by p cols).driver t ≤ most_driver
  loaded_drivers t h = rw loaded_turns (sheet_drivers s (l.posed z).sound t (omega (arith, loaded_count)))

pub loaded_few_slopes : (s cols : List ℕ) {r : ReadAnswer} → Loaded s r cols → r.refusal ≡ 0 → r.slopes ≤ most_slopes
loaded_few_slopes s cols l z = rw (l.posed z).slopes (few_slopes s (l.posed z).sound)
