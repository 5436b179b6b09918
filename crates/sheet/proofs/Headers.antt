-- The header by its cases, each premise in the form in which the code's calls and tests leave it; and what its tests say. Assumes nothing.
use Prim.Native.Nat.{ℕ, ◌<◌, ◌≤◌}
use mathlib.Core.Path.{◌≡◌}
use mathlib.Core.Bool.{Bool, true, false, not}
use mathlib.Core.List.{List, []}
use native.Mathlib.Omega.{arith}
use lib.ListN.{length}
use lib.Dec.{ltb}
use borrow.Author.Tests.{lt-ltb, le-ltb, ltb-false, not-false}
use Rattle.refusal.specs.Number.{truncated, bad_magic}
use Rattle.refusal.specs.Cause.{◌when◌, first_of}
use Rattle.refusal.proofs.Order.{numbered, clear_cons}
use Rattle.wire.specs.Number.{value_at}
use Rattle.wire.specs.Mark.{opens_with}
use Rattle.turn.specs.declared.Counts.{Counts}
use Rattle.turn.specs.Turn.{counts_of, outside_range, Numbered}
use Rattle.turn.proofs.Ranges.{inside_iff}
use Rattle.sheet.specs.Kind.{Kind}
use Rattle.sheet.specs.Read.{header_bytes, counts_in, turn_count, count_causes, header_causes}
use Rattle.sheet.specs.Accepted.{Legal}

-- ---- the counts, from wherever they come

module _ (K : Kind) (groomers slopes n : ℕ) {a : Bool} (p : a ≡ outside_range groomers K.most.groomers) where
  pub count_groomers : a ≡ true → K.refusals.counts ≡ first_of (count_causes K (counts_of groomers slopes) n)
  unfolding count_causes first_of
  count_groomers h = rw (← p, h)

  module _ {b : Bool} (f : a ≡ false) (q : b ≡ outside_range slopes K.most.slopes) where
    pub count_slopes : b ≡ true → K.refusals.counts ≡ first_of (count_causes K (counts_of groomers slopes) n)
    unfolding count_causes first_of
    count_slopes h = rw (← p, f, ← q, h)

    pub count_many : b ≡ false → K.most.turns < n → K.refusals.turns ≡ first_of (count_causes K (counts_of groomers slopes) n)
    unfolding count_causes first_of
    count_many g h = rw (← p, f, ← q, g, lt-ltb K.most.turns n h)

    pub count_none : b ≡ false → n ≤ K.most.turns → 0 ≡ first_of (count_causes K (counts_of groomers slopes) n)
    unfolding count_causes first_of
    count_none g h = rw (← p, f, ← q, g, le-ltb K.most.turns n h)

pub ruleset count_cases = (count_groomers, count_slopes, count_many, count_none)

-- nothing is wrong with counts just if a header may name them
module _ (K : Kind) (counts : Counts) (n : ℕ) where
  pub legal_counts : Legal K counts n → first_of (count_causes K counts n) ≡ 0
  unfolding count_causes first_of
  legal_counts l =
      rw (
        (inside_iff counts.groomers K.most.groomers).1 (l.groomers_from_lem, l.groomers_to),
        (inside_iff counts.slopes K.most.slopes).1 (l.slopes_from, l.slopes_to),
        le-ltb K.most.turns n l.turns_to,
      )

  module _ (numbers : Numbered K.refusals) where
    pub counts_numbered : numbered (count_causes K counts n) ≡ true
    unfolding count_causes
    counts_numbered = rw (lt-ltb 0 K.refusals.counts numbers.counts, lt-ltb 0 K.refusals.turns numbers.turns)

    pub counts_legal : first_of (count_causes K counts n) ≡ 0 → Legal K counts n
    unfolding count_causes
    counts_legal e =
        let a = clear_cons (K.refusals.counts when outside_range counts.groomers K.most.groomers) _ (omega (arith, numbers.counts)) e in
        let b = clear_cons (K.refusals.counts when outside_range counts.slopes K.most.slopes) _ (omega (arith, numbers.counts)) a.1 in
        let c = clear_cons (K.refusals.turns when ltb K.most.turns n) [] (omega (arith, numbers.turns)) b.1 in
        let g = (inside_iff counts.groomers K.most.groomers).0 a.0 in
        let s = (inside_iff counts.slopes K.most.slopes).0 b.0 in
        record { groomers_from_lem = g.0; groomers_to = g.1; slopes_from = s.0; slopes_to = s.1; turns_to = ltb-false K.most.turns n c.0 }

-- ---- the header of a sheet

module _ (K : Kind) (s : List ℕ) {g k n : ℕ} (p : g ≡ value_at s 3 1) (q : k ≡ value_at s 4 1) (r : n ≡ value_at s 5 2) where
  pub counts_judged : {f : ℕ} → f ≡ first_of (count_causes K (counts_of g k) n) → f ≡ first_of (count_causes K (counts_in s) (turn_count s))
  counts_judged e = rw (← p, ← q, ← r) e

  pub counts_found : counts_of g k ≡ counts_in s
  counts_found = rw (p, q)

module _ (K : Kind) (s : List ℕ) where
  pub header_short : length s < header_bytes → truncated ≡ first_of (header_causes K s)
  unfolding header_causes first_of
  header_short h = rw (lt-ltb (length s) header_bytes h)

  module _ {m : Bool} (h : header_bytes ≤ length s) (e : m ≡ opens_with K.mark s) where
    pub header_mark : m ≡ false → bad_magic ≡ first_of (header_causes K s)
    unfolding header_causes first_of
    header_mark f = rw (le-ltb (length s) header_bytes h, ← e, f)

    pub header_counts : {f : ℕ} → m ≡ true → f ≡ first_of (count_causes K (counts_in s) (turn_count s)) → f ≡ first_of (header_causes K s)
    unfolding header_causes first_of
    header_counts t k = rw (le-ltb (length s) header_bytes h, ← e, t) k

pub ruleset header_cases = (header_short, header_mark, header_counts)

-- nothing is wrong with a header: it is whole, its mark is the kind's, and so are its counts
pub record FineHeader (K : Kind) (s : List ℕ) : Type 0 where
  pub whole : header_bytes ≤ length s
  pub mark : opens_with K.mark s ≡ true
  pub legal : Legal K (counts_in s) (turn_count s)

module _ (K : Kind) (numbers : Numbered K.refusals) (s : List ℕ) where
  pub header_numbered : numbered (header_causes K s) ≡ true
  unfolding header_causes
  header_numbered = counts_numbered K (counts_in s) (turn_count s) numbers

  pub header_fine : first_of (header_causes K s) ≡ 0 → FineHeader K s
  unfolding header_causes
  header_fine e =
      let p = clear_cons (truncated when ltb (length s) header_bytes) _ (omega arith) e in
      let q = clear_cons (bad_magic when not (opens_with K.mark s)) _ (omega arith) p.1 in
      record { whole = ltb-false (length s) header_bytes p.0; mark = not-false (opens_with K.mark s) q.0; legal = counts_legal K (counts_in s) (turn_count s) numbers q.1 }

  -- it has no more turns than a sheet of this kind may have
  pub header_few : first_of (header_causes K s) ≡ 0 → turn_count s ≤ K.most.turns
  header_few e = (header_fine e).legal.turns_to
