-- How many bytes a listing has at most, so that lent bytes can be long enough for any sheet. Assumes nothing.
use Prim.Native.Nat.{ℕ, zero, suc, ◌+◌, ◌*◌, ◌^◌, ◌<◌, ◌≤◌}
use mathlib.Core.Path.{◌≡◌, ap}
use mathlib.Core.Bool.{Bool}
use mathlib.Core.List.{List, [], ◌∷◌, ◌++◌}
use native.Mathlib.Omega.{arith}
use lib.ListN.{length, length-append}
use Rattle.text.specs.Decimal.{decimal}
use Rattle.text.proofs.Width.{decimal_width}
use Rattle.refusal.specs.Cause.{first_of}
use Rattle.lists.specs.Lists.{sum_over, below, In, here, later}
use Rattle.model.specs.Turns.{Turns}
use Rattle.model.specs.Choice.{choice}
use Rattle.model.specs.Rules.{Independent}
use Rattle.model.proofs.Planned.{planned_right}
use Rattle.model.proofs.Limits.{sums_limits}
use Rattle.model.proofs.Ceilings.{ceiling_thrice}
use Rattle.model.proofs.Promised.{planned_keeps}
use Rattle.sheet.specs.Kind.{most_turns}
use Rattle.sheet.specs.Read.{counts_in, sheet_causes}
use Rattle.sheet.proofs.Unrefused.{few_groomers, few_slopes, few_turns}
use Rattle.turn.specs.Turn.{most_worth, shift_minutes}
use Rattle.instance_spec.specs.Problem.{sheet_turns}
use Rattle.instance_spec.proofs.SheetTurns.{sheet_count, sheet_lengths, sheet_ends, sheet_worths, sheet_slopes}
use Rattle.list_spec.proofs.Listed.{below_count, starts, from_1, to_most}
use Rattle.list_spec.specs.declared.Sums.{Sums}
use Rattle.list_spec.specs.Round.{round_of, StartsApart}
use Rattle.list_spec.specs.Text.{labelled, two_labelled, heading_of, line_of, lines_of, groomer_text, groomers_from, sums_line, listing_of, groomer_word, slope_word, worth_word, sum_word, tally_word, ceiling_word, hyphen, line_feed}
use Rattle.list_spec.specs.List.{sums_for, listing_for, sheet_listing}
use Rattle.list_spec.proofs.Rounds.{apart_starts, round_is, rounds_count}
use Rattle.list_spec.proofs.Slopes.{chosen_few}

-- ---- a line: its words, and the digits of its numbers

labelled_bytes : (word : List ℕ) (k x : ℕ) → x < 10 ^ k → 1 ≤ k → length (labelled word x) ≤ length word + k
unfolding labelled
labelled_bytes word k x h l = omega (arith, length-append word (decimal x), decimal_width k x h l)

two_bytes : (word : List ℕ) (k x : ℕ) (word' : List ℕ) (j y : ℕ) → x < 10 ^ k → 1 ≤ k → y < 10 ^ j → 1 ≤ j → length (two_labelled word x word' y) ≤ length word + k + length word' + j + 1
unfolding two_labelled
two_bytes word k x word' j y h l i m =
    omega (arith, length-append (labelled word x) (labelled word' y ++ line_feed), length-append (labelled word' y) line_feed, labelled_bytes word k x h l, labelled_bytes word' j y i m)

-- "groomer 16"
heading_bytes : (h : ℕ) → h ≤ 16 → length (heading_of h) ≤ 11
unfolding heading_of
heading_bytes h l = omega (arith, length-append (labelled groomer_word h) line_feed, labelled_bytes groomer_word 2 h (omega arith) (omega arith))

-- "worth 24000000 tally 24000000 ceiling 72000000"
sums_bytes : (sums : Sums) → sums.worth ≤ 24000000 → sums.tally ≤ 24000000 → sums.ceiling ≤ 72000000 → length (sums_line sums) ≤ 47
unfolding sums_line
sums_bytes sums w t c =
    omega (
      arith,
      length-append (labelled sum_word sums.worth) (two_labelled tally_word sums.tally ceiling_word sums.ceiling),
      labelled_bytes sum_word 8 sums.worth (omega arith) (omega arith),
      two_bytes tally_word 8 sums.tally ceiling_word 8 sums.ceiling (omega arith) (omega arith) (omega arith) (omega arith),
    )

-- "959-960 slope 120 worth 60000"
line_bytes : (T : Turns) (u : ℕ) → T.start u < 960 → T.end u ≤ 960 → T.slope u ≤ 120 → T.worth u ≤ 60000 → length (line_of T u) ≤ 30
unfolding line_of
line_bytes T u a b c d =
    omega (
      arith,
      length-append (decimal (T.start u)) (labelled hyphen (T.end u) ++ two_labelled slope_word (T.slope u) worth_word (T.worth u)),
      length-append (labelled hyphen (T.end u)) (two_labelled slope_word (T.slope u) worth_word (T.worth u)),
      decimal_width 3 (T.start u) (omega arith) (omega arith),
      labelled_bytes hyphen 3 (T.end u) (omega arith) (omega arith),
      two_bytes slope_word 3 (T.slope u) worth_word 5 (T.worth u) (omega arith) (omega arith) (omega arith) (omega arith),
    )

lines_bytes : (T : Turns) (us : List ℕ) → ((u : ℕ) → In u us → length (line_of T u) ≤ 30) → length (lines_of T us) ≤ 30 * length us
unfolding lines_of
lines_bytes T [] short = omega arith
lines_bytes T (u ∷ us) short = omega (arith, length-append (line_of T u) (lines_of T us), short u here, lines_bytes T us (λ v i. short v (later i)))

-- ---- the groomers' parts

-- the first of a sum, where it is the last of those below
sum_first : (f : ℕ → ℕ) (d h : ℕ) → sum_over (λ k. f (k + h)) (below (suc d)) ≡ f h + sum_over (λ k. f (k + (h + 1))) (below d)
sum_first f zero h = let e : 0 + h ≡ h = omega arith in omega (arith, ap f e)
sum_first f (suc d) h = let e : suc d + h ≡ d + (h + 1) = omega arith in omega (arith, ap f e, sum_first f d h)

module _ (T : Turns) (S : List Bool) (apart : StartsApart T S) (starts : (u : ℕ) → u < T.count → T.start u < shift_minutes) (short : (u : ℕ) → u < T.count → length (line_of T u) ≤ 30) where
  groomer_bytes : (h : ℕ) → h ≤ 16 → length (groomer_text T S h) ≤ 11 + 30 * length (round_of T S h)
  unfolding groomer_text
  groomer_bytes h l =
      omega (
        arith,
        length-append (heading_of h) (lines_of T (round_of T S h)),
        heading_bytes h l,
        lines_bytes T (round_of T S h) (λ u i. short u (((round_is T S h apart starts).turns u).0 i).0),
      )

  groomers_bytes : (d h : ℕ) → h + d ≤ 17 → length (groomers_from T S d h) ≤ 11 * d + 30 * sum_over (λ k. length (round_of T S (k + h))) (below d)
  unfolding groomers_from
  groomers_bytes zero h l = omega arith
  groomers_bytes (suc d) h l =
      omega (
        arith,
        length-append (groomer_text T S h) (groomers_from T S d (h + 1)),
        groomer_bytes h (omega arith),
        groomers_bytes d (h + 1) (omega arith),
        sum_first (λ k. length (round_of T S k)) d h,
      )

-- ---- every sheet that is not refused

module _ (s : List ℕ) (z : first_of (sheet_causes s) ≡ 0) where
  abbrev T : Turns
  T = sheet_turns s

  few : T.count ≤ most_turns
  few = omega (arith, sheet_count s z, few_turns s z)

  ends : (u : ℕ) → u < T.count → T.end u ≤ shift_minutes
  ends u l = sheet_ends s z u (below_count s z u l)

  worths : (u : ℕ) → u < T.count → T.worth u ≤ most_worth
  worths u l = sheet_worths s z u (below_count s z u l)

  short : (u : ℕ) → u < T.count → length (line_of T u) ≤ 30
  short u l = line_bytes T u (starts s z u l) (ends u l) (omega (arith, (sheet_slopes s z u (below_count s z u l)).1, few_slopes s z)) (worths u l)

  -- 16 headings of 11 bytes, 120 turns of 30, and the last line of 47
  pub listing_bytes_lem : length (sheet_listing s) ≤ 3823
  unfolding sheet_listing listing_for listing_of sums_for
  listing_bytes_lem =
      let apart : Independent T (choice T) = (planned_keeps T (sheet_lengths s z)).apart in
      let sums = sums_limits T worths few (planned_right T) (choice T) in
      omega (
        arith,
        length-append (groomers_from T (choice T) (counts_in s).groomers 1) (sums_line (sums_for T)),
        groomers_bytes T (choice T) (apart_starts T (choice T) apart (sheet_lengths s z)) (starts s z) short (counts_in s).groomers 1 (omega (arith, few_groomers s z)),
        rounds_count T (choice T) (counts_in s).groomers (from_1 s z) (to_most s z) (starts s z),
        chosen_few T (choice T) apart (counts_in s).slopes (λ u l. (sheet_slopes s z u (below_count s z u l)).0) (λ u l. (sheet_slopes s z u (below_count s z u l)).1),
        few_groomers s z,
        few_slopes s z,
        sums_bytes (sums_for T) sums.1 sums.0 (omega (arith, sums.0, ceiling_thrice T (planned_right T))),
      )
