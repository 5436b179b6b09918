-- What the entry's own answer promises. Assumes nothing.
use Prim.Native.Nat.{ℕ, ◌+◌, ◌-◌, ◌≤◌, ◌<◌}
use mathlib.Core.Path.{◌≡◌, sym, ap, ◌∙◌}
use mathlib.Core.Logic.{◌≢◌}
use mathlib.Core.List.{List}
use native.Mathlib.Omega.{arith}
use native.Mathlib.Decide.{dec_lt}
use lib.ListN.{get_or-eq_default}
use Rattle.refusal.specs.Cause.{first_of}
use Rattle.sheet.specs.Read.{counts_in, turns_of, sheet_causes}
use Rattle.sheet.specs.Kind.{shift_sheet}
use Rattle.sheet.proofs.SoundKinds.{shift_sheet_sound}
use Rattle.sheet.proofs.Unrefused.{legal_header}
use Rattle.turn.specs.declared.Turn.{Turn}
use Rattle.model.specs.Feasible.{Feasible, worth_of}
use Rattle.instance_spec.specs.Problem.{no_turn, problem_of, sheet_turns}
use Rattle.instance_spec.proofs.SheetTurns.{sheet_count, sheet_lengths, sheet_slopes, sheet_groomers}
use Rattle.check_spec.proofs.Passing.{passes_feasible}
use Rattle.best_spec.specs.Groomers.{groomers_worth}
use Rattle.best_spec.proofs.Promised.{best_promised}
use Rattle.limit_spec.specs.declared.LimitAnswer.{LimitAnswer}
use Rattle.limit_spec.specs.Prices.{slope_price, turn_price, limit_by}
use Rattle.limit_spec.specs.Limit.{limit_causes, sheet_limit, limit_of}
use Rattle.limit_spec.specs.Promises.{AllFree, SameWherePaid, LimitPromised}
use Rattle.limit_spec.proofs.Limits.{within_limit, most_counted, free_limit, same_limit}
use Rattle.limit_spec.proofs.LimitCauses.{limit_clear, limit_is_lem}

-- past the last turn every slope reads as 0
past_slope : (s : List ℕ) (t : ℕ) → (sheet_turns s).count ≤ t → (sheet_turns s).slope t ≡ 0
unfolding sheet_turns problem_of
past_slope s t l = ap (λ (x : Turn). x.slope) (get_or-eq_default (turns_of s) no_turn l)

module _ (s prices : List ℕ) (e : (limit_of s prices).refusal ≡ 0) where
  sound : first_of (sheet_causes s) ≡ 0
  sound = (limit_clear s prices e).0

  slope_numbers : (t : ℕ) → t < (sheet_turns s).count → (1 ≤ (sheet_turns s).slope t) × ((sheet_turns s).slope t ≤ (counts_in s).slopes)
  slope_numbers t h = sheet_slopes s sound t (omega (arith, sheet_count s sound))

  groomer_numbers : (t : ℕ) → t < (sheet_turns s).count → (1 ≤ (sheet_turns s).groomer t) × ((sheet_turns s).groomer t ≤ (counts_in s).groomers)
  groomer_numbers t h = sheet_groomers s sound t (omega (arith, sheet_count s sound))

  given : (limit_of s prices).limit ≡ limit_by (sheet_turns s) (counts_in s).groomers (counts_in s).slopes prices
  unfolding sheet_limit
  given = ap (λ (x : LimitAnswer). x.limit) (limit_is_lem s prices e)

  free_given : AllFree prices → (limit_of s prices).limit ≡ groomers_worth (sheet_turns s) (counts_in s).groomers
  free_given z = given ∙ free_limit (sheet_turns s) (counts_in s).slopes prices z (counts_in s).groomers

  all_within : (R : List ℕ) → Feasible (sheet_turns s) R → worth_of (sheet_turns s) R ≤ (limit_of s prices).limit
  all_within R f = rw given (within_limit (sheet_turns s) (sheet_lengths s sound) (counts_in s).slopes slope_numbers prices R f (counts_in s).groomers groomer_numbers)

  -- past the last turn the slope reads as 0
  slope_most : (t : ℕ) → (sheet_turns s).slope t ≤ (counts_in s).slopes
  slope_most t = elim (dec_lt t (sheet_turns s).count) [ yes l ↦ (slope_numbers t l).1 | no h ↦ omega (arith, past_slope s t (omega arith)) ]

  slope_same : (other : List ℕ) → SameWherePaid s prices other → (k : ℕ) → k ≤ (counts_in s).slopes → slope_price other k ≡ slope_price prices k
  unfolding slope_price sheet_causes
  slope_same other w k l = w.slopes (k - 1) (omega (arith, (legal_header shift_sheet shift_sheet_sound s sound).slopes_from))

  no_part : (other : List ℕ) → SameWherePaid s prices other → limit_of s other ≡ limit_of s prices
  unfolding limit_of limit_causes sheet_limit
  no_part other w = rw (w.lengths, same_limit (sheet_turns s) (counts_in s).slopes prices other all_slopes own_slopes driven (counts_in s).groomers)
    where
      all_slopes : (k : ℕ) → k < (counts_in s).slopes → slope_price other (k + 1) ≡ slope_price prices (k + 1)
      all_slopes k l = slope_same other w (k + 1) (omega arith)

      own_slopes : (t : ℕ) → slope_price other ((sheet_turns s).slope t) ≡ slope_price prices ((sheet_turns s).slope t)
      own_slopes t = slope_same other w ((sheet_turns s).slope t) (slope_most t)

      driven : (u : ℕ) → u < (sheet_turns s).count → (sheet_turns s).driver u ≢ 0 → turn_price (counts_in s).slopes other u ≡ turn_price (counts_in s).slopes prices u
      driven u l = w.turns u (omega (arith, sheet_count s sound))

  -- every answer that refuses nothing
  pub limit_promised : LimitPromised s prices
  unfolding limit_by groomers_worth
  limit_promised =
      record {
        within = all_within;
        boards_within = λ b p. let (R, f, w) = passes_feasible s b p in omega (arith, all_within R f, w);
        parts = given;
        groomer_most = most_counted (sheet_turns s) (counts_in s).slopes prices (sheet_lengths s sound);
        driverless = no_part;
        free = free_given;
        free_best = λ z lent b. free_given z ∙ sym (best_promised s lent b).by_groomer_lem;
      }
