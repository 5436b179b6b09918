-- The entry's answer by its cases, each premise in the form in which the code's calls and tests leave it. Assumes nothing.
use Prim.Native.Nat.{ℕ, ◌+◌}
use mathlib.Core.Path.{◌≡◌, sym, ap, ◌∙◌}
use mathlib.Core.List.{List}
use native.Mathlib.Omega.{arith}
use lib.ListN.{length}
use borrow.Author.Tests.{eq-eqb, ne_eqb}
use Rattle.refusal.specs.Number.{bad_prices}
use Rattle.sheet.specs.declared.answer.ReadAnswer.{ReadAnswer}
use Rattle.sheet.specs.Read.{counts_in}
use Rattle.instance.specs.declared.columns.Size.{Size}
use Rattle.instance_spec.specs.Problem.{sheet_turns}
use Rattle.instance.specs.Load.{shift_size, Loaded}
use Rattle.instance_spec.proofs.SheetTurns.{sheet_count, sheet_groomers}
use Rattle.best_spec.specs.Table.{best_worth}
use Rattle.limit_spec.specs.declared.LimitAnswer.{LimitAnswer}
use Rattle.limit_spec.specs.Prices.{price_sum, limit_by}
use Rattle.limit_spec.specs.Limit.{price_count, limit_causes, sheet_limit, limit_is, limit_refused, limit_of}
use Rattle.limit_spec.proofs.Limits.{priced_sum, priced_best}
use Rattle.shift_look.specs.declared.Extent.{Extent}
use Rattle.shift_look.specs.OrdersAndCounts.{counted_turns, turns_in, Priced}
use Rattle.refusal.proofs.Outcome.{tried_stops, tried_last, tried_found}
use Rattle.instance.proofs.Posed.{loaded_tried, loaded_held, loaded_turns, loaded_slopes, loaded_drivers, loaded_few_slopes}

-- ---- the answer

module _ (s cols prices : List ℕ) {r : ReadAnswer} (e : Loaded s r cols) where
  pub limit_fault : {x : LimitAnswer} → (r.refusal ≡ 0 → ⊥) → x ≡ limit_refused r.refusal → x ≡ limit_of s prices
  unfolding limit_of limit_causes
  limit_fault f g = g ∙ tried_stops (loaded_tried s cols e) _ limit_refused _ f

  module _ (f : r.refusal ≡ 0) where
    prices_are : r.slopes + r.turns ≡ price_count s
    prices_are = rw ((e.posed f).slopes, (e.posed f).count)

    pub limit_other : {x : LimitAnswer} → (length prices ≡ r.slopes + r.turns → ⊥) → x ≡ limit_refused bad_prices → x ≡ limit_of s prices
    unfolding limit_of limit_causes
    limit_other d h = h ∙ tried_last (loaded_tried s cols e) _ limit_refused f bad_prices (omega arith) (rw (ne_eqb (length prices) (price_count s) (λ q. d (q ∙ sym prices_are))))

    module _ (p : Size) (q : p ≡ shift_size r.turns) (l : length prices ≡ r.slopes + r.turns) where
      -- the turns and slopes of the sheet
      abbrev extent : Extent
      extent = record { size = p; slopes = r.slopes }

      pub limit_priced : Priced extent cols prices
      limit_priced =
          record {
            places = (loaded_held s cols e f q).places;
            few = (loaded_held s cols e f q).few;
            few_slopes = loaded_few_slopes s cols e f;
            numbers = loaded_slopes s cols e f q;
            drivers = loaded_drivers s cols e f q;
            list = l ∙ rw q;
          }

      pub limit_priced_by : {k : ℕ} → k ≡ r.slopes → Priced (record { size = p; slopes = k }) cols prices
      limit_priced_by e = rw e limit_priced

      pub limit_found : {x : ℕ} → x ≡ price_sum (turns_in extent cols) r.slopes prices + best_worth (counted_turns (turns_in extent cols) r.slopes prices) → limit_is x ≡ limit_of s prices
      unfolding limit_of limit_causes sheet_limit limit_by counted_turns
      limit_found h =
          let T = sheet_turns s in
          let slopes = (counts_in s).slopes in
          let sound = (e.posed f).sound in
          let counted = priced_best T slopes prices ∙ priced_sum T slopes prices (counts_in s).groomers (λ t h. sheet_groomers s sound t (omega (arith, sheet_count s sound))) in
          ap limit_is (h ∙ rw (loaded_turns s cols e f q, (e.posed f).slopes) (ap (λ (n : ℕ). price_sum T slopes prices + n) counted))
          ∙ tried_found (loaded_tried s cols e) _ limit_refused f bad_prices (rw (eq-eqb (length prices) (price_count s) (l ∙ prices_are)))
