-- The relaxed set is what the table over all turns gives at the same counts, and the one set that its words speak of. Assumes nothing.
use mathlib.Core.Path.{◌≡◌, sym, ◌∙◌, subst}
use mathlib.Core.Bool.{Bool, false}
use mathlib.Core.List.{List}
use Prim.Native.Nat.{ℕ}
use native.Mathlib.Omega.{arith}
use lib.Seq.{ext_get_or}
use Rattle.lists.proofs.Bools.{not_both, fails, same_tests}
use Rattle.lists.proofs.Sums.{tab_length, tab_at}
use Rattle.model.specs.Turns.{Turns, PositiveLengths, NoDrivers}
use Rattle.model.specs.Choice.{has, chosen, members}
use Rattle.model.specs.Feasible.{OneTurnASlope}
use Rattle.model.proofs.Members.{chosen_members, members_feasible}
use Rattle.best_spec.specs.Table.{best_worth, best_choice, is_among}
use Rattle.best_spec.proofs.Parts.{own_among}
use Rattle.best_spec.proofs.Optimal.{best_turns, choice_among, among_choice, best_length, best_set, best_independent, best_greatest, best_chosen}
use Rattle.best_spec.proofs.Latest.{LaterIn, best_leaves_out, best_later, latest_only}
use Rattle.limit_spec.specs.Prices.{counts_for, priced_turns}
use Rattle.limit_spec.proofs.Bare.{with_worths, bare_choice}
use Rattle.limit_spec.proofs.Limits.{priced_lengths, priced_driverless, priced_single}
use Rattle.refine_spec.specs.Shift.{is_relaxed, relaxed_set, Relaxed}

module _ (T : Turns) where
  -- a turn is chosen just if it is in its groomer's own set
  pub choice_own : (t : ℕ) → has (best_choice T) t ≡ is_relaxed T t
  unfolding is_relaxed
  choice_own t = same_tests (has (best_choice T) t) (is_among (best_turns T) t) (choice_among T t) (among_choice T t) ∙ own_among T t

module _ (T : Turns) (slopes : ℕ) (prices : List ℕ) where
  pub relaxed_best : relaxed_set T slopes prices ≡ best_choice (priced_turns T slopes prices)
  unfolding relaxed_set priced_turns
  relaxed_best =
      let P = priced_turns T slopes prices in
      ext_get_or false (relaxed_set T slopes prices) (best_choice P) (tab_length T.count (is_relaxed P) ∙ sym (best_length P))
      (λ t l. tab_at T.count (is_relaxed P) false t (omega (arith, tab_length T.count (is_relaxed P))) ∙ sym (choice_own P t))

  -- the table reads no slope and no driver, so these may stay
  pub relaxed_counted : relaxed_set T slopes prices ≡ best_choice (with_worths T (counts_for T slopes prices))
  unfolding priced_turns
  relaxed_counted = relaxed_best ∙ bare_choice (with_worths T (counts_for T slopes prices))

  -- ---- in words

  module _ (lengths : PositiveLengths T) where
    abbrev P : Turns
    P = priced_turns T slopes prices

    best_relaxed : Relaxed T slopes prices (best_choice P)
    unfolding priced_turns
    best_relaxed =
        let l = priced_lengths T slopes prices lengths in
        let f = priced_driverless T slopes prices in
        let s = priced_single T slopes prices in
        let earns = best_chosen P l f s in
        record {
          places = best_length P;
          apart = best_independent P l f s;
          greatest = λ R r. omega (arith, earns, best_greatest P l f s R r);
          latest = λ R r e. best_leaves_out P l f s R (record { feasible = r; earns = e ∙ earns });
        }

    -- the relaxed set is such a set
    pub relaxed_is : Relaxed T slopes prices (relaxed_set T slopes prices)
    relaxed_is = subst (Relaxed T slopes prices) (sym relaxed_best) best_relaxed

    -- and the only one
    pub relaxed_only : (S : List Bool) → Relaxed T slopes prices S → S ≡ relaxed_set T slopes prices
    unfolding priced_turns
    relaxed_only S r = sym (relaxed_best ∙ latest_only P (best_choice P) S (best_length P) r.places (best_later P l f s S r.places r.apart earns) later)
      where
        l : PositiveLengths P
        l = priced_lengths T slopes prices lengths

        f : NoDrivers P
        f = priced_driverless T slopes prices

        s : OneTurnASlope P
        s = priced_single T slopes prices

        earns : chosen T.count S P.worth ≡ best_worth P
        earns =
            let b = best_set P l f s in
            omega (arith, r.greatest (best_turns P) b.feasible, b.earns, chosen_members T.count S P.worth, best_greatest P l f s (members T.count S) (members_feasible P S r.apart))

        later : LaterIn P S (best_choice P)
        later x e g =
            let b = best_set P l f s in
            let (y, a, c, k) = r.latest (best_turns P) b.feasible (b.earns ∙ sym earns) x e (fails (is_among (best_turns P) x) (λ h. not_both (among_choice P x h) g)) in
            (y, among_choice P y a, c, k)
