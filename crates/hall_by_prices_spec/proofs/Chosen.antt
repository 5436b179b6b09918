-- The choice made from a relaxed set, whatever that set is: its windows are allowed together, and which they are, in words. And what a choice of allowed windows is worth. Assumes nothing.
use mathlib.Core.Path.{◌≡◌, sym, ◌∙◌, subst}
use mathlib.Core.Logic.{◌↔◌}
use mathlib.Core.Bool.{Bool, true, false}
use mathlib.Core.List.{List, []}
use Prim.Native.Nat.{ℕ, ◌<◌}
use lib.ListN.{length, set, replicate}
use Rattle.lists.proofs.Bools.{fails, same_tests}
use Rattle.refine_spec.proofs.Selection.{from_kept, from_length}
use Rattle.refine_spec.proofs.Asked.{not_before_itself, chosen_before, before_same, from_at, from_alone}
use Rattle.model.specs.Choice.{has, members, choose_each, back, fill}
use Rattle.model.proofs.Members.{chosen_members}
use Rattle.charge_spec.specs.Hall.{Hall, window_count, is_wide, stays_allowed, AllowedChoice}
use Rattle.charge_spec.specs.Plan.{worth_in}
use Rattle.charge_spec.specs.Promises.{worth_of_windows}
use Rattle.charge_spec.proofs.Allowing.{Admissible, admissible_allowed, allowed_admissible, refused_more, fewer_allowed, put_admissible, stays_is, chosen_allowed}
use Rattle.refine_spec.specs.Selection.{choice_from, ChosenBefore}
use Rattle.hall_by_prices_spec.specs.Hall.{WindowsFrom}

module _ (H : Hall) where
  -- no window at all: what a plan of no steps has before it is filled
  none_allowed : AllowedChoice H (replicate (window_count H) false)
  unfolding fill back choose_each
  none_allowed = chosen_allowed H (is_wide H) 0 []

  module _ (relaxed : List Bool) where
    pub made_allowed : AllowedChoice H (choice_from (stays_allowed H) H.windows relaxed)
    made_allowed =
        admissible_allowed H (choice_from (stays_allowed H) H.windows relaxed)
        (from_kept (stays_allowed H) H.windows relaxed (Admissible H) (put_admissible H)
        (allowed_admissible H (replicate (window_count H) false) none_allowed))

    pub made_length : length (choice_from (stays_allowed H) H.windows relaxed) ≡ window_count H
    made_length = from_length (stays_allowed H) H.windows relaxed

    -- ---- which windows are chosen

    -- beside the chosen windows that are asked before t, the test is the words
    stays_words : (t : ℕ) → t < window_count H → (E : List Bool) → ChosenBefore H.windows relaxed (choice_from (stays_allowed H) H.windows relaxed) t E →
        (stays_allowed H E t ≡ true) ↔ AllowedChoice H (set E t true)
    stays_words t l E b =
        stays_is H E t b.places l (fails (has E t) (λ e. not_before_itself H.windows relaxed t ((b.exactly t l).0 e).1))
        (fewer_allowed H E (choice_from (stays_allowed H) H.windows relaxed) (λ u k e. ((b.exactly u k).0 e).0) made_allowed)

    -- the choice is what the words say
    pub hall_from_is : WindowsFrom H relaxed (choice_from (stays_allowed H) H.windows relaxed)
    hall_from_is =
        let at = from_at (stays_allowed H) (refused_more H) H.windows relaxed in
        record {
          places = made_length;
          exactly =
              λ t l. (
                λ e E b. (stays_words t l E b).0 (sym (at t l E b) ∙ e),
                λ w. let (E, b) = chosen_before H.windows relaxed (choice_from (stays_allowed H) H.windows relaxed) t in at t l E b ∙ (stays_words t l E b).1 (w E b),
              );
        }

    -- and they leave no other
    pub hall_from_only : (S : List Bool) → WindowsFrom H relaxed S → S ≡ choice_from (stays_allowed H) H.windows relaxed
    hall_from_only S c =
        from_alone (stays_allowed H) (refused_more H) H.windows relaxed S c.places
        (λ t l E a b. same_tests (has S t) (stays_allowed H E t) (λ e. (stays_words t l E a).1 ((c.exactly t l).0 e E b)) (λ e. (c.exactly t l).1 (every_such t E b ((stays_words t l E a).0 e))))
      where
        -- E is the only set of the windows that are chosen before t
        every_such : (t : ℕ) (E : List Bool) → ChosenBefore H.windows relaxed S t E → AllowedChoice H (set E t true) →
            (F : List Bool) → ChosenBefore H.windows relaxed S t F → AllowedChoice H (set F t true)
        every_such t E b a F f = subst (λ (U : List Bool). AllowedChoice H (set U t true)) (before_same H.windows relaxed S t E F b f) a

  -- a choice is worth what its windows are as a set
  pub worth_members : (S : List Bool) → worth_in H S ≡ worth_of_windows H (members (window_count H) S)
  unfolding worth_in
  worth_members S = chosen_members (window_count H) S H.windows.worth
