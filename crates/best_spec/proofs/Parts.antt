-- A list in order, cut at one groomer: the turns of those below it, its own, those of the ones above, and the best of each part. Assumes nothing.
use mathlib.Core.Path.{◌≡◌, refl, sym, ap, ap₂, ◌∙◌}
use mathlib.Core.Bool.{Bool, true, false, ◌||◌}
use mathlib.Core.List.{List, [], ◌∷◌, ◌++◌}
use Prim.Native.Nat.{ℕ, ◌≤◌, ◌<◌}
use native.Mathlib.Omega.{arith}
use native.Mathlib.Decide.{dec_lt, ℕ_discrete}
use lib.Dec.{eqb}
use borrow.Author.Tests.{eq-eqb, ne_eqb}
use Rattle.lists.specs.Lists.{All, none, more, keep}
use Rattle.lists.proofs.Bools.{fails}
use Rattle.lists.proofs.Sums.{all_map, all_append}
use Rattle.model.specs.Turns.{Turns}
use Rattle.best_spec.specs.Table.{turn_order, Best, best_over, is_among}
use Rattle.best_spec.specs.Groomers.{own_turns}
use Rattle.best_spec.proofs.Members.{among_all, among_both}
use Rattle.best_spec.proofs.Ordering.{Ordered, empty, first, order_ordered}
use Rattle.best_spec.proofs.Tables.{best_every, leads_groomer}
use Rattle.best_spec.proofs.Groomers.{together, groomers_add}

module _ (T : Turns) where
  -- ---- a list in order: the turns of groomers below g, those of g, those of groomers above

  pub record Parts (g : ℕ) (ts : List ℕ) : Type 0 where
    pub lower : List ℕ
    pub own : List ℕ
    pub upper : List ℕ
    pub split : ts ≡ lower ++ (own ++ upper)
    pub are_lower : All (λ t. T.groomer t < g) lower
    pub are_own : All (λ t. T.groomer t ≡ g) own
    pub are_upper : All (λ t. g < T.groomer t) upper
    pub kept : keep (λ t. eqb (T.groomer t) g) ts ≡ own

  -- what stands before is empty where no element can be there
  none_before : {P Q : ℕ → Type 0} → ((t : ℕ) → P t → Q t → ⊥) → {xs : List ℕ} (ys : List ℕ) → All P xs → All Q (xs ++ ys) → xs ≡ []
  none_before apart ys none q = refl
  none_before apart ys (more {t = t} p ps) (more q qs) = absurd (apart t p q)

  pub parts : (g : ℕ) {ts : List ℕ} → Ordered T ts → Parts g ts
  unfolding keep
  parts g empty = record { lower = []; own = []; upper = []; split = refl; are_lower = none; are_own = none; are_upper = none; kept = refl }
  parts g (first {t = t} {ts = ts} h o) = go (dec_lt (T.groomer t) g) (ℕ_discrete (T.groomer t) g) (parts g o)
    where
      behind : All (λ u. T.groomer t ≤ T.groomer u) ts
      behind = all_map (λ u b. leads_groomer T t u b.leads) h

      no_lower : (p : Parts g ts) → g ≤ T.groomer t → p.lower ≡ []
      no_lower p l = none_before (λ u a b. omega (arith, l)) (p.own ++ p.upper) p.are_lower (rw p.split at behind)

      from_own : (p : Parts g ts) → g ≤ T.groomer t → ts ≡ p.own ++ p.upper
      from_own p l = p.split ∙ ap (λ (xs : List ℕ). xs ++ (p.own ++ p.upper)) (no_lower p l)

      no_own : (p : Parts g ts) → g < T.groomer t → p.own ≡ []
      no_own p l = none_before (λ u a b. omega (arith, l)) p.upper p.are_own (rw (from_own p (omega arith)) at behind)

      go : Dec (T.groomer t < g) → Dec (T.groomer t ≡ g) → Parts g ts → Parts g (t ∷ ts)
      go (yes l) d p =
          record {
            lower = t ∷ p.lower;
            own = p.own;
            upper = p.upper;
            split = ap (λ (xs : List ℕ). t ∷ xs) p.split;
            are_lower = more l p.are_lower;
            are_own = p.are_own;
            are_upper = p.are_upper;
            kept = rw (ne_eqb (T.groomer t) g (λ e. omega arith)) p.kept;
          }
      go (no l) (yes e) p =
          record {
            lower = [];
            own = t ∷ p.own;
            upper = p.upper;
            split = ap (λ (xs : List ℕ). t ∷ xs) (from_own p (omega arith));
            are_lower = none;
            are_own = more e p.are_own;
            are_upper = p.are_upper;
            kept = rw (eq-eqb (T.groomer t) g e) (ap (λ (xs : List ℕ). t ∷ xs) p.kept);
          }
      go (no l) (no e) p =
          let above : g < T.groomer t = omega arith in
          let none-own = no_own p above in
          record {
            lower = [];
            own = [];
            upper = t ∷ p.upper;
            split = ap (λ (xs : List ℕ). t ∷ xs) (from_own p (omega arith) ∙ ap (λ (xs : List ℕ). xs ++ p.upper) none-own);
            are_lower = none;
            are_own = none;
            are_upper = more above p.are_upper;
            kept = rw (ne_eqb (T.groomer t) g e) (p.kept ∙ none-own);
          }

  -- the parts share no groomer, so the best of the list is their bests together
  pub three_tables : {g : ℕ} {ts : List ℕ} (p : Parts g ts) → best_over T ts ≡ together (best_over T p.lower) (together (best_over T p.own) (best_over T p.upper))
  three_tables {g} p =
      ap (best_over T) p.split
      ∙ groomers_add T (p.own ++ p.upper) p.lower
      (all_map (λ x l. all_append (all_map (λ y e d. omega arith) p.are_own) (all_map (λ y k d. omega arith) p.are_upper)) p.are_lower)
      ∙ ap (together (best_over T p.lower)) (groomers_add T p.upper p.own (all_map (λ x e. all_map (λ y k d. omega arith) p.are_upper) p.are_own))

  -- a turn is in the set of all turns just if it is in its groomer's own
  pub own_in : {g : ℕ} {ts : List ℕ} (p : Parts g ts) (t : ℕ) → T.groomer t ≡ g → is_among (best_over T ts).turns t ≡ is_among (best_over T p.own).turns t
  own_in p t g =
      let L = (best_over T p.lower).turns in
      let O = (best_over T p.own).turns in
      let U = (best_over T p.upper).turns in
      let not_lower : is_among L t ≡ false = fails (is_among L t) (λ e. omega (arith, among_all t (best_every T p.lower p.are_lower) e)) in
      let not_upper : is_among U t ≡ false = fails (is_among U t) (λ e. omega (arith, among_all t (best_every T p.upper p.are_upper) e)) in
      ap (λ (b : Best). is_among b.turns t) (three_tables p)
      ∙ among_both L (O ++ U) t ∙ ap₂ ◌||◌ not_lower (among_both O U t) ∙ ap (λ (b : Bool). is_among O t || b) not_upper ∙ last (is_among O t)
    where
      last : (b : Bool) → (b || false) ≡ b
      last true = refl
      last false = refl

  pub own_among : (t : ℕ) → is_among (best_over T (turn_order T)).turns t ≡ is_among (best_over T (own_turns T (T.groomer t))).turns t
  unfolding own_turns
  own_among t = let p = parts (T.groomer t) (order_ordered T) in own_in p t refl ∙ ap (λ (ts : List ℕ). is_among (best_over T ts).turns t) (sym p.kept)
