-- The best goes groomer by groomer: that of two lists that share no groomer is their bests together. Assumes nothing.
use mathlib.Core.Path.{◌≡◌, refl, ◌∙◌}
use mathlib.Core.Logic.{◌≢◌}
use mathlib.Core.List.{List, [], ◌∷◌, ◌++◌}
use Prim.Native.Nat.{ℕ, zero, suc, ◌+◌, ◌≤◌, ◌<◌}
use native.Mathlib.Omega.{arith}
use lib.ListN.{length, drop}
use borrow.Author.Tests.{ne_eqb}
use Rattle.lists.specs.Lists.{All, none, more}
use Rattle.model.specs.Turns.{Turns, one_groomer}
use Rattle.best_spec.specs.Table.{Best, no_turns, adding, in_the_way, blocked, best_over}
use Rattle.best_spec.proofs.Members.{all_drop}
use Rattle.best_spec.proofs.Tables.{best_before, best_without, best_with, best_ind, blocked_most}

-- both sets together
abbrev pub together : Best → Best → Best
together a b = record { worth = a.worth + b.worth; turns = a.turns ++ b.turns }

-- turns of other groomers are not in the way
blocked_other : (T : Turns) (t : ℕ) {ys : List ℕ} → All (λ y. T.groomer t ≢ T.groomer y) ys → blocked T t ys ≡ 0
unfolding blocked in_the_way one_groomer
blocked_other T t none = refl
blocked_other T t (more {t = y} d ds) = rw (ne_eqb (T.groomer t) (T.groomer y) d)

module _ (T : Turns) (ys : List ℕ) where
  -- a turn has another groomer than each of the second list
  abbrev Other : ℕ → Type 0
  Other x = All (λ y. T.groomer x ≢ T.groomer y) ys

  -- what is in the way of a turn of the first list stands in the first list
  blocked_first : (t : ℕ) → Other t → (us : List ℕ) → blocked T t (us ++ ys) ≡ blocked T t us
  unfolding blocked
  blocked_first t o [] = blocked_other T t o
  blocked_first t o (u ∷ us) = rw (blocked_first t o us)

  drop_first : (k : ℕ) (us : List ℕ) → k ≤ length us → drop k (us ++ ys) ≡ drop k us ++ ys
  drop_first zero us h = refl
  drop_first (suc k) [] h = absurd (omega arith)
  drop_first (suc k) (u ∷ us) h = drop_first k us (omega arith)

  -- the best of what ends early enough, in both lists
  before_first : (t : ℕ) → Other t → (us : List ℕ) → best_over T (drop (blocked T t us) us ++ ys) ≡ together (best_before T t us) (best_over T ys) → best_before T t (us ++ ys) ≡ together (best_before T t us) (best_over T ys)
  before_first t o us e = rw (blocked_first t o us, drop_first (blocked T t us) us (blocked_most T t us)) e

  pub groomers_add : (xs : List ℕ) → All Other xs → best_over T (xs ++ ys) ≡ together (best_over T xs) (best_over T ys)
  groomers_add = best_ind T (λ xs b. All Other xs → best_over T (xs ++ ys) ≡ together b (best_over T ys)) (λ h. alone) without with
    where
      alone : best_over T ys ≡ together no_turns (best_over T ys)
      alone = let e : 0 + (best_over T ys).worth ≡ (best_over T ys).worth = omega arith in rw e

      without : (t : ℕ) (us : List ℕ) → T.worth t + (best_before T t us).worth ≤ (best_over T us).worth → (All Other us → best_over T (us ++ ys) ≡ together (best_over T us) (best_over T ys)) →
          (All Other (drop (blocked T t us) us) → best_over T (drop (blocked T t us) us ++ ys) ≡ together (best_before T t us) (best_over T ys)) → All Other (t ∷ us) → best_over T (t ∷ us ++ ys) ≡ together (best_over T us) (best_over T ys)
      without t us l p q (more o os) =
          let a = p os in
          let b = before_first t o us (q (all_drop (blocked T t us) os)) in
          best_without T t (us ++ ys) (rw (a, b) (omega arith)) ∙ a

      with : (t : ℕ) (us : List ℕ) → (best_over T us).worth < T.worth t + (best_before T t us).worth → (All Other us → best_over T (us ++ ys) ≡ together (best_over T us) (best_over T ys)) →
          (All Other (drop (blocked T t us) us) → best_over T (drop (blocked T t us) us ++ ys) ≡ together (best_before T t us) (best_over T ys)) → All Other (t ∷ us) →
          best_over T (t ∷ us ++ ys) ≡ together (adding T t (best_before T t us)) (best_over T ys)
      with t us l p q (more o os) =
          let a = p os in
          let b = before_first t o us (q (all_drop (blocked T t us) os)) in
          let e : T.worth t + ((best_before T t us).worth + (best_over T ys).worth) ≡ T.worth t + (best_before T t us).worth + (best_over T ys).worth = omega arith in
          best_with T t (us ++ ys) (rw (a, b) (omega arith)) ∙ rw (b, e)
