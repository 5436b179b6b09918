-- Comparing sets one after another finds the first of those that earn most. Assumes nothing.
use mathlib.Core.Path.{◌≡◌, refl}
use mathlib.Core.Bool.{Bool, true, false, cond}
use mathlib.Core.List.{List, [], ◌∷◌}
use Prim.Native.Nat.{◌≤◌}
use native.Mathlib.Omega.{arith}
use lib.Dec.{ltb}
use lib.ListN.{length}
use borrow.Author.Tests.{ltb-true, ltb-false}
use Rattle.model.specs.Turns.{Turns}
use Rattle.model.specs.Choice.{worth_of_choice}
use Rattle.improve_spec.specs.Search.{Progress, compared}
use Rattle.improve_spec.specs.Sets.{compared_all, ListedSet, here, there, FirstMost, no_more, less_before}

pub listed_some : {U : List Bool} {As : List (List Bool)} → ListedSet U As → 1 ≤ length As
listed_some here = omega arith
listed_some (there h) = omega arith

module _ (T : Turns) where
  -- it earns no less than the first set
  most_first : {S U : List Bool} {Us : List (List Bool)} → FirstMost T S (U ∷ Us) → worth_of_choice T U ≤ worth_of_choice T S
  most_first (no_more h) = omega arith
  most_first (less_before l f) = omega arith

  -- where it earns no more than the first, it is the first
  pub first_stays : {S U : List Bool} {Us : List (List Bool)} → FirstMost T S (U ∷ Us) → worth_of_choice T S ≤ worth_of_choice T U → S ≡ U
  first_stays (no_more h) l = refl
  first_stays (less_before k f) l = absurd (omega arith)

  -- a set that earns no more than the first
  passed : {R S U : List Bool} {Us : List (List Bool)} → worth_of_choice T S ≤ worth_of_choice T U → FirstMost T R (U ∷ Us) → FirstMost T R (U ∷ S ∷ Us)
  passed {R} {S} {U} {Us} l (no_more h) = no_more go
    where
      go : (W : List Bool) → ListedSet W (S ∷ Us) → worth_of_choice T W ≤ worth_of_choice T U
      go W here = l
      go W (there k) = h W k
  passed {R} {S} {U} {Us} l (less_before k f) = less_before k (less_before {U = S} (omega arith) f)

  -- a set takes the place of the best only where it earns more
  pub compared_first : (Ss : List (List Bool)) (x : Progress) → x.worth ≡ worth_of_choice T x.best → FirstMost T (compared_all T Ss x).best (x.best ∷ Ss)
  unfolding compared_all compared
  compared_first [] x e = no_more {Us = []} (λ U h. absurd (omega (arith, listed_some {As = []} h)))
  compared_first (S ∷ Ss) x e = go (ltb x.worth (worth_of_choice T S)) refl (λ y f. compared_first Ss y f)
    where
      go : (b : Bool) → ltb x.worth (worth_of_choice T S) ≡ b → ((y : Progress) → y.worth ≡ worth_of_choice T y.best → FirstMost T (compared_all T Ss y).best (y.best ∷ Ss))
          → FirstMost T (compared_all T Ss (cond b (record { visits = x.visits; whole = x.whole; worth = worth_of_choice T S; best = S }) x)).best (x.best ∷ S ∷ Ss)
      go true q ih =
          let f = ih (record { visits = x.visits; whole = x.whole; worth = worth_of_choice T S; best = S }) refl in
          less_before {U = x.best} (omega (arith, e, ltb-true x.worth (worth_of_choice T S) q, most_first f)) f
      go false q ih = passed (omega (arith, e, ltb-false x.worth (worth_of_choice T S) q)) (ih x e)
