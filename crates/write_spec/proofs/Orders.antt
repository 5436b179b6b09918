-- The order of written turns is total, and sorted turns are what the words say: the same turns, each as often, in order; no others. Assumes nothing.
use Prim.Native.Nat.{ℕ, ◌<◌}
use mathlib.Core.Path.{◌≡◌, refl, sym, ap₂}
use mathlib.Core.Bool.{Bool, true, false, cond, true≢false}
use mathlib.Core.List.{List, [], ◌∷◌}
use mathlib.Core.Logic.{◌↔◌}
use native.Mathlib.Omega.{arith}
use lib.Dec.{ltb, eqb}
use lib.ListN.{length}
use borrow.Author.Tests.{ltb-true, ltb-false, eqb-true, eqb-false, lt-ltb, eq-eqb, ne_eqb}
use Rattle.lists.specs.Lists.{All}
use Rattle.lists.specs.Sorting.{insert_by, sort_by, Sameness, TotalOrder, InOrder}
use Rattle.lists.proofs.Sorted.{sort_length, sort_as_often, sort_in_order, sort_unique, sort_same, sort_sorted}
use Rattle.turn.specs.declared.Turn.{Turn}
use Rattle.write_spec.specs.Order.{numbers_at_most, same_numbers, order_of, turn_at_most, same_turn, sorted_turns, SameTurns, InWrittenOrder}

-- ---- lists of numbers

numbers_either : (xs ys : List ℕ) → numbers_at_most xs ys ≡ false → numbers_at_most ys xs ≡ true
unfolding numbers_at_most
numbers_either [] ys e = absurd (true≢false e)
numbers_either (x ∷ xs) [] e = refl
numbers_either (x ∷ xs) (y ∷ ys) e = go (eqb x y) refl e (numbers_either xs ys)
  where
    go : (b : Bool) → eqb x y ≡ b → cond b (numbers_at_most xs ys) (ltb x y) ≡ false → (numbers_at_most xs ys ≡ false → numbers_at_most ys xs ≡ true) → cond (eqb y x) (numbers_at_most ys xs) (ltb y x) ≡ true
    go true q h ih = let s : y ≡ x = omega (arith, eqb-true x y q) in rw (eq-eqb y x s) (ih h)
    go false q h ih = let n = eqb-false x y q in let l = ltb-false x y h in rw (ne_eqb y x (λ s. n (omega arith))) (lt-ltb y x (omega arith))

numbers_through : (xs ys zs : List ℕ) → numbers_at_most xs ys ≡ true → numbers_at_most ys zs ≡ true → numbers_at_most xs zs ≡ true
unfolding numbers_at_most
numbers_through [] ys zs p q = refl
numbers_through (x ∷ xs) [] zs p q = absurd (true≢false (sym p))
numbers_through (x ∷ xs) (y ∷ ys) [] p q = absurd (true≢false (sym q))
numbers_through (x ∷ xs) (y ∷ ys) (z ∷ zs) p q = go (eqb x y) (eqb y z) refl refl p q (numbers_through xs ys zs)
  where
    go : (b c : Bool) → eqb x y ≡ b → eqb y z ≡ c → cond b (numbers_at_most xs ys) (ltb x y) ≡ true → cond c (numbers_at_most ys zs) (ltb y z) ≡ true
        → (numbers_at_most xs ys ≡ true → numbers_at_most ys zs ≡ true → numbers_at_most xs zs ≡ true) → cond (eqb x z) (numbers_at_most xs zs) (ltb x z) ≡ true
    go true true e f h k ih = let s : x ≡ z = omega (arith, eqb-true x y e, eqb-true y z f) in rw (eq-eqb x z s) (ih h k)
    go true false e f h k ih = let l : x < z = omega (arith, eqb-true x y e, ltb-true y z k) in rw (ne_eqb x z (omega arith)) (lt-ltb x z l)
    go false true e f h k ih = let l : x < z = omega (arith, eqb-true y z f, ltb-true x y h) in rw (ne_eqb x z (omega arith)) (lt-ltb x z l)
    go false false e f h k ih = let l : x < z = omega (arith, ltb-true x y h, ltb-true y z k) in rw (ne_eqb x z (omega arith)) (lt-ltb x z l)

numbers_told : (xs ys : List ℕ) → numbers_at_most xs ys ≡ true → numbers_at_most ys xs ≡ true → xs ≡ ys
unfolding numbers_at_most
numbers_told [] [] p q = refl
numbers_told [] (y ∷ ys) p q = absurd (true≢false (sym q))
numbers_told (x ∷ xs) [] p q = absurd (true≢false (sym p))
numbers_told (x ∷ xs) (y ∷ ys) p q = go (eqb x y) refl p q (numbers_told xs ys)
  where
    go : (b : Bool) → eqb x y ≡ b → cond b (numbers_at_most xs ys) (ltb x y) ≡ true → cond (eqb y x) (numbers_at_most ys xs) (ltb y x) ≡ true
        → (numbers_at_most xs ys ≡ true → numbers_at_most ys xs ≡ true → xs ≡ ys) → x ∷ xs ≡ y ∷ ys
    go true e h k ih = let s : x ≡ y = eqb-true x y e in ap₂ ◌∷◌ s (ih h (rw (eq-eqb y x (omega arith)) at k))
    go false e h k ih = let l = ltb-true x y h in let m = ltb-true y x (rw (ne_eqb y x (omega arith)) at k) in absurd (omega arith)

numbers_equal : (xs : List ℕ) → same_numbers xs xs ≡ true
unfolding same_numbers
numbers_equal [] = refl
numbers_equal (x ∷ xs) = rw (eq-eqb x x refl) (numbers_equal xs)

same_told : (xs ys : List ℕ) → same_numbers xs ys ≡ true → xs ≡ ys
unfolding same_numbers
same_told [] [] e = refl
same_told [] (y ∷ ys) e = absurd (true≢false (sym e))
same_told (x ∷ xs) [] e = absurd (true≢false (sym e))
same_told (x ∷ xs) (y ∷ ys) e = go (eqb x y) refl e (same_told xs ys)
  where
    go : (b : Bool) → eqb x y ≡ b → cond b (same_numbers xs ys) false ≡ true → (same_numbers xs ys ≡ true → xs ≡ ys) → x ∷ xs ≡ y ∷ ys
    go true q h ih = ap₂ ◌∷◌ (eqb-true x y q) (ih h)
    go false q h ih = absurd (true≢false (sym h))

-- ---- turns

-- what the order goes by tells the turn
order_told : (t u : Turn) → order_of t ≡ order_of u → t ≡ u
order_told t u e =
    let a : t.slope ≡ u.slope = cc in
    let b : t.groomer ≡ u.groomer = cc in
    let c : t.start ≡ u.start = cc in
    let d : t.length ≡ u.length = cc in
    let f : t.worth ≡ u.worth = cc in
    let g : t.driver ≡ u.driver = cc in
    λ j. record { slope = a j; groomer = b j; start = c j; length = d j; worth = f j; driver = g j }

pub turn_order_lem : TotalOrder turn_at_most
unfolding turn_at_most
turn_order_lem =
    record {
      either = λ t u. numbers_either (order_of t) (order_of u);
      through = λ t u v. numbers_through (order_of t) (order_of u) (order_of v);
      told = λ t u p q. order_told t u (numbers_told (order_of t) (order_of u) p q);
    }

pub turn_sameness : Sameness same_turn
unfolding same_turn
turn_sameness = record { equal = λ t. numbers_equal (order_of t); told = λ t u e. order_told t u (same_told (order_of t) (order_of u) e) }

-- ---- sorted turns

pub sorted_length : (ts : List Turn) → length (sorted_turns ts) ≡ length ts
unfolding sorted_turns
sorted_length ts = sort_length turn_at_most ts

-- they are the same turns in order, and what is so is them
pub sorted_iff : (ts us : List Turn) → InWrittenOrder ts us ↔ (us ≡ sorted_turns ts)
unfolding sorted_turns
sorted_iff ts us = (λ o. sort_unique turn_at_most same_turn turn_order_lem turn_sameness ts us o.in_order o.as_often, λ e. rw e (record { as_often = sort_as_often turn_at_most same_turn ts; in_order = sort_in_order turn_at_most turn_order_lem ts }))

pub sorted_order : (ts : List Turn) → InWrittenOrder ts (sorted_turns ts)
sorted_order ts = (sorted_iff ts (sorted_turns ts)).1 refl

-- the order that they came in does not matter
pub sorted_same : (ts us : List Turn) → SameTurns ts us → sorted_turns ts ≡ sorted_turns us
unfolding sorted_turns
sorted_same ts us h = sort_same turn_at_most same_turn turn_order_lem turn_sameness ts us h

-- turns that are in order stay
pub sorted_stay : (ts : List Turn) → InOrder turn_at_most ts → sorted_turns ts ≡ ts
unfolding sorted_turns
sorted_stay ts o = sort_sorted turn_at_most ts o

pub sorted_twice : (ts : List Turn) → sorted_turns (sorted_turns ts) ≡ sorted_turns ts
sorted_twice ts = sorted_stay (sorted_turns ts) (sorted_order ts).in_order

-- what holds of all sorted turns holds of all
module _ {A : Type 0} (le : A → A → Bool) (P : A → Type 0) where
  inserted_all : (x : A) (ys : List A) → All P (insert_by le x ys) → P x × All P ys
  unfolding insert_by
  inserted_all x [] (All.more p ps) = (p, ps)
  inserted_all x (y ∷ ys) all = go (le x y) all (inserted_all x ys)
    where
      go : (b : Bool) → All P (cond b (x ∷ y ∷ ys) (y ∷ insert_by le x ys)) → (All P (insert_by le x ys) → P x × All P ys) → P x × All P (y ∷ ys)
      go true (All.more p ps) ih = (p, ps)
      go false (All.more q qs) ih = let r = ih qs in (r.0, All.more q r.1)

  pub unsorted_all : (xs : List A) → All P (sort_by le xs) → All P xs
  unfolding sort_by
  unsorted_all [] all = All.none
  unsorted_all (x ∷ xs) all = let r = inserted_all x (sort_by le xs) all in All.more r.0 (unsorted_all xs r.1)
