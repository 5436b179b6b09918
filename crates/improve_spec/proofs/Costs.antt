-- The visits of each set, and how many sets a number of visits pays for. Assumes nothing.
use mathlib.Core.Path.{◌≡◌, refl, sym, ap, ◌∙◌}
use mathlib.Core.Bool.{Bool, true, false}
use mathlib.Core.List.{List, [], ◌∷◌, ◌++◌}
use Prim.Native.Nat.{ℕ, zero, suc, ◌+◌, ◌-◌, ◌≤◌, ◌<◌}
use native.Mathlib.Omega.{arith}
use native.Mathlib.Decide.{dec_lt}
use lib.ListN.{length, set, length-append}
use borrow.Author.Tests.{le-leb, lt-leb}
use Rattle.lists.specs.Lists.{sum_over}
use Rattle.model.specs.Turns.{Turns}
use Rattle.model.specs.Choice.{fits}
use Rattle.improve_spec.specs.Sets.{sets_from, one_more, visit_costs, paid_for}
use Rattle.improve_spec.proofs.Searches.{visits_from, visits_none, visits_with, visits_without, sets_with, sets_without}

-- ---- lists of visits

-- all of them together
abbrev pub total : List ℕ → ℕ
total cs = sum_over (λ c. c) cs

total_append : (As Bs : List ℕ) → total (As ++ Bs) ≡ total As + total Bs
total_append [] Bs = omega arith
total_append (A ∷ As) Bs = omega (arith, total_append As Bs)

more_length : (cs : List ℕ) → length (one_more cs) ≡ length cs
unfolding one_more
more_length [] = refl
more_length (c ∷ cs) = refl

more_total : (cs : List ℕ) → 1 ≤ length cs → total (one_more cs) ≡ 1 + total cs
unfolding one_more
more_total [] l = absurd (omega arith)
more_total (c ∷ cs) l = omega arith

-- ---- how many are paid for

module _ (v c : ℕ) (cs : List ℕ) where
  paid_on : c ≤ v → paid_for v (c ∷ cs) ≡ suc (paid_for (v - c) cs)
  unfolding paid_for
  paid_on l = rw (le-leb c v l)

  paid_stop : v < c → paid_for v (c ∷ cs) ≡ 0
  unfolding paid_for
  paid_stop l = rw (lt-leb c v l)

paid_nil : (v : ℕ) → paid_for v [] ≡ 0
unfolding paid_for
paid_nil v = refl

pub paid_none : (cs : List ℕ) → paid_for 0 (one_more cs) ≡ 0
unfolding one_more
paid_none [] = paid_nil 0
paid_none (c ∷ cs) = paid_stop 0 (suc c) cs (omega arith)

pub paid_more : (v : ℕ) (cs : List ℕ) → (v ≡ 0 → ⊥) → paid_for v (one_more cs) ≡ paid_for (v - 1) cs
unfolding one_more
paid_more v [] z = paid_nil v ∙ sym (paid_nil (v - 1))
paid_more v (c ∷ cs) z = go (dec_lt (v - 1) c)
  where
    go : Dec (v - 1 < c) → paid_for v (suc c ∷ cs) ≡ paid_for (v - 1) (c ∷ cs)
    go (yes l) = paid_stop v (suc c) cs (omega arith) ∙ sym (paid_stop (v - 1) c cs l)
    go (no l) =
        let e : v - suc c ≡ v - 1 - c = omega arith in
        paid_on v (suc c) cs (omega arith) ∙ ap (λ (k : ℕ). suc (paid_for k cs)) e ∙ sym (paid_on (v - 1) c cs (omega arith))

pub paid_few : (v : ℕ) (As : List ℕ) → paid_for v As ≤ length As
paid_few v [] = omega (arith, paid_nil v)
paid_few v (A ∷ As) = go (dec_lt v A) (paid_few (v - A) As)
  where
    go : Dec (v < A) → paid_for (v - A) As ≤ length As → paid_for v (A ∷ As) ≤ suc (length As)
    go (yes l) h = omega (arith, paid_stop v A As l)
    go (no l) h = omega (arith, paid_on v A As (omega arith))

-- all of them, and then some of the next
pub paid_past : (v : ℕ) (As Bs : List ℕ) → total As ≤ v → paid_for v (As ++ Bs) ≡ length As + paid_for (v - total As) Bs
paid_past v [] Bs l = let e : v - 0 ≡ v = omega arith in let k : 0 + paid_for v Bs ≡ paid_for v Bs = omega arith in rw (e, k)
paid_past v (A ∷ As) Bs l =
    let e : v - A - total As ≡ v - (A + total As) = omega arith in
    let k : paid_for (v - A - total As) Bs ≡ paid_for (v - (A + total As)) Bs = ap (λ (k : ℕ). paid_for k Bs) e in
    omega (arith, k, paid_on v A (As ++ Bs) (omega arith), paid_past (v - A) As Bs (omega arith))

-- not all of them
pub paid_within : (v : ℕ) (As Bs : List ℕ) → v < total As → paid_for v (As ++ Bs) ≡ paid_for v As
paid_within v [] Bs l = absurd (omega arith)
paid_within v (A ∷ As) Bs l = go (dec_lt v A) (λ h. paid_within (v - A) As Bs h)
  where
    go : Dec (v < A) → (v - A < total As → paid_for (v - A) (As ++ Bs) ≡ paid_for (v - A) As) → paid_for v (A ∷ (As ++ Bs)) ≡ paid_for v (A ∷ As)
    go (yes k) ih = paid_stop v A (As ++ Bs) k ∙ sym (paid_stop v A As k)
    go (no k) ih = paid_on v A (As ++ Bs) (omega arith) ∙ ap suc (ih (omega arith)) ∙ sym (paid_on v A As (omega arith))

pub paid_all : (v : ℕ) (As : List ℕ) → total As ≤ v → paid_for v As ≡ length As
paid_all v [] l = paid_nil v
paid_all v (A ∷ As) l = paid_on v A As (omega arith) ∙ ap suc (paid_all (v - A) As (omega arith))

-- ---- the visits of each set

module _ (T : Turns) where
  module _ (left t : ℕ) (S : List Bool) where
    pub costs_with : fits T S t ≡ true → visit_costs T (suc left) t S ≡ one_more (visit_costs T left (suc t) (set S t true) ++ visit_costs T left (suc t) S)
    unfolding visit_costs
    costs_with f = rw f

    pub costs_without : fits T S t ≡ false → visit_costs T (suc left) t S ≡ one_more (visit_costs T left (suc t) S)
    unfolding visit_costs
    costs_without f = rw f

  pub costs_last : (t : ℕ) (S : List Bool) → visit_costs T 0 t S ≡ 0 ∷ []
  unfolding visit_costs
  costs_last t S = refl

  one_length : (t : ℕ) (S : List Bool) → length (visit_costs T 0 t S) ≡ length (sets_from T 0 t S)
  unfolding visit_costs sets_from
  one_length t S = refl

  -- one number for each set
  pub costs_length : (left t : ℕ) (S : List Bool) → length (visit_costs T left t S) ≡ length (sets_from T left t S)
  costs_length zero t S = one_length t S
  costs_length (suc left) t S = go (fits T S t) refl (costs_length left (suc t) (set S t true)) (costs_length left (suc t) S)
    where
      go : (b : Bool) → fits T S t ≡ b → length (visit_costs T left (suc t) (set S t true)) ≡ length (sets_from T left (suc t) (set S t true))
          → length (visit_costs T left (suc t) S) ≡ length (sets_from T left (suc t) S) → length (visit_costs T (suc left) t S) ≡ length (sets_from T (suc left) t S)
      go true f p q =
          let a = more_length (visit_costs T left (suc t) (set S t true) ++ visit_costs T left (suc t) S) in
          let b = length-append (visit_costs T left (suc t) (set S t true)) (visit_costs T left (suc t) S) in
          let c = length-append (sets_from T left (suc t) (set S t true)) (sets_from T left (suc t) S) in
          rw (costs_with left t S f, sets_with T left t S f) (omega (arith, a, b, c))
      go false f p q = let a = more_length (visit_costs T left (suc t) S) in rw (costs_without left t S f, sets_without T left t S f) (omega (arith, a))

  costs_some : (left t : ℕ) (S : List Bool) → 1 ≤ length (visit_costs T left t S)
  costs_some zero t S = omega (arith, ap length (costs_last t S))
  costs_some (suc left) t S = go (fits T S t) refl (costs_some left (suc t) S)
    where
      go : (b : Bool) → fits T S t ≡ b → 1 ≤ length (visit_costs T left (suc t) S) → 1 ≤ length (visit_costs T (suc left) t S)
      go true f h =
          let a = more_length (visit_costs T left (suc t) (set S t true) ++ visit_costs T left (suc t) S) in
          let b = length-append (visit_costs T left (suc t) (set S t true)) (visit_costs T left (suc t) S) in
          rw (costs_with left t S f) (omega (arith, a, b))
      go false f h = let a = more_length (visit_costs T left (suc t) S) in rw (costs_without left t S f) (omega (arith, a))

  -- together those of the whole search
  pub costs_total : (left t : ℕ) (S : List Bool) → total (visit_costs T left t S) ≡ visits_from T left t S
  costs_total zero t S = ap total (costs_last t S) ∙ sym (visits_none T t S)
  costs_total (suc left) t S = go (fits T S t) refl (costs_total left (suc t) (set S t true)) (costs_total left (suc t) S)
    where
      go : (b : Bool) → fits T S t ≡ b → total (visit_costs T left (suc t) (set S t true)) ≡ visits_from T left (suc t) (set S t true)
          → total (visit_costs T left (suc t) S) ≡ visits_from T left (suc t) S → total (visit_costs T (suc left) t S) ≡ visits_from T (suc left) t S
      go true f p q =
          let a = total_append (visit_costs T left (suc t) (set S t true)) (visit_costs T left (suc t) S) in
          let b = length-append (visit_costs T left (suc t) (set S t true)) (visit_costs T left (suc t) S) in
          let c = more_total (visit_costs T left (suc t) (set S t true) ++ visit_costs T left (suc t) S) (omega (arith, b, costs_some left (suc t) S)) in
          rw (costs_with left t S f) (omega (arith, a, c, visits_with T left t S f))
      go false f p q = let c = more_total (visit_costs T left (suc t) S) (costs_some left (suc t) S) in rw (costs_without left t S f) (omega (arith, c, visits_without T left t S f))
