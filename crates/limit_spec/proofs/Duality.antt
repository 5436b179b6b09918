-- Weak duality, for any payments and any costs: where a set pays no more than the costs, it is worth no more than the costs and what is left to it. Assumes nothing.
use mathlib.Core.Path.{◌≡◌, ap}
use mathlib.Core.Bool.{cond}
use mathlib.Core.List.{List, [], ◌∷◌}
use Prim.Native.Nat.{ℕ, zero, suc, ◌+◌, ◌-◌, ◌≤◌, ◌<◌}
use native.Mathlib.Omega.{arith}
use native.Mathlib.Decide.{ℕ_discrete}
use lib.Dec.{eqb}
use borrow.Author.Tests.{eq-eqb, ne_eqb}
use Rattle.lists.specs.Lists.{sum_over, below}
use Rattle.lists.proofs.Sums.{sum_mono, sum_swap, sum_zero, all_below}

-- what is left of each worth, and what was paid, make up the worth at least
left_and_paid : (worth pays : ℕ → ℕ) (R : List ℕ) → sum_over worth R ≤ sum_over (λ t. worth t - pays t) R + sum_over pays R
left_and_paid worth pays [] = omega arith
left_and_paid worth pays (t ∷ ts) = omega (arith, left_and_paid worth pays ts)

-- where a set pays at most the costs, and what is left to it is at most a best, it is worth at most both together
pub weak_duality : (worth pays : ℕ → ℕ) (R : List ℕ) (costs best : ℕ) → sum_over pays R ≤ costs → sum_over (λ t. worth t - pays t) R ≤ best → sum_over worth R ≤ costs + best
weak_duality worth pays R costs best p l = omega (arith, left_and_paid worth pays R)

-- a set that pays for each of n things no more than the thing costs pays no more than all of them cost
pub paid_costs : (n : ℕ) (pays : ℕ → ℕ → ℕ) (cost : ℕ → ℕ) (R : List ℕ) → ((k : ℕ) → k < n → sum_over (pays k) R ≤ cost k) →
    sum_over (λ t. sum_over (λ k. pays k t) (below n)) R ≤ sum_over cost (below n)
paid_costs n pays cost R h = omega (arith, sum_swap (λ t k. pays k t) R (below n), sum_mono (λ k. sum_over (pays k) R) cost (all_below n h))

-- of things from 1 to n, paid for j alone
pub paid_one : (f : ℕ → ℕ) (n j : ℕ) → 1 ≤ j → j ≤ n → sum_over (λ k. cond (eqb j (k + 1)) (f (k + 1)) 0) (below n) ≡ f j
paid_one f zero j a b = absurd (omega arith)
paid_one f (suc n) j a b = go (ℕ_discrete j (n + 1)) (λ l. paid_one f n j a l)
  where
    go : Dec (j ≡ n + 1) → (j ≤ n → sum_over (λ k. cond (eqb j (k + 1)) (f (k + 1)) 0) (below n) ≡ f j) → cond (eqb j (n + 1)) (f (n + 1)) 0 + sum_over (λ k. cond (eqb j (k + 1)) (f (k + 1)) 0) (below n) ≡ f j
    go (yes e) ih =
        let rest : sum_over (λ k. cond (eqb j (k + 1)) (f (k + 1)) 0) (below n) ≡ 0 = sum_zero (λ k. cond (eqb j (k + 1)) (f (k + 1)) 0) (all_below n (λ k l. rw (ne_eqb j (k + 1) (omega arith)))) in
        let here : f j ≡ f (n + 1) = ap f e in
        rw (eq-eqb j (n + 1) e) (omega (arith, rest, here))
    go (no e) ih = rw (ne_eqb j (n + 1) e) (omega (arith, ih (omega arith)))
