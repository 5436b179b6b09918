-- Choosing one turn after another wherever it fits, for any test of what fits, and sums over the chosen turns. Of the source only lines 8 to 11 of 5.2.1: add J if that is feasible. Assumes nothing.
use mathlib.Core.Path.{◌≡◌, refl, sym, ap, ◌∙◌}
use mathlib.Core.Logic.{◌⊎◌, inl, inr}
use mathlib.Core.List.{List, [], ◌∷◌, ◌++◌}
use mathlib.Core.Bool.{Bool, true, false, cond}
use Prim.Native.Nat.{ℕ, zero, suc, ◌+◌, ◌≤◌, ◌<◌}
use native.Mathlib.Omega.{arith}
use native.Mathlib.Decide.{ℕ_discrete}
use lib.Dec.{eqb}
use lib.ListN.{length, set, replicate, length-set}
use lib.Seq.{get_or-set_same, get_or-set_other}
use borrow.Author.Tests.{eqb-true}
use Rattle.lists.specs.Lists.{sum_over, below}
use Rattle.model.specs.Choice.{has, chosen, choose, choose_each, back, fill}
use Rattle.lists.proofs.Bools.{not_both, up_to, cond_most}
use Rattle.lists.proofs.Sums.{sum_add, sum_mono, sum_point, sum_room, all_of, all_below}

-- ---- one turn more

pub put_keeps : (S : List Bool) (j t : ℕ) → has S t ≡ true → has (set S j true) t ≡ true
put_keeps [] j t e = e
put_keeps (b ∷ S) zero zero e = refl
put_keeps (b ∷ S) zero (suc t) e = e
put_keeps (b ∷ S) (suc j) zero e = e
put_keeps (b ∷ S) (suc j) (suc t) e = put_keeps S j t e

pub put_from : (S : List Bool) (j t : ℕ) → has (set S j true) t ≡ true → (t ≡ j) ⊎ (has S t ≡ true)
put_from S j t e = elim (ℕ_discrete t j) [ yes q ↦ inl q | no q ↦ inr (sym (get_or-set_other S j t true false q) ∙ e) ]

pub none_chosen : (m t : ℕ) → has (replicate m false) t ≡ true → ⊥
none_chosen zero t e = not_both e refl
none_chosen (suc m) zero e = not_both e refl
none_chosen (suc m) (suc t) e = none_chosen m t e

module _ (fits : List Bool → ℕ → Bool) where
  -- either the turn fits and is chosen, or nothing changes
  pub choose_cases : (P : List Bool → Type 0) (S : List Bool) (j : ℕ) → (fits S j ≡ true → P (set S j true)) → (fits S j ≡ false → P S) → P (choose fits S j)
  unfolding choose
  choose_cases P S j h k = go (fits S j) refl
    where
      go : (b : Bool) → fits S j ≡ b → P (cond b (set S j true) S)
      go true e = h e
      go false e = k e

  pub choose_set : (S : List Bool) (j : ℕ) → fits S j ≡ true → choose fits S j ≡ set S j true
  unfolding choose
  choose_set S j e = rw e

  pub choose_not : (S : List Bool) (j : ℕ) → fits S j ≡ false → choose fits S j ≡ S
  unfolding choose
  choose_not S j e = rw e

  -- a list after another one comes before it
  pub each_both : (is js : List ℕ) (S : List Bool) → choose_each fits (is ++ js) S ≡ choose_each fits is (choose_each fits js S)
  unfolding choose_each
  each_both [] js S = refl
  each_both (i ∷ is) js S = ap (λ (U : List Bool). choose fits U i) (each_both is js S)

  -- going back, then filling, is one list: i - 1, .., 0, and after them the steps' turns
  pub each_fill_back : (i n : ℕ) (js : List ℕ) → choose_each fits (below i ++ js) (replicate n false) ≡ fill fits i (back fits n js)
  unfolding fill back
  each_fill_back i n js = each_both (below i) js (replicate n false)

  -- what one turn more keeps, if it fits, each of a list keeps, and so do going back and filling
  module _ (P : List Bool → Type 0) (put : (S : List Bool) (j : ℕ) → fits S j ≡ true → P S → P (set S j true)) where
    pub choose_kept : (S : List Bool) (j : ℕ) → P S → P (choose fits S j)
    choose_kept S j p = choose_cases P S j (λ e. put S j e p) (λ e. p)

    pub each_kept : (js : List ℕ) (S : List Bool) → P S → P (choose_each fits js S)
    unfolding choose_each
    each_kept [] S p = p
    each_kept (j ∷ js) S p = choose_kept (choose_each fits js S) j (each_kept js S p)

    pub back_kept : (n : ℕ) → P (replicate n false) → (js : List ℕ) → P (back fits n js)
    unfolding back
    back_kept n p js = each_kept js (replicate n false) p

    pub fill_kept : (i : ℕ) (S : List Bool) → P S → P (fill fits i S)
    unfolding fill
    fill_kept i S p = each_kept (below i) S p

  pub fill_length : (i : ℕ) (S : List Bool) → length (fill fits i S) ≡ length S
  fill_length i S = fill_kept (λ U. length U ≡ length S) (λ U j e p. length-set U j true ∙ p) i S refl

  pub fill_keeps : (i : ℕ) (S : List Bool) (t : ℕ) → has S t ≡ true → has (fill fits i S) t ≡ true
  fill_keeps i S t = fill_kept (λ U. has U t ≡ true) (λ U j e p. put_keeps U j t p) i S

  -- what does not fit never fits later: then each turn below i is chosen after filling, or does not fit
  module _ (shut : (S : List Bool) (j t : ℕ) → fits S t ≡ false → fits (set S j true) t ≡ false) where
    pub fill_full : (i : ℕ) (S : List Bool) → i ≤ length S → (t : ℕ) → t < i → (has (fill fits i S) t ≡ true) ⊎ (fits (fill fits i S) t ≡ false)
    unfolding fill choose_each
    fill_full zero S l t m = absurd (omega arith)
    fill_full (suc i) S l t m = up_to Settled i (λ u k. older u (fill_full i S (omega arith) u k)) newest t m
      where
        before : List Bool
        before = fill fits i S

        Settled : ℕ → Type 0
        Settled t = (has (choose fits before i) t ≡ true) ⊎ (fits (choose fits before i) t ≡ false)

        older : (t : ℕ) → (has before t ≡ true) ⊎ (fits before t ≡ false) → Settled t
        older t (inl e) = inl (choose_kept (λ U. has U t ≡ true) (λ U j f p. put_keeps U j t p) before i e)
        older t (inr e) = inr (choose_kept (λ U. fits U t ≡ false) (λ U j f p. shut U j t p) before i e)

        newest : Settled i
        newest =
            choose_cases (λ U. (has U i ≡ true) ⊎ (fits U i ≡ false)) before i
            (λ e. inl (get_or-set_same before i true false (omega (arith, fill_length i S))))
            (λ e. inr e)

-- ---- sums over the chosen turns

pub chosen_mono : (n : ℕ) (S U : List Bool) (f g : ℕ → ℕ) → ((t : ℕ) → t < n → has S t ≡ true → (has U t ≡ true) × (f t ≤ g t)) → chosen n S f ≤ chosen n U g
unfolding chosen
chosen_mono n S U f g h = sum_mono (λ t. cond (has S t) (f t) 0) (λ t. cond (has U t) (g t) 0) (all_below n (λ t l. go t l (has S t) refl))
  where
    go : (t : ℕ) → t < n → (b : Bool) → has S t ≡ b → cond b (f t) 0 ≤ cond (has U t) (g t) 0
    go t l true e = rw (h t l e).0 (h t l e).1
    go t l false e = omega arith

pub chosen_add : (n : ℕ) (S : List Bool) (f g h : ℕ → ℕ) → ((t : ℕ) → has S t ≡ true → f t + g t ≤ h t) → chosen n S f + chosen n S g ≤ chosen n S h
unfolding chosen
chosen_add n S f g h k =
    omega (
      arith,
      sum_add (λ t. cond (has S t) (f t) 0) (λ t. cond (has S t) (g t) 0) (below n),
      sum_mono (λ t. cond (has S t) (f t) 0 + cond (has S t) (g t) 0) (λ t. cond (has S t) (h t) 0) (all_of (λ t. go t (has S t) refl) (below n)),
    )
  where
    go : (t : ℕ) (b : Bool) → has S t ≡ b → cond b (f t) 0 + cond b (g t) 0 ≤ cond b (h t) 0
    go t true e = k t e
    go t false e = omega arith

pub chosen_point : (n : ℕ) (S : List Bool) (f : ℕ → ℕ) (j : ℕ) → j < n → has S j ≡ true → f j ≤ chosen n S f
unfolding chosen
chosen_point n S f j l e = rw e at (sum_point (λ t. cond (has S t) (f t) 0) n j l)

-- a turn chosen besides adds its part
pub chosen_put : (n : ℕ) (S : List Bool) (f : ℕ → ℕ) (j : ℕ) → j < n → length S ≡ n → has S j ≡ false → f j + chosen n S f ≤ chosen n (set S j true) f
unfolding chosen
chosen_put n S f j l k e =
    sum_room (λ t. cond (has S t) (f t) 0) (λ t. cond (has (set S j true) t) (f t) 0) (f j) n j l (λ t. go t (eqb t j) refl (has S t) refl)
  where
    go : (t : ℕ) (b : Bool) → eqb t j ≡ b → (c : Bool) → has S t ≡ c → cond b (f j) 0 + cond c (f t) 0 ≤ cond (has (set S j true) t) (f t) 0
    go t true q true h = absurd (not_both (ap (has S) (sym (eqb-true t j q)) ∙ h) e)
    go t true q false h = rw (eqb-true t j q, get_or-set_same S j true false (omega arith)) (omega arith)
    go t false q true h = rw (put_keeps S j t h) (omega arith)
    go t false q false h = omega arith

-- and no more
pub chosen_put_most : (n : ℕ) (S : List Bool) (f : ℕ → ℕ) (j : ℕ) → chosen n (set S j true) f ≤ f j + chosen n S f
unfolding chosen
chosen_put_most n S f j = (both n).1
  where
    before : ℕ → ℕ
    before t = cond (has S t) (f t) 0

    after : ℕ → ℕ
    after t = cond (has (set S j true) t) (f t) 0

    both : (n : ℕ) → (n ≤ j → sum_over after (below n) ≤ sum_over before (below n)) × (sum_over after (below n) ≤ f j + sum_over before (below n))
    both zero = (λ l. omega arith, omega arith)
    both (suc n) = go (ℕ_discrete n j) (both n)
      where
        go : Dec (n ≡ j) → (n ≤ j → sum_over after (below n) ≤ sum_over before (below n)) × (sum_over after (below n) ≤ f j + sum_over before (below n)) →
            (suc n ≤ j → after n + sum_over after (below n) ≤ before n + sum_over before (below n)) × (after n + sum_over after (below n) ≤ f j + (before n + sum_over before (below n)))
        go (yes q) ih =
            let own : after n ≤ f n = cond_most (has (set S j true) n) (omega arith) in
            (λ l. absurd (omega arith), omega (arith, ih.0 (omega arith), own, ap f q))
        go (no q) ih = let same : after n ≡ before n = ap (λ (b : Bool). cond b (f n) 0) (get_or-set_other S j n true false q) in (λ l. omega (arith, same, ih.0 (omega arith)), omega (arith, same, ih.1))

-- where the sum is above 0, so is the part of a chosen turn
pub chosen_some : (n : ℕ) (S : List Bool) (f : ℕ → ℕ) → 0 < chosen n S f → (t : ℕ) × (t < n) × (has S t ≡ true) × (0 < f t)
unfolding chosen
chosen_some zero S f h = absurd (omega arith)
chosen_some (suc n) S f h = go (has S n) refl h (ℕ_discrete (f n) 0) (chosen_some n S f)
  where
    go : (b : Bool) → has S n ≡ b → 0 < cond b (f n) 0 + sum_over (λ t. cond (has S t) (f t) 0) (below n) → Dec (f n ≡ 0) →
        (0 < sum_over (λ t. cond (has S t) (f t) 0) (below n) → (t : ℕ) × (t < n) × (has S t ≡ true) × (0 < f t)) → (t : ℕ) × (t < suc n) × (has S t ≡ true) × (0 < f t)
    go true e h (yes q) ih = let r = ih (omega arith) in (r.0, omega (arith, r.1), r.2, r.3)
    go true e h (no q) ih = (n, omega arith, e, omega arith)
    go false e h d ih = let r = ih (omega arith) in (r.0, omega (arith, r.1), r.2, r.3)
