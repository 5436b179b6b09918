-- Filling is what the words say, and they leave no other choice: the order in which turns are filled in is fixed. Assumes nothing.
use Prim.Native.Nat.{ℕ, zero, suc, ◌≤◌, ◌<◌}
use mathlib.Core.Path.{◌≡◌, refl, sym, ap, ◌∙◌}
use mathlib.Core.Logic.{◌↔◌, ◌⊎◌, inl, inr}
use mathlib.Core.List.{List}
use mathlib.Core.Bool.{Bool, true, false}
use native.Mathlib.Omega.{arith}
use native.Mathlib.Decide.{dec_lt}
use lib.ListN.{length}
use lib.Seq.{get_or-set_same, get_or-set_other, ext_get_or}
use Rattle.lists.proofs.Bools.{not_both, same_tests}
use Rattle.model.specs.Turns.{Turns, PositiveLengths}
use Rattle.model.specs.Choice.{has, fits, choose, choose_each, fill}
use Rattle.model.specs.Filling.{CanJoin, FilledUp}
use Rattle.model.proofs.Minutes.{conflict_is, no_conflict_is}
use Rattle.model.proofs.Choices.{choose_cases, choose_set, choose_not, fill_length, fill_keeps}
use Rattle.model.proofs.Filled.{fits_apart, apart_fits}

-- ---- for any test of what fits: turns are settled one after another

module _ (test : List Bool → ℕ → Bool) where
  -- choosing j settles no other turn
  choose_other : (S : List Bool) (j t : ℕ) → (t ≡ j → ⊥) → has (choose test S j) t ≡ has S t
  choose_other S j t d = choose_cases test (λ U. has U t ≡ has S t) S j (λ e. get_or-set_other S j t true false d) (λ e. refl)

  -- a turn that filling has not come to is as before
  fill_above : (i : ℕ) (S : List Bool) (t : ℕ) → i ≤ t → has (fill test i S) t ≡ has S t
  unfolding fill choose_each
  fill_above zero S t l = refl
  fill_above (suc i) S t l = choose_other (fill test i S) i t (λ e. omega arith) ∙ fill_above i S t (omega arith)

  -- one that it has passed stays as it is
  fill_settled : (n i : ℕ) (S : List Bool) (t : ℕ) → t < i → i ≤ n → has (fill test n S) t ≡ has (fill test i S) t
  unfolding fill choose_each
  fill_settled zero i S t l m = absurd (omega arith)
  fill_settled (suc n) i S t l m = go (dec_lt n i) (fill_settled n i S t l)
    where
      go : Dec (n < i) → (i ≤ n → has (fill test n S) t ≡ has (fill test i S) t) → has (fill test (suc n) S) t ≡ has (fill test i S) t
      go (yes p) ih = let e : suc n ≡ i = omega arith in ap (λ (k : ℕ). has (fill test k S) t) e
      go (no p) ih = choose_other (fill test n S) n t (λ e. omega arith) ∙ ih (omega arith)

  -- when it comes to a turn, this one is chosen if it fits, and otherwise stays as it was
  fill_fits : (t : ℕ) (S : List Bool) → t < length S → test (fill test t S) t ≡ true → has (fill test (suc t) S) t ≡ true
  unfolding fill choose_each
  fill_fits t S l e = rw (choose_set test (fill test t S) t e) (get_or-set_same (fill test t S) t true false (omega (arith, fill_length test t S)))

  fill_unfit : (t : ℕ) (S : List Bool) → test (fill test t S) t ≡ false → has (fill test (suc t) S) t ≡ has S t
  unfolding fill choose_each
  fill_unfit t S e = ap (λ (U : List Bool). has U t) (choose_not test (fill test t S) t e) ∙ fill_above t S t (omega arith)

  -- so a turn is chosen exactly if it was before, or fits beside what is chosen when filling comes to it
  pub filled_at : (n : ℕ) (S : List Bool) (t : ℕ) → t < n → t < length S → (has (fill test n S) t ≡ true) ↔ ((has S t ≡ true) ⊎ (test (fill test t S) t ≡ true))
  filled_at n S t l m = (λ e. to e (test (fill test t S) t) refl, from)
    where
      settled : has (fill test n S) t ≡ has (fill test (suc t) S) t
      settled = fill_settled n (suc t) S t (omega arith) (omega arith)

      to : has (fill test n S) t ≡ true → (b : Bool) → test (fill test t S) t ≡ b → (has S t ≡ true) ⊎ (test (fill test t S) t ≡ true)
      to e true f = inr f
      to e false f = inl (sym (fill_unfit t S f) ∙ (sym settled ∙ e))

      from : (has S t ≡ true) ⊎ (test (fill test t S) t ≡ true) → has (fill test n S) t ≡ true
      from (inl h) = fill_keeps test n S t h
      from (inr f) = settled ∙ fill_fits t S m f

-- ---- a shift

module _ (T : Turns) (lengths : PositiveLengths T) (S : List Bool) where
  -- what is chosen when filling comes to turn t: S, and what is filled in before
  module _ (t : ℕ) (l : t < T.count) where
    abbrev R : List Bool
    R = fill (fits T) T.count S

    abbrev then : List Bool
    then = fill (fits T) t S

    had : (u : ℕ) → has then u ≡ true → (has S u ≡ true) ⊎ ((u < t) × (has R u ≡ true))
    had u e = go (dec_lt u t)
      where
        go : Dec (u < t) → (has S u ≡ true) ⊎ ((u < t) × (has R u ≡ true))
        go (yes k) = inr (k, fill_settled (fits T) T.count t S u k (omega arith) ∙ e)
        go (no k) = inl (sym (fill_above (fits T) t S u (omega arith)) ∙ e)

    given : (u : ℕ) → (has S u ≡ true) ⊎ ((u < t) × (has R u ≡ true)) → has then u ≡ true
    given u (inl h) = fill_keeps (fits T) t S u h
    given u (inr (k, h)) = sym (fill_settled (fits T) T.count t S u k (omega arith)) ∙ h

    fits_joins : fits T then t ≡ true → CanJoin T S R t
    fits_joins e u k w c = not_both ((conflict_is T lengths u t k l).1 c) (fits_apart T then t e u k (given u w))

    joins_fits : CanJoin T S R t → fits T then t ≡ true
    joins_fits h = apart_fits T then t (λ u k q. (no_conflict_is T lengths u t k l).1 (h u k (had u q)))

  module _ (size : length S ≡ T.count) where
    -- filling is what the words say
    pub filled_is : FilledUp T S (fill (fits T) T.count S)
    filled_is = record { places = fill_length (fits T) T.count S ∙ size; exactly = λ t l. (λ e. to t l ((at t l).0 e), λ w. (at t l).1 (from t l w)) }
      where
        at : (t : ℕ) → t < T.count → (has (fill (fits T) T.count S) t ≡ true) ↔ ((has S t ≡ true) ⊎ (fits T (fill (fits T) t S) t ≡ true))
        at t l = filled_at (fits T) T.count S t l (omega arith)

        to : (t : ℕ) → t < T.count → (has S t ≡ true) ⊎ (fits T (fill (fits T) t S) t ≡ true) → (has S t ≡ true) ⊎ CanJoin T S (fill (fits T) T.count S) t
        to t l (inl h) = inl h
        to t l (inr f) = inr (fits_joins t l f)

        from : (t : ℕ) → t < T.count → (has S t ≡ true) ⊎ CanJoin T S (fill (fits T) T.count S) t → (has S t ≡ true) ⊎ (fits T (fill (fits T) t S) t ≡ true)
        from t l (inl h) = inl h
        from t l (inr j) = inr (joins_fits t l j)

-- ---- there is no other

-- where the turns of lower numbers are alike, what one has the other has
has_too : (T : Turns) (S P Q : List Bool) → FilledUp T S P → FilledUp T S Q → (t : ℕ) → t < T.count → ((u : ℕ) → u < t → has P u ≡ has Q u) → has P t ≡ true → has Q t ≡ true
has_too T S P Q p q t l same e = (q.exactly t l).1 (go ((p.exactly t l).0 e))
  where
    back : (u : ℕ) → (has S u ≡ true) ⊎ ((u < t) × (has Q u ≡ true)) → (has S u ≡ true) ⊎ ((u < t) × (has P u ≡ true))
    back u (inl h) = inl h
    back u (inr (k, h)) = inr (k, same u k ∙ h)

    go : (has S t ≡ true) ⊎ CanJoin T S P t → (has S t ≡ true) ⊎ CanJoin T S Q t
    go (inl h) = inl h
    go (inr j) = inr (λ u k w c. j u k (back u w) c)

module _ (T : Turns) (S P Q : List Bool) (p : FilledUp T S P) (q : FilledUp T S Q) where
  alike : (bound t : ℕ) → t < bound → t < T.count → has P t ≡ has Q t
  alike zero t l m = absurd (omega arith)
  alike (suc bound) t l m = go (λ u k. alike bound u (omega arith) (omega arith))
    where
      go : ((u : ℕ) → u < t → has P u ≡ has Q u) → has P t ≡ has Q t
      go lower = same_tests (has P t) (has Q t) (has_too T S P Q p q t m lower) (has_too T S Q P q p t m (λ u k. sym (lower u k)))

  -- the words leave one choice
  pub filled_one : P ≡ Q
  filled_one = ext_get_or false P Q (p.places ∙ sym q.places) (λ t l. alike (suc t) t (omega arith) (omega (arith, p.places)))

-- it is what filling gives
pub filled_only : (T : Turns) → PositiveLengths T → (S R : List Bool) → length S ≡ T.count → FilledUp T S R → R ≡ fill (fits T) T.count S
filled_only T lengths S R size r = filled_one T S R (fill (fits T) T.count S) r (filled_is T lengths S size)
