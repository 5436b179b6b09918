-- Rounds, whatever the rule: how they go on from a look, what they keep, and what more of them bring. Assumes nothing.
use mathlib.Core.Path.{◌≡◌, refl, ap, ◌∙◌, sym}
use mathlib.Core.Logic.{◌⊎◌, inl, inr}
use mathlib.Core.Bool.{Bool, true, false, cond}
use mathlib.Core.List.{List}
use Prim.Native.Nat.{ℕ, zero, suc, ◌+◌, ◌-◌, ◌≤◌, ◌<◌}
use native.Mathlib.Omega.{arith}
use native.Mathlib.Decide.{dec_lt}
use lib.Dec.{ltb, eqb}
use borrow.Author.Tests.{lt-ltb, le-ltb, eqb-true, eqb-false, eq-eqb, ne_eqb}
use Rattle.refine_spec.specs.Rounds.{RoundRule, Stage, lower_limit, better_choice, looked, next_change, moving, refined}

-- the lowest limit is the best worth
abbrev pub Met : Stage → Type 0
Met x = x.limit ≡ x.worth

module _ (R : RoundRule) where
  -- ---- a look

  -- it moves nothing
  pub looked_prices : (x : Stage) → (looked R x).prices ≡ x.prices
  unfolding looked lower_limit better_choice
  looked_prices x = refl

  pub looked_rounds : (x : Stage) → (looked R x).rounds ≡ x.rounds
  unfolding looked lower_limit better_choice
  looked_rounds x = refl

  -- a limit that is not lower changes nothing; a lower one is kept with its prices
  pub limit_stays : (x : Stage) → x.limit ≤ R.limit x.prices → ((looked R x).limit ≡ x.limit) × ((looked R x).list ≡ x.list)
  unfolding looked lower_limit better_choice
  limit_stays x h = let e = le-ltb (R.limit x.prices) x.limit h in (rw e, rw e)

  pub limit_lower : (x : Stage) → R.limit x.prices < x.limit → ((looked R x).limit ≡ R.limit x.prices) × ((looked R x).list ≡ x.prices)
  unfolding looked lower_limit better_choice
  limit_lower x h = let e = lt-ltb (R.limit x.prices) x.limit h in (rw e, rw e)

  -- a choice that is not worth more changes nothing; one that is, is kept with its worth
  pub choice_stays : (x : Stage) → R.worth (R.choice x.prices) ≤ x.worth → ((looked R x).worth ≡ x.worth) × ((looked R x).choice ≡ x.choice)
  unfolding looked lower_limit better_choice
  choice_stays x h = let e = le-ltb x.worth (R.worth (R.choice x.prices)) h in (rw e, rw e)

  pub choice_better : (x : Stage) → x.worth < R.worth (R.choice x.prices) → ((looked R x).worth ≡ R.worth (R.choice x.prices)) × ((looked R x).choice ≡ R.choice x.prices)
  unfolding looked lower_limit better_choice
  choice_better x h = let e = lt-ltb x.worth (R.worth (R.choice x.prices)) h in (rw e, rw e)

  -- so the limit is the lower of the two, and the worth the greater
  pub looked_limit : (x : Stage) → ((looked R x).limit ≤ x.limit) × ((looked R x).limit ≤ R.limit x.prices)
  looked_limit x = go (dec_lt (R.limit x.prices) x.limit)
    where
      go : Dec (R.limit x.prices < x.limit) → ((looked R x).limit ≤ x.limit) × ((looked R x).limit ≤ R.limit x.prices)
      go (yes h) = (omega (arith, (limit_lower x h).0), omega (arith, (limit_lower x h).0))
      go (no h) = let l : x.limit ≤ R.limit x.prices = omega arith in (omega (arith, (limit_stays x l).0), omega (arith, (limit_stays x l).0))

  pub looked_worth : (x : Stage) → (x.worth ≤ (looked R x).worth) × (R.worth (R.choice x.prices) ≤ (looked R x).worth)
  looked_worth x = go (dec_lt x.worth (R.worth (R.choice x.prices)))
    where
      go : Dec (x.worth < R.worth (R.choice x.prices)) → (x.worth ≤ (looked R x).worth) × (R.worth (R.choice x.prices) ≤ (looked R x).worth)
      go (yes h) = (omega (arith, (choice_better x h).0), omega (arith, (choice_better x h).0))
      go (no h) = let l : R.worth (R.choice x.prices) ≤ x.worth = omega arith in (omega (arith, (choice_stays x l).0), omega (arith, (choice_stays x l).0))

  -- what a limit and its list have before it, and its prices with their limit, they have after it
  pub looked_listed : (P : ℕ → List ℕ → Type 0) (x : Stage) → P (R.limit x.prices) x.prices → P x.limit x.list → P (looked R x).limit (looked R x).list
  unfolding looked lower_limit better_choice
  looked_listed P x p q = go (ltb (R.limit x.prices) x.limit)
    where
      go : (b : Bool) → P (cond b (R.limit x.prices) x.limit) (cond b x.prices x.list)
      go true = p
      go false = q

  -- and so a worth and its choice
  pub looked_chosen : (P : ℕ → List Bool → Type 0) (x : Stage) → P (R.worth (R.choice x.prices)) (R.choice x.prices) → P x.worth x.choice → P (looked R x).worth (looked R x).choice
  unfolding looked lower_limit better_choice
  looked_chosen P x p q = go (ltb x.worth (R.worth (R.choice x.prices)))
    where
      go : (b : Bool) → P (cond b (R.worth (R.choice x.prices)) x.worth) (cond b (R.choice x.prices) x.choice)
      go true = p
      go false = q

  -- ---- a round

  -- it lowers the change
  pub moving_change : (x : Stage) → (moving R x).change ≡ next_change x.change
  unfolding moving
  moving_change x = refl

  -- ---- from a look on: no round is left, or limit and worth have met, or a round comes

  pub refined_last : (x : Stage) → refined R 0 x ≡ looked R x
  unfolding refined
  refined_last x = refl

  pub refined_met : (n : ℕ) (x : Stage) → Met (looked R x) → refined R n x ≡ looked R x
  unfolding refined
  refined_met zero x e = refl
  refined_met (suc n) x e = rw (eq-eqb (looked R x).limit (looked R x).worth e)

  pub refined_next : (n : ℕ) (x : Stage) → (Met (looked R x) → ⊥) → refined R (suc n) x ≡ refined R n (moving R (looked R x))
  unfolding refined
  refined_next n x d = rw (ne_eqb (looked R x).limit (looked R x).worth d)

  -- the same where some of the rounds are made
  pub refined_stops : (rounds made : ℕ) (x : Stage) → (rounds ≤ made) ⊎ Met (looked R x) → refined R (rounds - made) x ≡ looked R x
  refined_stops rounds made x (inl h) = let e : rounds - made ≡ 0 = omega arith in ap (λ (n : ℕ). refined R n x) e ∙ refined_last x
  refined_stops rounds made x (inr e) = refined_met (rounds - made) x e

  pub refined_goes : (rounds made : ℕ) (x : Stage) → made < rounds → (Met (looked R x) → ⊥) → refined R (rounds - made) x ≡ refined R (rounds - (made + 1)) (moving R (looked R x))
  refined_goes rounds made x h d = let e : rounds - made ≡ suc (rounds - (made + 1)) = omega arith in ap (λ (n : ℕ). refined R n x) e ∙ refined_next (rounds - (made + 1)) x d

  -- what holds in each of the three cases
  module _ (P : ℕ → Stage → Stage → Type 0) (last : (x : Stage) → P 0 x (looked R x)) (met : (n : ℕ) (x : Stage) → Met (looked R x) → P (suc n) x (looked R x))
      (next : (n : ℕ) (x y : Stage) → (Met (looked R x) → ⊥) → P n (moving R (looked R x)) y → P (suc n) x y) where
    pub refined_ind : (n : ℕ) (x : Stage) → P n x (refined R n x)
    unfolding refined
    refined_ind zero x = last x
    refined_ind (suc n) x = go (eqb (looked R x).limit (looked R x).worth) refl (refined_ind n (moving R (looked R x)))
      where
        go : (b : Bool) → eqb (looked R x).limit (looked R x).worth ≡ b → P n (moving R (looked R x)) (refined R n (moving R (looked R x))) →
            P (suc n) x (cond b (looked R x) (refined R n (moving R (looked R x))))
        go true e ih = met n x (eqb-true (looked R x).limit (looked R x).worth e)
        go false e ih = next n x (refined R n (moving R (looked R x))) (eqb-false (looked R x).limit (looked R x).worth e) ih

  -- what a look keeps and a round keeps
  pub refined_kept : (P : Stage → Type 0) → ((x : Stage) → P x → P (looked R x)) → ((x : Stage) → P x → P (moving R x)) → (n : ℕ) (x : Stage) → P x → P (refined R n x)
  refined_kept P look move = refined_ind (λ n x y. P x → P y) look (λ n x e. look x) (λ n x y d ih p. ih (move (looked R x) (look x p)))

  -- ---- what they keep

  -- the limit is that of the price list
  pub listed_limit : (n : ℕ) (x : Stage) → x.limit ≡ R.limit x.list → (refined R n x).limit ≡ R.limit (refined R n x).list
  unfolding moving
  listed_limit = refined_kept (λ x. x.limit ≡ R.limit x.list) (λ x e. looked_listed (λ l p. l ≡ R.limit p) x refl e) (λ x e. e)

  -- the worth is that of the choice
  pub chosen_worth : (n : ℕ) (x : Stage) → x.worth ≡ R.worth x.choice → (refined R n x).worth ≡ R.worth (refined R n x).choice
  unfolding moving
  chosen_worth = refined_kept (λ x. x.worth ≡ R.worth x.choice) (λ x e. looked_chosen (λ w S. w ≡ R.worth S) x refl e) (λ x e. e)

  -- what each choice made has, and the first
  pub choice_kept : (P : List Bool → Type 0) → ((prices : List ℕ) → P (R.choice prices)) → (n : ℕ) (x : Stage) → P x.choice → P (refined R n x).choice
  unfolding moving
  choice_kept P made = refined_kept (λ x. P x.choice) (λ x p. looked_chosen (λ w S. P S) x (made x.prices) p) (λ x p. p)

  -- what moving keeps of a price list, and the first have
  pub lists_kept : (P : List ℕ → Type 0) → ((change : ℕ) (prices : List ℕ) → P prices → P (R.moved change prices)) → (n : ℕ) (x : Stage) → P x.prices × P x.list → P (refined R n x).prices × P (refined R n x).list
  unfolding moving
  lists_kept P moves =
      refined_kept (λ x. P x.prices × P x.list) (λ x (p, q). (rw (looked_prices x) p, looked_listed (λ l ps. P ps) x p q)) (λ x (p, q). (moves x.change x.prices p, q))

  -- ---- what more of them bring

  pub worth_grows : (n : ℕ) (x : Stage) → x.worth ≤ (refined R n x).worth
  unfolding moving
  worth_grows = refined_ind (λ n x y. x.worth ≤ y.worth) (λ x. (looked_worth x).0) (λ n x e. (looked_worth x).0) (λ n x y d ih. omega (arith, (looked_worth x).0, ih))

  pub limit_falls : (n : ℕ) (x : Stage) → (refined R n x).limit ≤ x.limit
  unfolding moving
  limit_falls = refined_ind (λ n x y. y.limit ≤ x.limit) (λ x. (looked_limit x).0) (λ n x e. (looked_limit x).0) (λ n x y d ih. omega (arith, (looked_limit x).0, ih))

  -- beside fewer rounds, the worth is no less and the limit no higher
  pub more_rounds : (m n : ℕ) (x : Stage) → m ≤ n → ((refined R m x).worth ≤ (refined R n x).worth) × ((refined R n x).limit ≤ (refined R m x).limit)
  unfolding moving
  more_rounds m n x h = refined_ind (λ m x y. (n : ℕ) → m ≤ n → (y.worth ≤ (refined R n x).worth) × ((refined R n x).limit ≤ y.limit)) (λ x n h. from_look n x) (λ k x e n h. from_look n x) next m x n h
    where
      from_look : (n : ℕ) (x : Stage) → ((looked R x).worth ≤ (refined R n x).worth) × ((refined R n x).limit ≤ (looked R x).limit)
      from_look = refined_ind (λ n x y. ((looked R x).worth ≤ y.worth) × (y.limit ≤ (looked R x).limit)) (λ x. (omega arith, omega arith)) (λ n x e. (omega arith, omega arith)) goes
        where
          goes : (n : ℕ) (x y : Stage) → (Met (looked R x) → ⊥) → ((looked R (moving R (looked R x))).worth ≤ y.worth) × (y.limit ≤ (looked R (moving R (looked R x))).limit) → ((looked R x).worth ≤ y.worth) × (y.limit ≤ (looked R x).limit)
          goes n x y d (a, b) = (omega (arith, a, (looked_worth (moving R (looked R x))).0), omega (arith, b, (looked_limit (moving R (looked R x))).0))

      next : (k : ℕ) (x y : Stage) → (Met (looked R x) → ⊥) → ((n : ℕ) → k ≤ n → (y.worth ≤ (refined R n (moving R (looked R x))).worth) × ((refined R n (moving R (looked R x))).limit ≤ y.limit)) →
          (n : ℕ) → suc k ≤ n → (y.worth ≤ (refined R n x).worth) × ((refined R n x).limit ≤ y.limit)
      next k x y d ih zero h = absurd (omega arith)
      next k x y d ih (suc n) h = rw (refined_next n x d) (ih n (omega arith))

  -- ---- the rounds made

  -- no more than given
  pub rounds_most : (n : ℕ) (x : Stage) → (refined R n x).rounds ≤ x.rounds + n
  unfolding moving
  rounds_most = refined_ind (λ n x y. y.rounds ≤ x.rounds + n) (λ x. omega (arith, looked_rounds x)) (λ n x e. omega (arith, looked_rounds x)) (λ n x y d ih. omega (arith, looked_rounds x, ih))

  -- fewer only where limit and worth have met
  pub rounds_ended : (n : ℕ) (x : Stage) → ((refined R n x).rounds ≡ x.rounds + n) ⊎ Met (refined R n x)
  unfolding moving
  rounds_ended = refined_ind (λ n x y. (y.rounds ≡ x.rounds + n) ⊎ Met y) (λ x. inl (omega (arith, looked_rounds x))) (λ n x e. inr e) next
    where
      next : (n : ℕ) (x y : Stage) → (Met (looked R x) → ⊥) → (y.rounds ≡ (looked R x).rounds + 1 + n) ⊎ Met y → (y.rounds ≡ x.rounds + suc n) ⊎ Met y
      next n x y d (inl e) = inl (omega (arith, looked_rounds x, e))
      next n x y d (inr e) = inr e

  -- and with a number of rounds below those made they have not
  pub not_met_before : (n : ℕ) (x : Stage) (k : ℕ) → x.rounds + k < (refined R n x).rounds → Met (refined R k x) → ⊥
  unfolding moving
  not_met_before =
      refined_ind (λ n x y. (k : ℕ) → x.rounds + k < y.rounds → Met (refined R k x) → ⊥) (λ x k h. absurd (omega (arith, looked_rounds x))) (λ n x e k h. absurd (omega (arith, looked_rounds x))) next
    where
      next : (n : ℕ) (x y : Stage) → (Met (looked R x) → ⊥) → ((k : ℕ) → (looked R x).rounds + 1 + k < y.rounds → Met (refined R k (moving R (looked R x))) → ⊥) →
          (k : ℕ) → x.rounds + k < y.rounds → Met (refined R k x) → ⊥
      next n x y d ih zero h = rw (refined_last x) d
      next n x y d ih (suc k) h = rw (refined_next k x d) (ih k (omega (arith, looked_rounds x)))

-- ---- of an answer that gives a stage's numbers

pub record Given (x : Stage) (worth limit rounds : ℕ) : Type 0 where
  pub worth_is : worth ≡ x.worth
  pub limit_is_lem : limit ≡ x.limit
  pub rounds_is : rounds ≡ x.rounds

-- those after n rounds, none being made at the start
module _ (R : RoundRule) (start : Stage) (z : start.rounds ≡ 0) (n : ℕ) {worth limit rounds : ℕ} (g : Given (refined R n start) worth limit rounds) where
  pub given_made : rounds ≤ n
  given_made = omega (arith, g.rounds_is, rounds_most R n start, z)

  pub given_ended : (rounds ≡ n) ⊎ (limit ≡ worth)
  given_ended = go (rounds_ended R n start)
    where
      go : ((refined R n start).rounds ≡ start.rounds + n) ⊎ Met (refined R n start) → (rounds ≡ n) ⊎ (limit ≡ worth)
      go (inl e) = inl (omega (arith, g.rounds_is, z, e))
      go (inr e) = inr (g.limit_is_lem ∙ e ∙ sym g.worth_is)

  -- beside another such answer, after k rounds
  module _ (k : ℕ) {worth' limit' rounds' : ℕ} (o : Given (refined R k start) worth' limit' rounds') where
    pub given_more_worth : n ≤ k → worth ≤ worth'
    given_more_worth h = omega (arith, (more_rounds R n k start h).0, g.worth_is, o.worth_is)

    pub given_more_limit : n ≤ k → limit' ≤ limit
    given_more_limit h = omega (arith, (more_rounds R n k start h).1, g.limit_is_lem, o.limit_is_lem)

    pub given_not_before : k < rounds → limit' ≡ worth' → ⊥
    given_not_before h q = not_met_before R n start k (omega (arith, h, g.rounds_is, z)) (sym o.limit_is_lem ∙ q ∙ o.worth_is)

-- two answers that give the same stage
pub given_same : {x : Stage} {worth limit rounds worth' limit' rounds' : ℕ} → Given x worth limit rounds → Given x worth' limit' rounds'
    → (worth' ≡ worth) × (limit' ≡ limit) × (rounds' ≡ rounds)
given_same g o = (o.worth_is ∙ sym g.worth_is, o.limit_is_lem ∙ sym g.limit_is_lem, o.rounds_is ∙ sym g.rounds_is)
