-- Without delays: how long a groomer works, and which turn is in hand at the end. Assumes nothing.
use mathlib.Core.Path.{◌≡◌, refl, sym, ap, ◌∙◌}
use mathlib.Core.Logic.{◌↔◌, ◌≢◌}
use mathlib.Core.Bool.{Bool, true, false, cond, ◌&&◌}
use mathlib.Core.List.{List}
use Prim.Native.Nat.{ℕ, zero, suc, ◌-◌, ◌≤◌, ◌<◌}
use native.Mathlib.Omega.{arith}
use native.Mathlib.Decide.{dec_lt}
use lib.Dec.{leb, ltb, eqb}
use borrow.Author.Tests.{leb-true, le-leb, ltb-true, lt-ltb, le-ltb, eqb-true, eq-eqb}
use Rattle.lists.specs.Lists.{sum_over, below}
use Rattle.lists.specs.Order.{how_many}
use Rattle.lists.proofs.Bools.{and_1, and_2, and_of, not_both, fails}
use Rattle.lists.proofs.Sums.{sum_same, sum_swap, sum_zero, sum_point, at_most_one, all_below}
use Rattle.model.specs.Turns.{Turns}
use Rattle.model.specs.Choice.{has, chosen}
use Rattle.play_spec.specs.declared.Stint.{Stint}
use Rattle.play_spec.specs.Standing.{no_turn_number, in_hand}
use Rattle.play_spec.specs.Day.{takes, Doing, works, drives, stands, doing_at, is_work, OnTime}

-- of the first n minutes, those from a on and before b
between : (a b n : ℕ) → a ≤ b → sum_over (λ m. cond (leb a m && ltb m b) 1 0) (below n) ≡ (n - a) - (n - b)
between a b zero l = omega arith
between a b (suc n) l = go (dec_lt n a) (dec_lt n b) (between a b n l)
  where
    go : Dec (n < a) → Dec (n < b) → sum_over (λ m. cond (leb a m && ltb m b) 1 0) (below n) ≡ (n - a) - (n - b) → sum_over (λ m. cond (leb a m && ltb m b) 1 0) (below (suc n)) ≡ (suc n - a) - (suc n - b)
    go (yes p) q ih = rw (fails (leb a n) (λ e. omega (arith, leb-true a n e))) (omega (arith, ih))
    go (no p) (yes q) ih = rw (le-leb a n (omega arith), lt-ltb n b q) (omega (arith, ih))
    go (no p) (no q) ih = rw (le-leb a n (omega arith), le-ltb n b (omega arith)) (omega (arith, ih))

works_turn : {u v : ℕ} → works u ≡ works v → u ≡ v
works_turn e = ap turn_of e
  where
    turn_of : Doing → ℕ
    turn_of (works u) = u
    turn_of drives = 0
    turn_of stands = 0

module _ (T : Turns) (S : List Bool) (h : ℕ) (day : List Stint) (its : (m u : ℕ) → doing_at day m ≡ works u → (u < T.count) × (has S u ≡ true) × (T.groomer u ≡ h))
    (timely : (u : ℕ) → u < T.count → has S u ≡ true → T.groomer u ≡ h → OnTime T day u) where
  -- groomer h takes turn u, and minute m is one of its planned ones
  abbrev at : ℕ → ℕ → Bool
  at m u = takes T S h u && (leb (T.start u) m && ltb m (T.end u))

  at_works : (m u : ℕ) → u < T.count → at m u ≡ true → doing_at day m ≡ works u
  unfolding takes
  at_works m u l e =
      let k = and_1 (has S u && eqb (T.groomer u) h) (leb (T.start u) m && ltb m (T.end u)) e in
      let p = and_2 (has S u && eqb (T.groomer u) h) (leb (T.start u) m && ltb m (T.end u)) e in
      (timely u l (and_1 (has S u) (eqb (T.groomer u) h) k) (eqb-true (T.groomer u) h (and_2 (has S u) (eqb (T.groomer u) h) k))).planned m
      (leb-true (T.start u) m (and_1 (leb (T.start u) m) (ltb m (T.end u)) p)) (ltb-true m (T.end u) (and_2 (leb (T.start u) m) (ltb m (T.end u)) p))

  works_at : (m u : ℕ) → doing_at day m ≡ works u → at m u ≡ true
  unfolding takes
  works_at m u e =
      let (l, c, g) = its m u e in
      let (a, b) = (timely u l c g).only m e in
      and_of (has S u && eqb (T.groomer u) h) (leb (T.start u) m && ltb m (T.end u)) (and_of (has S u) (eqb (T.groomer u) h) c (eq-eqb (T.groomer u) h g))
      (and_of (leb (T.start u) m) (ltb m (T.end u)) (le-leb (T.start u) m a) (lt-ltb m (T.end u) b))

  -- a minute is worked exactly if it is one of one such turn's
  minute_is : (m : ℕ) → ◌≡◌ {A = ℕ} (cond (is_work (doing_at day m)) 1 0) (sum_over (λ u. cond (at m u) 1 0) (below T.count))
  unfolding is_work
  minute_is m = go (doing_at day m) refl
    where
      none_works : ((u : ℕ) → doing_at day m ≡ works u → ⊥) → ◌≡◌ {A = ℕ} 0 (sum_over (λ u. cond (at m u) 1 0) (below T.count))
      none_works n = sym (sum_zero (λ u. cond (at m u) 1 0) (all_below T.count (λ u l. ap (λ (b : Bool). cond {A = ℕ} b 1 0) (fails (at m u) (λ e. n u (at_works m u l e))))))

      go : (d : Doing) → doing_at day m ≡ d → ◌≡◌ {A = ℕ} (cond (is_work d) 1 0) (sum_over (λ u. cond (at m u) 1 0) (below T.count))
      go (works v) e = worked v e
        where
          worked : (v : ℕ) → doing_at day m ≡ works v → ◌≡◌ {A = ℕ} 1 (sum_over (λ u. cond (at m u) 1 0) (below T.count))
          worked v e =
              let one : ◌≡◌ {A = ℕ} (cond (at m v) 1 0) 1 = ap (λ (b : Bool). cond {A = ℕ} b 1 0) (works_at m v e) in
              omega (arith, one, sum_point (λ u. cond (at m u) 1 0) T.count v (its m v e).0, at_most_one (at m) T.count (λ u w a b p q. works_turn (sym (at_works m u a p) ∙ at_works m w b q)))
      go drives e = none_works (λ u f. never (sym e ∙ f))
        where
          never : {u : ℕ} → drives ≡ works u → ⊥
          never q = not_both refl (ap is_work (sym q))
      go stands e = none_works (λ u f. never (sym e ∙ f))
        where
          never : {u : ℕ} → stands ≡ works u → ⊥
          never q = not_both refl (ap is_work (sym q))

  many_minutes : (n : ℕ) → how_many (λ m. is_work (doing_at day m)) n ≡ sum_over (λ m. sum_over (λ u. cond (at m u) 1 0) (below T.count)) (below n)
  many_minutes n = sum_same (λ m. cond (is_work (doing_at day m)) 1 0) (λ m. sum_over (λ u. cond (at m u) 1 0) (below T.count)) n (λ m l. minute_is m)

  -- the minutes worked in a shift are those of the turns taken
  pub worked_planned : (n : ℕ) → ((u : ℕ) → u < T.count → (T.start u ≤ T.end u) × (T.end u ≤ n)) → how_many (λ m. is_work (doing_at day m)) n ≡ chosen T.count S (λ u. cond (eqb (T.groomer u) h) (T.end u - T.start u) 0)
  unfolding chosen takes
  worked_planned n r =
      many_minutes n ∙ sum_swap (λ m u. cond (at m u) 1 0) (below n) (below T.count)
      ∙ sum_same (λ u. sum_over (λ m. cond (at m u) 1 0) (below n)) (λ u. cond (has S u) (cond (eqb (T.groomer u) h) (T.end u - T.start u) 0) 0) T.count (λ u l. one u l (has S u) (eqb (T.groomer u) h))
    where
      none : (k : ℕ) → sum_over (λ m. 0) (below k) ≡ 0
      none k = sum_zero (λ m. 0) (all_below k (λ m l. refl))

      one : (u : ℕ) → u < T.count → (a b : Bool) → sum_over (λ m. cond ((a && b) && (leb (T.start u) m && ltb m (T.end u))) 1 0) (below n) ≡ cond a (cond b (T.end u - T.start u) 0) 0
      one u l true true = omega (arith, between (T.start u) (T.end u) n (r u l).0, (r u l).0, (r u l).1)
      one u l true false = none n
      one u l false b = none n

  -- the turn in hand in minute m
  pub hand_planned : (m u : ℕ) → u < T.count → u ≢ no_turn_number → (in_hand (doing_at day m) ≡ u) ↔ ((has S u ≡ true) × (T.groomer u ≡ h) × (T.start u ≤ m) × (m < T.end u))
  unfolding in_hand
  hand_planned m u l n = (λ e. to (doing_at day m) refl e, λ (c, g, a, b). ap in_hand ((timely u l c g).planned m a b))
    where
      to : (d : Doing) → doing_at day m ≡ d → in_hand d ≡ u → (has S u ≡ true) × (T.groomer u ≡ h) × (T.start u ≤ m) × (m < T.end u)
      to (works v) f e =
          let q : doing_at day m ≡ works u = f ∙ ap works e in
          let (k, c, g) = its m u q in let (a, b) = (timely u l c g).only m q in (c, g, a, b)
      to drives f e = absurd (n (sym e))
      to stands f e = absurd (n (sym e))
