-- Who pays, counted and summed up, by cases in the form in which the code's loops leave them. Assumes nothing.
use Prim.Native.Nat.{ℕ, zero, suc, ◌+◌, ◌*◌, ◌≤◌, ◌<◌}
use mathlib.Core.Path.{◌≡◌, refl, sym, ap, ◌∙◌}
use mathlib.Core.Bool.{Bool, true, false, cond, ◌&&◌}
use mathlib.Core.List.{List, [], ◌∷◌}
use native.Mathlib.Omega.{arith}
use native.Mathlib.Numerals.{add-one}
use native.Mathlib.Decide.{dec_lt, ℕ_discrete}
use lib.Dec.{ltb, leb, eqb}
use lib.ListN.{length, get_or, set, drop, replicate, length-set, length-replicate, get_or-replicate}
use lib.Seq.{drop-cons, drop-length, get_or-set_same, get_or-set_other}
use borrow.Author.Tests.{lt-ltb, le-ltb, le-leb, lt-leb, eq-eqb, ne_eqb}
use Rattle.lists.specs.Lists.{sum_over, All, none, more}
use Rattle.lists.proofs.Sums.{sum_add, sum_zero, all_of, all_map, all_at}
use Rattle.lists.specs.Counting.{sum_before}
use Rattle.sheet.specs.Kind.{most_turns}
use Rattle.shift_look.specs.OrdersAndCounts.{paid_from, paid_to}
use Rattle.shift_moves.specs.Moves.{payer_places, number_behind, times_taken, payers_before, payers_present, Taken, SmallNumbers, Times, PaidRuns, Summable, Present, Payers}

-- ---- a count is no more than what is counted

one_most : (b : Bool) → cond b 1 0 ≤ 1
one_most true = omega arith
one_most false = omega arith

sum_most : (q : ℕ → Bool) (ts : List ℕ) → sum_over (λ t. cond (q t) 1 0) ts ≤ length ts
sum_most q [] = omega arith
sum_most q (t ∷ ts) = omega (arith, one_most (q t), sum_most q ts)

pub times_most : (taken : List ℕ) (f : ℕ → ℕ) (k : ℕ) → times_taken taken f k ≤ length taken
unfolding times_taken
times_most taken f k = sum_most (λ t. eqb (f t) k) taken

pub payers_most : (taken orders : List ℕ) (m : ℕ) → payers_before taken orders m ≤ length taken
unfolding payers_before
payers_most taken orders m = sum_most (λ t. ltb (paid_from orders t) m && leb m (paid_to orders t)) taken

-- ---- counting the turns of a list by their numbers

-- how many of the turns from place i on have number k
abbrev times_from : List ℕ → (ℕ → ℕ) → ℕ → ℕ → ℕ
times_from taken f i k = times_taken (drop i taken) f k

-- the turns of the list before place i are counted
pub record CountedTo (taken : List ℕ) (f : ℕ → ℕ) (times : List ℕ) (i : ℕ) : Type 0 where
  pub within : i ≤ length taken
  pub places : length times ≡ payer_places
  pub values : (k : ℕ) → k ≤ most_turns → get_or times k 0 + times_from taken f i k ≡ times_taken taken f k

times_step : (taken : List ℕ) (f : ℕ → ℕ) (i k : ℕ) → i < length taken → times_from taken f i k ≡ cond (eqb (f (get_or taken i 0)) k) 1 0 + times_from taken f (i + 1) k
unfolding times_taken
times_step taken f i k h = rw (add-one, drop-cons taken i 0 h)

times_over : (taken : List ℕ) (f : ℕ → ℕ) (k : ℕ) → times_from taken f (length taken) k ≡ 0
unfolding times_taken
times_over taken f k = rw (drop-length taken)

module _ (taken numbers : List ℕ) (at : ℕ) where
  abbrev f : ℕ → ℕ
  f = number_behind numbers at

  pub times_start : {times : List ℕ} → times ≡ replicate payer_places 0 → CountedTo taken (number_behind numbers at) times 0
  times_start q =
      record { within = omega arith; places = rw q (length-replicate {A = ℕ} payer_places 0); values = λ k m. rw (q, get_or-replicate {A = ℕ} payer_places k 0 0 (omega arith)) (omega arith) }

  module _ (w : SmallNumbers taken numbers at) {i : ℕ} (h : i < length taken) {x : ℕ} (p : x ≡ get_or taken i 0) where
    module _ {k : ℕ} (g : k ≡ get_or numbers (at + x) 0) where
      is_number : k ≡ f (get_or taken i 0)
      is_number = g ∙ ap (λ (y : ℕ). get_or numbers (at + y) 0) p

      pub times_inside : k ≤ most_turns
      times_inside = omega (arith, is_number, w.small i h)

      module _ (times : List ℕ) (s : CountedTo taken (number_behind numbers at) times i) where
        here : times_from taken f i k ≡ 1 + times_from taken f (i + 1) k
        here = times_step taken f i k h ∙ rw (eq-eqb (f (get_or taken i 0)) k (sym is_number))

        pub times_room : get_or times k 0 < most_turns
        times_room = omega (arith, s.values k times_inside, here, times_most taken f k, w.few)

        pub times_more : {times' : List ℕ} → times' ≡ set times k (get_or times k 0 + 1) → CountedTo taken (number_behind numbers at) times' (i + 1)
        times_more q =
            rw q (record { within = omega arith; places = length-set times k (get_or times k 0 + 1) ∙ s.places; values = λ m l. one m l (ℕ_discrete m k) })
          where
            one : (m : ℕ) → m ≤ most_turns → Dec (m ≡ k) → get_or (set times k (get_or times k 0 + 1)) m 0 + times_from taken f (i + 1) m ≡ times_taken taken f m
            one m l (yes z) = rw (z, get_or-set_same times k (get_or times k 0 + 1) 0 (omega (arith, s.places, times_inside))) (omega (arith, s.values k times_inside, here))
            one m l (no z) =
                let same : times_from taken f i m ≡ times_from taken f (i + 1) m = times_step taken f i m h ∙ rw (ne_eqb (f (get_or taken i 0)) m (λ y. z (sym y ∙ sym is_number))) (omega arith) in
                rw (get_or-set_other times k m (get_or times k 0 + 1) 0 z) (omega (arith, s.values m l, same))

  pub times_done : (times : List ℕ) {i : ℕ} → length taken ≤ i → CountedTo taken (number_behind numbers at) times i → Times taken (number_behind numbers at) times
  times_done times {i} h s =
      let e : i ≡ length taken = omega (arith, s.within) in
      let t : CountedTo taken f times (length taken) = rw e at s in
      record { places = s.places; values = λ k m. omega (arith, t.values k m, times_over taken f k) }

pub ruleset times_cases = (times_start, times_inside, times_room, times_more, times_done)

-- ---- along the drivers' order

-- a run from a to b: who is at place m, or leaves there, was at the place before or joins
run_step : (a b m : ℕ) → a ≤ b → cond (ltb a (suc m) && leb (suc m) b) 1 0 + cond (eqb b m) 1 0 ≡ cond (ltb a m && leb m b) 1 0 + cond (eqb a m) 1 0
run_step a b m l = go (dec_lt a m) (ℕ_discrete a m) (dec_lt b m) (ℕ_discrete b m)
  where
    go : Dec (a < m) → Dec (a ≡ m) → Dec (b < m) → Dec (b ≡ m) → cond (ltb a (suc m) && leb (suc m) b) 1 0 + cond (eqb b m) 1 0 ≡ cond (ltb a m && leb m b) 1 0 + cond (eqb a m) 1 0
    go (yes x) e (yes y) d = rw (lt-ltb a (suc m) (omega arith), lt-leb (suc m) b (omega arith), ne_eqb b m (omega arith), lt-ltb a m x, lt-leb m b y, ne_eqb a m (omega arith))
    go (yes x) e (no y) (yes d) = rw (lt-ltb a (suc m) (omega arith), lt-leb (suc m) b (omega arith), eq-eqb b m d, lt-ltb a m x, le-leb m b (omega arith), ne_eqb a m (omega arith))
    go (yes x) e (no y) (no d) = rw (lt-ltb a (suc m) (omega arith), le-leb (suc m) b (omega arith), ne_eqb b m d, lt-ltb a m x, le-leb m b (omega arith), ne_eqb a m (omega arith))
    go (no x) e (yes y) d = absurd (omega arith)
    go (no x) (yes e) (no y) (yes d) = rw (lt-ltb a (suc m) (omega arith), lt-leb (suc m) b (omega arith), eq-eqb b m d, le-ltb a m (omega arith), eq-eqb a m e)
    go (no x) (yes e) (no y) (no d) = rw (lt-ltb a (suc m) (omega arith), le-leb (suc m) b (omega arith), ne_eqb b m d, le-ltb a m (omega arith), eq-eqb a m e)
    go (no x) (no e) (no y) d = rw (le-ltb a (suc m) (omega arith), ne_eqb b m (omega arith), le-ltb a m (omega arith), ne_eqb a m e)

-- a sum over turns that are equal one by one
pub sum_equal : (g h : ℕ → ℕ) {ts : List ℕ} → All (λ t. g t ≡ h t) ts → sum_over g ts ≡ sum_over h ts
sum_equal g h none = refl
sum_equal g h (more e es) = omega (arith, e, sum_equal g h es)

module _ (n : ℕ) (taken orders : List ℕ) (w : Taken n taken) (r : PaidRuns n orders) where
  payers_none : payers_before taken orders 0 ≡ 0
  unfolding payers_before
  payers_none = sum_zero (λ t. cond (ltb (paid_from orders t) 0 && leb 0 (paid_to orders t)) 1 0) (all_of (λ t. rw (le-ltb (paid_from orders t) 0 (omega arith))) taken)

  payers_step : (m : ℕ) → payers_before taken orders (suc m) + times_taken taken (paid_to orders) m ≡ payers_before taken orders m + times_taken taken (paid_from orders) m
  unfolding payers_before times_taken
  payers_step m =
      let after : ℕ → ℕ = λ t. cond (ltb (paid_from orders t) (suc m) && leb (suc m) (paid_to orders t)) 1 0 in
      let left : ℕ → ℕ = λ t. cond (eqb (paid_to orders t) m) 1 0 in
      let before : ℕ → ℕ = λ t. cond (ltb (paid_from orders t) m && leb m (paid_to orders t)) 1 0 in
      let joins : ℕ → ℕ = λ t. cond (eqb (paid_from orders t) m) 1 0 in
      sym (sum_add after left taken)
      ∙ sum_equal (λ t. after t + left t) (λ t. before t + joins t) (all_map (λ t l. run_step (paid_from orders t) (paid_to orders t) m (r.rising t l)) w.inside)
      ∙ sum_add before joins taken

  module _ (joining leaving : List ℕ) (js : Times taken (paid_from orders) joining) (ls : Times taken (paid_to orders) leaving) where
    sums_are : (m : ℕ) → m ≤ n → sum_before joining m ≡ payers_before taken orders m + sum_before leaving m
    sums_are zero l = omega (arith, payers_none)
    sums_are (suc m) l = omega (arith, sums_are m (omega arith), payers_step m, js.values m (omega (arith, r.few)), ls.values m (omega (arith, r.few)))

    pub payers_summable : Summable n joining leaving
    payers_summable =
        record {
          few = r.few;
          places = js.places;
          left = λ m l. omega (arith, sums_are m l);
          small = λ m l. omega (arith, sums_are m l, payers_most taken orders m, w.few, r.few);
          joined = λ m l. omega (arith, js.values m (omega (arith, r.few)), times_most taken (paid_from orders) m, w.few, r.few);
        }

    pub payers_present_lem : (payers : List ℕ) → Present orders joining leaving payers n → Payers n taken orders payers
    payers_present_lem payers p = record { values = λ j l. omega (arith, p.values j l, sums_are (j + 1) (omega arith)) }

  pub runs_from : SmallNumbers taken orders (3 * most_turns)
  runs_from =
      record {
        few = omega (arith, w.few, r.few);
        early = omega arith;
        turns = λ i h. omega (arith, all_at w.inside i h, r.few);
        within = λ i h. omega (arith, r.places, r.few, all_at w.inside i h);
        small = λ i h. let l : get_or taken i 0 < n = all_at w.inside i h in omega (arith, r.rising (get_or taken i 0) l, r.within (get_or taken i 0) l, r.few);
      }

  pub runs_to : SmallNumbers taken orders (4 * most_turns)
  runs_to =
      record {
        few = omega (arith, w.few, r.few);
        early = omega arith;
        turns = λ i h. omega (arith, all_at w.inside i h, r.few);
        within = λ i h. omega (arith, r.places, r.few, all_at w.inside i h);
        small = λ i h. let l : get_or taken i 0 < n = all_at w.inside i h in omega (arith, r.within (get_or taken i 0) l, r.few);
      }

pub ruleset payer_cases = (runs_from, runs_to, payers_summable, payers_present_lem)

-- ---- summing up

-- the turns at the first i places have their payers, and those of the last of these places are at hand
pub record Along (n : ℕ) (orders joining leaving payers : List ℕ) (here i : ℕ) : Type 0 where
  pub within : i ≤ n
  pub present : Present orders joining leaving payers i
  pub now_here : here ≡ payers_present joining leaving i

module _ (n : ℕ) (orders joining leaving : List ℕ) (w : Summable n joining leaving) where
  module _ (payers : List ℕ) {here i : ℕ} (s : Along n orders joining leaving payers here i) where
    module _ (h : i < n) where
      next_sums : (sum_before joining (i + 1) ≡ get_or joining i 0 + sum_before joining i) × (sum_before leaving (i + 1) ≡ get_or leaving i 0 + sum_before leaving i)
      next_sums = (rw (add-one i), rw (add-one i))

      pub along_left : get_or leaving i 0 ≤ here + get_or joining i 0
      along_left = let (a, b) = next_sums in omega (arith, s.now_here, w.left i (omega arith), w.left (i + 1) (omega arith))
