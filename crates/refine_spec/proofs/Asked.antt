-- Which turns the choice from a relaxed set has, whatever that set is: each that fits beside the chosen turns asked before it, and no other. Assumes nothing.
use mathlib.Core.Path.{◌≡◌, refl, sym, ap, ◌∙◌, subst}
use mathlib.Core.Logic.{◌↔◌, ◌≢◌, ◌⊎◌, inl, inr}
use mathlib.Core.Bool.{Bool, true, false, not, cond, ◌&&◌, ◌||◌}
use mathlib.Core.List.{List, [], ◌∷◌, ◌++◌}
use Prim.Native.Nat.{ℕ, zero, suc, ◌<◌}
use native.Mathlib.Omega.{arith}
use native.Mathlib.Decide.{ℕ_discrete}
use lib.Dec.{eqb}
use lib.ListN.{length, set, replicate, length-replicate}
use lib.Seq.{get_or-set_same, get_or-set_other, set-get_or, ext_get_or}
use borrow.Author.Tests.{eqb-true, eq-eqb, not-true}
use Rattle.lists.specs.Lists.{tab, below, All, none, more, keep}
use Rattle.lists.specs.Sorting.{insert_by, sort_by}
use Rattle.lists.proofs.Bools.{not_both, fails, refuted, same_tests, and_1, and_2, and_of, and_false, or_1, or_2, or_false_1, or_false_2}
use Rattle.lists.proofs.Sums.{all_below, all_map, all_both, all_append, tab_length, tab_at, tab_same}
use Rattle.lists.proofs.Keeping.{keep_every, keep_holds}
use Rattle.lists.proofs.Sorted.{insert_all, sort_all}
use Rattle.model.specs.Turns.{Turns, Conflict, PositiveLengths}
use Rattle.model.specs.Choice.{has, fits, choose, choose_each}
use Rattle.model.proofs.Minutes.{conflict_is, no_conflict_is}
use Rattle.model.proofs.Choices.{put_keeps, none_chosen, choose_cases, choose_not, each_both, each_kept}
use Rattle.model.proofs.Filled.{fits_apart, apart_fits, stays_unfit}
use Rattle.best_spec.specs.Table.{is_among}
use Rattle.best_spec.proofs.Members.{among_all, among_both, among_cons}
use Rattle.refine_spec.specs.Selection.{poorer_first, by_worth, choice_from, AskedBefore, relaxed_first, worth_more, lower_number, ChosenBefore, ChosenFrom}
use Rattle.refine_spec.proofs.Selection.{each_length, each_full, Poorer, by_worth_lem, by_number, first_poorer, poorer_first_lem, worth_order, worth_range, worth_among, from_length}

-- ---- a list gone through from its end, for any test of what fits and any order in which its turns are asked

module _ (test : List Bool → ℕ → Bool) where
  choose_other : (S : List Bool) (j t : ℕ) → t ≢ j → has (choose test S j) t ≡ has S t
  choose_other S j t d = choose_cases test (λ U. has U t ≡ has S t) S j (λ e. get_or-set_other S j t true false d) (λ e. refl)

  -- a turn that is not on the list stays as it is
  each_outside : (js : List ℕ) (S : List Bool) (t : ℕ) → is_among js t ≡ false → has (choose_each test js S) t ≡ has S t
  unfolding choose_each is_among
  each_outside [] S t e = refl
  each_outside (j ∷ js) S t e =
      choose_other (choose_each test js S) j t (λ q. not_both (eq-eqb t j q) (or_false_1 (eqb t j) (is_among js t) e))
      ∙ each_outside js S t (or_false_2 (eqb t j) (is_among js t) e)

  module _ (n : ℕ) (before : ℕ → ℕ → Bool) (self : (t : ℕ) → before t t ≡ false) where
    -- the turns of a choice that are asked before t
    abbrev earlier : List Bool → ℕ → List Bool
    earlier S t = tab n (λ u. has S u && before u t)

    -- u is asked before j, and j not before u
    abbrev After : ℕ → ℕ → Type 0
    After j u = (before u j ≡ true) × (before j u ≡ false)

    -- each turn of a list is asked after all that stand after it
    data Falling : List ℕ → Type 0 where
      empty : Falling []
      first : {j : ℕ} {js : List ℕ} → j < n → All (After j) js → Falling js → Falling (j ∷ js)

    -- each of a list that fits, where none is chosen before
    abbrev made : List ℕ → List Bool
    made js = choose_each test js (replicate n false)

    made_length : (js : List ℕ) → length (made js) ≡ n
    made_length js = each_length test js (replicate n false) ∙ length-replicate n false

    made_among : (js : List ℕ) (t : ℕ) → has (made js) t ≡ true → is_among js t ≡ true
    made_among js t e = go (is_among js t) refl
      where
        go : (b : Bool) → is_among js t ≡ b → is_among js t ≡ true
        go true q = q
        go false q = absurd (none_chosen n t (sym (each_outside js (replicate n false) t q) ∙ e))

    -- one turn more in front of a list
    module _ (j : ℕ) (js : List ℕ) (l : j < n) (h : All (After j) js) where
      absent : has (made js) j ≡ false
      absent = fails (has (made js) j) (λ e. let b = among_all j h (made_among js j e) in not_both b.0 b.1)

      newest : has (choose test (made js) j) j ≡ test (made js) j
      newest =
          choose_cases test (λ U. has U j ≡ test (made js) j) (made js) j
          (λ e. get_or-set_same (made js) j true false (omega (arith, made_length js)) ∙ sym e)
          (λ e. absent ∙ sym e)

      -- those that are asked before it are the ones chosen so far
      so_far : earlier (choose test (made js) j) j ≡ made js
      so_far =
          ext_get_or false (earlier (choose test (made js) j) j) (made js) (tab_length n _ ∙ sym (made_length js))
          (λ u m. tab_at n _ false u (omega (arith, tab_length n (λ u. has (choose test (made js) j) u && before u j))) ∙ at u (ℕ_discrete u j))
        where
          told : (u : ℕ) (b : Bool) → has (made js) u ≡ b → (b && before u j) ≡ b
          told u true e = (among_all u h (made_among js u e)).0
          told u false e = refl

          at : (u : ℕ) → Dec (u ≡ j) → (has (choose test (made js) j) u && before u j) ≡ has (made js) u
          at u (yes q) =
              ap (λ (b : Bool). has (choose test (made js) j) u && b) (ap (λ (v : ℕ). before v j) q ∙ self j)
              ∙ and_false (has (choose test (made js) j) u)
              ∙ sym (ap (has (made js)) q ∙ absent)
          at u (no q) = ap (λ (b : Bool). b && before u j) (choose_other (made js) j u q) ∙ told u (has (made js) u) refl

      -- for those after it nothing changes
      as_before : (t : ℕ) → is_among js t ≡ true → earlier (choose test (made js) j) t ≡ earlier (made js) t
      as_before t m = tab_same n _ _ (λ u k. at u (ℕ_discrete u j))
        where
          at : (u : ℕ) → Dec (u ≡ j) → (has (choose test (made js) j) u && before u t) ≡ (has (made js) u && before u t)
          at u (yes q) =
              let f : before u t ≡ false = ap (λ (v : ℕ). before v t) q ∙ (among_all t h m).1 in
              rw f (and_false (has (choose test (made js) j) u) ∙ sym (and_false (has (made js) u)))
          at u (no q) = ap (λ (b : Bool). b && before u t) (choose_other (made js) j u q)

    -- a turn of the list is chosen just if it fits beside the chosen ones that are asked before it
    each_at : {js : List ℕ} → Falling js → (t : ℕ) → is_among js t ≡ true → has (made js) t ≡ test (earlier (made js) t) t
    unfolding choose_each is_among
    each_at empty t m = absurd (not_both m refl)
    each_at (first {j = j} {js = js} l h f) t m = go (among_cons t j js m) (ℕ_discrete t j) (each_at f t)
      where
        go : (t ≡ j) ⊎ (is_among js t ≡ true) → Dec (t ≡ j) → (is_among js t ≡ true → has (made js) t ≡ test (earlier (made js) t) t)
            → has (choose test (made js) j) t ≡ test (earlier (choose test (made js) j) t) t
        go c (yes q) ih = rw q (newest j js l h ∙ ap (λ (U : List Bool). test U j) (sym (so_far j js l h)))
        go (inl q) (no d) ih = absurd (d q)
        go (inr k) (no d) ih = choose_other (made js) j t d ∙ ih k ∙ ap (λ (U : List Bool). test U t) (sym (as_before j js l h t k))

    -- the words: each turn is chosen just if it fits beside the chosen ones that are asked before it
    abbrev ByTheTest : List Bool → Type 0
    ByTheTest S = (t : ℕ) → t < n → has S t ≡ test (earlier S t) t

    -- two choices that keep the words agree on the list, if it has with each turn all asked before it. The second need keep them only where both agree on the turns asked before
    each_alike : {js : List ℕ} → Falling js → ((t u : ℕ) → is_among js t ≡ true → u < n → before u t ≡ true → is_among js u ≡ true) →
        (P Q : List Bool) → ByTheTest P → ((t : ℕ) → t < n → earlier Q t ≡ earlier P t → has Q t ≡ test (earlier Q t) t) → (t : ℕ) → is_among js t ≡ true → has Q t ≡ has P t
    unfolding is_among
    each_alike empty whole P Q p q t m = absurd (not_both m refl)
    each_alike (first {j = j} {js = js} l h f) whole P Q p q t m = go (each_alike f smaller P Q p q) (among_cons t j js m)
      where
        -- of those asked before a turn of the list none is j
        smaller : (t u : ℕ) → is_among js t ≡ true → u < n → before u t ≡ true → is_among js u ≡ true
        smaller t u k c b = at (among_cons u j js (whole t u (or_2 (eqb t j) (is_among js t) k) c b))
          where
            at : (u ≡ j) ⊎ (is_among js u ≡ true) → is_among js u ≡ true
            at (inl e) = absurd (not_both b (ap (λ (v : ℕ). before v t) e ∙ (among_all t h k).1))
            at (inr r) = r

        earlier_same : ((u : ℕ) → is_among js u ≡ true → has Q u ≡ has P u) → earlier Q j ≡ earlier P j
        earlier_same ih = tab_same n _ _ (λ u c. at u c (before u j) refl)
          where
            member : (u : ℕ) → before u j ≡ true → (u ≡ j) ⊎ (is_among js u ≡ true) → is_among js u ≡ true
            member u b (inl e) = absurd (not_both b (ap (λ (v : ℕ). before v j) e ∙ self j))
            member u b (inr r) = r

            at : (u : ℕ) → u < n → (b : Bool) → before u j ≡ b → (has Q u && b) ≡ (has P u && b)
            at u c true b = ap (λ (x : Bool). x && true) (ih u (member u b (among_cons u j js (whole j u (or_1 (eqb j j) (is_among js j) (eq-eqb j j refl)) c b))))
            at u c false b = and_false (has Q u) ∙ sym (and_false (has P u))

        go : ((u : ℕ) → is_among js u ≡ true → has Q u ≡ has P u) → (t ≡ j) ⊎ (is_among js t ≡ true) → has Q t ≡ has P t
        go ih (inl e) = rw e (q j l (earlier_same ih) ∙ ap (λ (U : List Bool). test U j) (earlier_same ih) ∙ sym (p j l))
        go ih (inr k) = ih t k

  -- ---- turns that are settled may be left out of the list

  module _ (shut : (S : List Bool) (j t : ℕ) → test S t ≡ false → test (set S j true) t ≡ false) where
    abbrev Settled : List Bool → ℕ → Type 0
    Settled S t = (has S t ≡ true) ⊎ (test S t ≡ false)

    settled_each : (js : List ℕ) (S : List Bool) (t : ℕ) → Settled S t → Settled (choose_each test js S) t
    settled_each js S t = each_kept test (λ U. Settled U t) put js S
      where
        put : (U : List Bool) (j : ℕ) → test U j ≡ true → Settled U t → Settled (set U j true) t
        put U j e (inl h) = inl (put_keeps U j t h)
        put U j e (inr h) = inr (shut U j t h)

    -- a chosen turn chosen once more
    chosen_again : (S : List Bool) (j : ℕ) → has S j ≡ true → set S j true ≡ S
    chosen_again S j e = ap (set S j) (sym e) ∙ set-get_or S j false

    settled_same : (S : List Bool) (j : ℕ) → Settled S j → choose test S j ≡ S
    settled_same S j (inl e) = choose_cases test (λ U. U ≡ S) S j (λ f. chosen_again S j e) (λ f. refl)
    settled_same S j (inr e) = choose_not test S j e

    each_skips : (p : ℕ → Bool) (S : List Bool) {js : List ℕ} → All (λ t. p t ≡ true → Settled S t) js → choose_each test js S ≡ choose_each test (keep (λ t. not (p t)) js) S
    unfolding choose_each keep
    each_skips p S none = refl
    each_skips p S (more {t = j} {ts = js} h hs) = go (p j) refl (each_skips p S hs)
      where
        go : (b : Bool) → p j ≡ b → choose_each test js S ≡ choose_each test (keep (λ t. not (p t)) js) S
            → choose test (choose_each test js S) j ≡ choose_each test (cond (not b) (j ∷ keep (λ t. not (p t)) js) (keep (λ t. not (p t)) js)) S
        go true e ih = settled_same (choose_each test js S) j (settled_each js S j (h e)) ∙ ih
        go false e ih = ap (λ (U : List Bool). choose test U j) ih

-- what is on a list and passes is kept
among_keep : (p : ℕ → Bool) (ts : List ℕ) (t : ℕ) → p t ≡ true → is_among ts t ≡ true → is_among (keep p ts) t ≡ true
unfolding keep is_among
among_keep p [] t e m = m
among_keep p (u ∷ ts) t e m = go (p u) refl (among_cons t u ts m) (among_keep p ts t e)
  where
    go : (b : Bool) → p u ≡ b → (t ≡ u) ⊎ (is_among ts t ≡ true) → (is_among ts t ≡ true → is_among (keep p ts) t ≡ true) → is_among (cond b (u ∷ keep p ts) (keep p ts)) t ≡ true
    go true f (inl q) ih = or_1 (eqb t u) (is_among (keep p ts) t) (eq-eqb t u q)
    go true f (inr k) ih = or_2 (eqb t u) (is_among (keep p ts) t) (ih k)
    go false f (inl q) ih = absurd (not_both (ap p (sym q) ∙ e) f)
    go false f (inr k) ih = ih k

-- ---- by worth: each turn stands before every one after it, and none stands there twice

module _ (T : Turns) where
  data Ranked : List ℕ → Type 0 where
    empty : Ranked []
    first : {t : ℕ} {ts : List ℕ} → All (λ u. (poorer_first T t u ≡ true) × (t ≢ u)) ts → Ranked ts → Ranked (t ∷ ts)

  insert_ranked : (x : ℕ) {ys : List ℕ} → All (λ y. x ≢ y) ys → Ranked ys → Ranked (insert_by (poorer_first T) x ys)
  unfolding insert_by
  insert_ranked x none empty = first none empty
  insert_ranked x (more {t = y} {ts = ys} d ds) (first h o) = go (poorer_first T x y) refl (insert_ranked x ds o)
    where
      behind : {zs : List ℕ} → poorer_first T x y ≡ true → All (λ z. x ≢ z) zs → All (λ z. (poorer_first T y z ≡ true) × (y ≢ z)) zs → All (λ z. (poorer_first T x z ≡ true) × (x ≢ z)) zs
      behind l none none = none
      behind l (more {t = z} e es) (more b bs) = more ((worth_order T).through x y z l b.0, e) (behind l es bs)

      go : (b : Bool) → poorer_first T x y ≡ b → Ranked (insert_by (poorer_first T) x ys) → Ranked (cond b (x ∷ y ∷ ys) (y ∷ insert_by (poorer_first T) x ys))
      go true e i = first (more (e, d) (behind e ds h)) (first h o)
      go false e i = first (insert_all (poorer_first T) _ x ((worth_order T).either x y e, λ q. d (sym q)) h) i

  sort_ranked : (n : ℕ) → Ranked (sort_by (poorer_first T) (below n))
  unfolding sort_by
  sort_ranked zero = empty
  sort_ranked (suc n) = insert_ranked n (sort_all (poorer_first T) _ (all_below n (λ t l. λ e. omega arith))) (sort_ranked n)

  worth_ranked : Ranked (by_worth T)
  unfolding by_worth
  worth_ranked = sort_ranked T.count

  -- ---- the order in which turns are asked, as a test

  -- u is worth more than t, or as much and has the lower number
  abbrev richer : ℕ → ℕ → Bool
  richer u t = poorer_first T t u && not (eqb t u)

  richer_self : (t : ℕ) → richer t t ≡ false
  richer_self t = rw (eq-eqb t t refl) (and_false (poorer_first T t t))

  module _ (relaxed : List Bool) where
    abbrev asked : ℕ → ℕ → Bool
    asked u t = cond (has relaxed u) (cond (has relaxed t) (richer u t) true) (cond (has relaxed t) false (richer u t))

    asked_self : (t : ℕ) → asked t t ≡ false
    asked_self t = go (has relaxed t)
      where
        go : (b : Bool) → cond b (cond b (richer t t) true) (cond b false (richer t t)) ≡ false
        go true = richer_self t
        go false = richer_self t

    -- of two turns of which both or neither are in the relaxed set, only the worths and the numbers count
    asked_alike : (u t : ℕ) → has relaxed u ≡ has relaxed t → asked u t ≡ richer u t
    asked_alike u t e = rw e (go (has relaxed t))
      where
        go : (b : Bool) → cond b (cond b (richer u t) true) (cond b false (richer u t)) ≡ richer u t
        go true = refl
        go false = refl

    richer_words : (u t : ℕ) → has relaxed u ≡ has relaxed t → richer u t ≡ true → AskedBefore T relaxed u t
    richer_words u t s e = go (first_poorer T t u (and_1 (poorer_first T t u) (not (eqb t u)) e)) (λ q. not_both (eq-eqb t u q) (not-true (eqb t u) (and_2 (poorer_first T t u) (not (eqb t u)) e)))
      where
        go : Poorer T t u → (t ≡ u → ⊥) → AskedBefore T relaxed u t
        go (by_worth_lem h) d = worth_more s h
        go (by_number f h) d = lower_number s (sym f) (omega arith)

    asked_words : (u t : ℕ) → asked u t ≡ true → AskedBefore T relaxed u t
    asked_words u t = go (has relaxed u) (has relaxed t) refl refl
      where
        go : (a b : Bool) → has relaxed u ≡ a → has relaxed t ≡ b → cond a (cond b (richer u t) true) (cond b false (richer u t)) ≡ true → AskedBefore T relaxed u t
        go true true p q e = richer_words u t (p ∙ sym q) e
        go true false p q e = relaxed_first p q
        go false true p q e = absurd (not_both e refl)
        go false false p q e = richer_words u t (p ∙ sym q) e

    words_asked : (u t : ℕ) → AskedBefore T relaxed u t → asked u t ≡ true
    words_asked u t (relaxed_first p q) = rw (p, q) refl
    words_asked u t (worth_more s h) = asked_alike u t s ∙ and_of (poorer_first T t u) (not (eqb t u)) (poorer_first_lem T t u (by_worth_lem h)) (refuted (eqb t u) (λ e. omega (arith, h, ap T.worth (eqb-true t u e))))
    words_asked u t (lower_number s w l) = asked_alike u t s ∙ and_of (poorer_first T t u) (not (eqb t u)) (poorer_first_lem T t u (by_number (sym w) (omega arith))) (refuted (eqb t u) (λ e. omega (arith, l, eqb-true t u e)))

    -- ---- the turns of a choice that are asked before a turn

    pub not_before_itself : (t : ℕ) → AskedBefore T relaxed t t → ⊥
    not_before_itself t a = not_both (words_asked t t a) (asked_self t)

    abbrev asked_earlier : List Bool → ℕ → List Bool
    asked_earlier S t = tab T.count (λ u. has S u && asked u t)

    earlier_words : (S : List Bool) (t : ℕ) → ChosenBefore T relaxed S t (asked_earlier S t)
    earlier_words S t = record { places = tab_length T.count _; exactly = λ u k. (λ e. apart u (sym (at u k) ∙ e), λ (h, a). at u k ∙ and_of (has S u) (asked u t) h (words_asked u t a)) }
      where
        at : (u : ℕ) → u < T.count → has (asked_earlier S t) u ≡ (has S u && asked u t)
        at u k = tab_at T.count (λ u. has S u && asked u t) false u k

        apart : (u : ℕ) → (has S u && asked u t) ≡ true → (has S u ≡ true) × AskedBefore T relaxed u t
        apart u e = (and_1 (has S u) (asked u t) e, asked_words u t (and_2 (has S u) (asked u t) e))

    -- there is one such set, and no other
    pub chosen_before : (S : List Bool) (t : ℕ) → (E : List Bool) × ChosenBefore T relaxed S t E
    chosen_before S t = (asked_earlier S t, earlier_words S t)

    pub before_same : (S : List Bool) (t : ℕ) (D E : List Bool) → ChosenBefore T relaxed S t D → ChosenBefore T relaxed S t E → D ≡ E
    before_same S t D E d e =
        ext_get_or false D E (d.places ∙ sym e.places)
        (λ u m. let k : u < T.count = omega (arith, d.places) in same_tests (has D u) (has E u) (λ h. (e.exactly u k).1 ((d.exactly u k).0 h)) (λ h. (d.exactly u k).1 ((e.exactly u k).0 h)))

-- ---- the choice, for any test by which what does not fit never fits later

module _ (test : List Bool → ℕ → Bool) (shut : (S : List Bool) (j t : ℕ) → test S t ≡ false → test (set S j true) t ≡ false) (T : Turns) (relaxed : List Bool) where
  -- the turns in the order in which they are asked, from the last to the first
  abbrev others : List ℕ
  others = keep (λ t. not (has relaxed t)) (by_worth T)

  abbrev relaxed_ones : List ℕ
  relaxed_ones = keep (has relaxed) (by_worth T)

  -- asking those of the relaxed set a second time changes nothing
  from_list : choice_from test T relaxed ≡ choose_each test (others ++ relaxed_ones) (replicate T.count false)
  unfolding choice_from
  from_list =
      each_skips test shut (has relaxed) (choose_each test relaxed_ones (replicate T.count false))
      (all_map (λ t l e. each_full test shut relaxed_ones (replicate T.count false) t (omega (arith, length-replicate T.count false)) (among_keep (has relaxed) (by_worth T) t e (worth_among T t l))) (worth_range T))
      ∙ sym (each_both test others relaxed_ones (replicate T.count false))

  listed : (t : ℕ) → t < T.count → is_among (others ++ relaxed_ones) t ≡ true
  listed t l = among_both others relaxed_ones t ∙ go (has relaxed t) refl
    where
      go : (b : Bool) → has relaxed t ≡ b → (is_among others t || is_among relaxed_ones t) ≡ true
      go true e = or_2 (is_among others t) (is_among relaxed_ones t) (among_keep (has relaxed) (by_worth T) t e (worth_among T t l))
      go false e = or_1 (is_among others t) (is_among relaxed_ones t) (among_keep (λ t. not (has relaxed t)) (by_worth T) t (rw e refl) (worth_among T t l))

  abbrev Asked : List ℕ → Type 0
  Asked = Falling test T.count (asked T relaxed) (asked_self T relaxed)

  abbrev AskedAfter : ℕ → ℕ → Type 0
  AskedAfter = After test T.count (asked T relaxed) (asked_self T relaxed)

  after_alike : (x y : ℕ) → has relaxed x ≡ has relaxed y → poorer_first T x y ≡ true → x ≢ y → AskedAfter x y
  after_alike x y s e d = (
    asked_alike T relaxed y x (sym s) ∙ and_of (poorer_first T x y) (not (eqb x y)) e (refuted (eqb x y) (λ q. d (eqb-true x y q))),
    asked_alike T relaxed x y s ∙ fails (richer T x y) (λ b. d ((worth_order T).told x y e (and_1 (poorer_first T y x) (not (eqb y x)) b))),
  )

  after_relaxed : (x y : ℕ) → has relaxed x ≡ false → has relaxed y ≡ true → AskedAfter x y
  after_relaxed x y e f = (rw (e, f) refl, rw (e, f) refl)

  kept_asked : (p : ℕ → Bool) (r : Bool) → ((t : ℕ) → p t ≡ true → has relaxed t ≡ r) → {ts : List ℕ} → Ranked T ts → All (λ t. t < T.count) ts → Asked (keep p ts)
  unfolding keep
  kept_asked p r same empty none = empty
  kept_asked p r same (first {t = t} {ts = ts} h o) (more l ls) = go (p t) refl (kept_asked p r same o ls)
    where
      go : (b : Bool) → p t ≡ b → Asked (keep p ts) → Asked (cond b (t ∷ keep p ts) (keep p ts))
      go true e ih = first l (all_map (λ u (a, f). after_alike t u (same t e ∙ sym (same u f)) a.0 a.1) (all_both (keep_every p h) (keep_holds p ts))) ih
      go false e ih = ih

  both_asked : {xs ys : List ℕ} → Asked xs → Asked ys → All (λ x. has relaxed x ≡ false) xs → All (λ y. has relaxed y ≡ true) ys → Asked (xs ++ ys)
  both_asked empty g none b = g
  both_asked (first {j = j} l h f) g (more e es) b = first l (all_append h (all_map (λ y q. after_relaxed j y e q) b)) (both_asked f g es b)

  list_asked : Asked (others ++ relaxed_ones)
  list_asked =
      both_asked
      (kept_asked (λ t. not (has relaxed t)) false (λ t e. not-true (has relaxed t) e) (worth_ranked T) (worth_range T))
      (kept_asked (has relaxed) true (λ t e. e) (worth_ranked T) (worth_range T))
      (all_map (λ t e. not-true (has relaxed t) e) (keep_holds (λ t. not (has relaxed t)) (by_worth T)))
      (keep_holds (has relaxed) (by_worth T))

  made_at : (t : ℕ) → t < T.count → has (choice_from test T relaxed) t ≡ test (asked_earlier T relaxed (choice_from test T relaxed) t) t
  made_at t l = rw from_list (each_at test T.count (asked T relaxed) (asked_self T relaxed) list_asked t (listed t l))

  -- a turn is chosen just if it passes the test beside the chosen turns that are asked before it
  pub from_at : (t : ℕ) → t < T.count → (E : List Bool) → ChosenBefore T relaxed (choice_from test T relaxed) t E → has (choice_from test T relaxed) t ≡ test E t
  from_at t l E b =
      let C = choice_from test T relaxed in
      made_at t l ∙ ap (λ (U : List Bool). test U t) (before_same T relaxed C t (asked_earlier T relaxed C t) E (earlier_words T relaxed C t) b)

  -- and no other choice is such, even if this is known of it only where the same turns are chosen before
  pub from_alone : (S : List Bool) → length S ≡ T.count →
      ((t : ℕ) → t < T.count → (E : List Bool) → ChosenBefore T relaxed (choice_from test T relaxed) t E → ChosenBefore T relaxed S t E → has S t ≡ test E t) → S ≡ choice_from test T relaxed
  from_alone S size s =
      ext_get_or false S (choice_from test T relaxed) (size ∙ sym (from_length test T relaxed))
      (λ t l. each_alike test T.count (asked T relaxed) (asked_self T relaxed) list_asked (λ t u k c b. listed u c) (choice_from test T relaxed) S made_at known t (listed t (omega arith)))
    where
      known : (t : ℕ) → t < T.count → asked_earlier T relaxed S t ≡ asked_earlier T relaxed (choice_from test T relaxed) t → has S t ≡ test (asked_earlier T relaxed S t) t
      known t l q =
          let C = choice_from test T relaxed in
          s t l (asked_earlier T relaxed S t) (subst (ChosenBefore T relaxed C t) (sym q) (earlier_words T relaxed C t)) (earlier_words T relaxed S t)

-- ---- the shift

module _ (T : Turns) (lengths : PositiveLengths T) (relaxed : List Bool) where
  -- a turn fits beside the chosen turns that are asked before it just if it conflicts with none of them
  fits_words : (S : List Bool) (t : ℕ) → t < T.count → (E : List Bool) → ChosenBefore T relaxed S t E →
      (fits T E t ≡ true) ↔ ((u : ℕ) → u < T.count → has S u ≡ true → AskedBefore T relaxed u t → Conflict T u t → ⊥)
  fits_words S t l E b = (
    λ e u k h a c. not_both ((conflict_is T lengths u t k l).1 c) (fits_apart T E t e u k ((b.exactly u k).1 (h, a))),
    λ w. apart_fits T E t (λ u k e. let (h, a) = (b.exactly u k).0 e in (no_conflict_is T lengths u t k l).1 (w u k h a)),
  )

  -- the choice is what the words say
  pub from_is : ChosenFrom T relaxed (choice_from (fits T) T relaxed)
  from_is =
      let C = choice_from (fits T) T relaxed in
      record {
        places = from_length (fits T) T relaxed;
        exactly =
            λ t l.
            let (E, b) = chosen_before T relaxed C t in
            let q = from_at (fits T) (stays_unfit T) T relaxed t l E b in
            (λ e. (fits_words C t l E b).0 (sym q ∙ e), λ w. q ∙ (fits_words C t l E b).1 w);
      }

  -- and they leave no other
  pub from_only : (S : List Bool) → ChosenFrom T relaxed S → S ≡ choice_from (fits T) T relaxed
  from_only S c =
      from_alone (fits T) (stays_unfit T) T relaxed S c.places
      (λ t l E a b. same_tests (has S t) (fits T E t) (λ e. (fits_words S t l E b).1 ((c.exactly t l).0 e)) (λ e. (c.exactly t l).1 ((fits_words S t l E b).0 e)))
