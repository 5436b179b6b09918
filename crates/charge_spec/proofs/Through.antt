-- Going back and filling choose what the words say, and these leave no other choice. Assumes nothing.
use mathlib.Core.Path.{◌≡◌, refl, sym, ap, ◌∙◌, subst}
use mathlib.Core.Bool.{Bool, true, false}
use mathlib.Core.List.{List, [], ◌∷◌, map}
use Prim.Native.Nat.{ℕ, zero, suc, ◌≤◌, ◌<◌}
use native.Mathlib.Omega.{arith}
use native.Mathlib.Decide.{dec_lt}
use lib.ListN.{length, set, replicate, length-set, length-replicate}
use lib.Seq.{set-get_or}
use Rattle.lists.specs.Lists.{below}
use Rattle.lists.proofs.Bools.{and_of, not_both}
use Rattle.model.specs.Steps.{Step}
use Rattle.model.specs.Choice.{has, choose, choose_each, back, fill}
use Rattle.model.proofs.Choices.{choose_set, choose_not, each_kept}
use Rattle.charge_spec.specs.Hall.{Hall, window_count, stays_allowed, AllowedChoice}
use Rattle.charge_spec.specs.Plan.{fits_among, choose_among, GoneThrough, start, taken, passed, ChosenAmong}
use Rattle.charge_spec.proofs.Allowing.{Admissible, admissible_allowed, allowed_admissible, put_admissible, stays_is, fits_kind, fits_stays, chosen_allowed}

-- a place past the last is not set
set_past : (S : List Bool) (t : ℕ) → length S ≤ t → set S t true ≡ S
set_past [] t l = refl
set_past (x ∷ S) zero l = absurd (omega arith)
set_past (x ∷ S) (suc t) l = ap (λ (U : List Bool). x ∷ U) (set_past S t (omega arith))

module _ (H : Hall) (kind : ℕ → Bool) where
  stays_fits : (S : List Bool) (t : ℕ) → kind t ≡ true → stays_allowed H S t ≡ true → fits_among H kind S t ≡ true
  unfolding fits_among
  stays_fits S t k e = and_of (kind t) (stays_allowed H S t) k e

  -- ---- one window more

  module _ {S : List Bool} {ts : List ℕ} {R : List Bool} (g : GoneThrough H kind S ts R) (t : ℕ) where
    -- it changes nothing: it is chosen already, or there is no such window
    same : AllowedChoice H R → set R t true ≡ R → GoneThrough H kind S (t ∷ ts) R
    same a e = go (kind t) refl
      where
        go : (b : Bool) → kind t ≡ b → GoneThrough H kind S (t ∷ ts) R
        go true k = subst (λ (U : List Bool). GoneThrough H kind S (t ∷ ts) U) e (taken g k (subst (AllowedChoice H) (sym e) a))
        go false k = passed g (λ j b. not_both j k)

    one_more : AllowedChoice H R → length R ≡ window_count H → GoneThrough H kind S (t ∷ ts) (choose (fits_among H kind) R t)
    one_more a n = go (dec_lt t (window_count H)) (has R t) refl (fits_among H kind R t) refl
      where
        chosen_same : set R t true ≡ R → choose (fits_among H kind) R t ≡ R
        chosen_same e = by (fits_among H kind R t) refl
          where
            by : (b : Bool) → fits_among H kind R t ≡ b → choose (fits_among H kind) R t ≡ R
            by true f = choose_set (fits_among H kind) R t f ∙ e
            by false f = choose_not (fits_among H kind) R t f

        stays : set R t true ≡ R → GoneThrough H kind S (t ∷ ts) (choose (fits_among H kind) R t)
        stays e = rw (chosen_same e) (same a e)

        go : Dec (t < window_count H) → (h : Bool) → has R t ≡ h → (b : Bool) → fits_among H kind R t ≡ b → GoneThrough H kind S (t ∷ ts) (choose (fits_among H kind) R t)
        go (no l) h e b f = stays (set_past R t (omega arith))
        go (yes l) true e b f = stays (ap (λ (x : Bool). set R t x) (sym e) ∙ set-get_or R t false)
        go (yes l) false e true f =
            rw (choose_set (fits_among H kind) R t f) (taken g (fits_kind H kind R t f) ((stays_is H R t n l e a).0 (fits_stays H kind R t f)))
        go (yes l) false e false f = rw (choose_not (fits_among H kind) R t f) (passed g (λ k b. not_both (stays_fits R t k ((stays_is H R t n l e a).1 b)) f))

  -- ---- a whole list

  each_allowed : (ts : List ℕ) (S : List Bool) → AllowedChoice H S → AllowedChoice H (choose_each (fits_among H kind) ts S)
  each_allowed ts S a =
      admissible_allowed H (choose_each (fits_among H kind) ts S)
      (each_kept (fits_among H kind) (Admissible H) (λ U j e k. put_admissible H U j (fits_stays H kind U j e) k) ts S (allowed_admissible H S a))

  each_length : (ts : List ℕ) (S : List Bool) → length (choose_each (fits_among H kind) ts S) ≡ length S
  each_length ts S = each_kept (fits_among H kind) (λ U. length U ≡ length S) (λ U j e k. length-set U j true ∙ k) ts S refl

  through : (ts : List ℕ) (S : List Bool) → AllowedChoice H S → length S ≡ window_count H → GoneThrough H kind S ts (choose_each (fits_among H kind) ts S)
  unfolding choose_each
  through [] S a n = start
  through (t ∷ ts) S a n = one_more (through ts S a n) t (each_allowed ts S a) (each_length ts S ∙ n)

  -- there is no other
  through_one : {S : List Bool} {ts : List ℕ} {P Q : List Bool} → GoneThrough H kind S ts P → GoneThrough H kind S ts Q → P ≡ Q
  through_one start start = refl
  through_one (taken {t = t} p k a) (taken q j b) = ap (λ (U : List Bool). set U t true) (through_one p q)
  through_one (taken {t = t} p k a) (passed q no_more) = absurd (no_more k (subst (λ (U : List Bool). AllowedChoice H (set U t true)) (through_one p q) a))
  through_one (passed {t = t} p no_more) (taken q j b) = absurd (no_more j (subst (λ (U : List Bool). AllowedChoice H (set U t true)) (sym (through_one p q)) b))
  through_one (passed p m) (passed q n) = through_one p q

  -- ---- going back over steps, then filling

  none_allowed : AllowedChoice H (replicate (window_count H) false)
  unfolding fill back choose_each
  none_allowed = chosen_allowed H kind 0 []

  -- the plan is what the words say
  pub among_is : (xs : List Step) → ChosenAmong H kind xs (choose_among H kind xs)
  unfolding choose_among back fill
  among_is xs =
      let none = replicate (window_count H) false in
      let ts = map (λ (x : Step). x.turn) xs in
      let n = length-replicate (window_count H) false in
      record {
        gone_back = choose_each (fits_among H kind) ts none;
        from_steps = through ts none none_allowed n;
        filled = through (below (window_count H)) (choose_each (fits_among H kind) ts none) (each_allowed ts none none_allowed) (each_length ts none ∙ n);
      }

  -- and they leave no other
  pub among_only : (xs : List Step) (S : List Bool) → ChosenAmong H kind xs S → S ≡ choose_among H kind xs
  among_only xs S c =
      let w = among_is xs in
      let e : c.gone_back ≡ w.gone_back = through_one c.from_steps w.from_steps in
      through_one (subst (λ (U : List Bool). GoneThrough H kind U (below (window_count H)) S) e c.filled) w.filled
