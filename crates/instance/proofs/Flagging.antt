-- A flag for each slope: none set, and one turn more. Assumes nothing.
use mathlib.Core.Path.{◌≡◌, refl, sym, ap, ◌∙◌}
use mathlib.Core.Logic.{◌⊎◌, inl, inr}
use mathlib.Core.Bool.{Bool, true, false, not, ◌&&◌}
use mathlib.Core.List.{List}
use Prim.Native.Nat.{ℕ, ◌+◌, ◌<◌}
use native.Mathlib.Omega.{arith}
use native.Mathlib.Numerals.{add-one}
use native.Mathlib.Decide.{ℕ_discrete}
use lib.Dec.{eqb}
use lib.ListN.{length, get_or, set, replicate, length-set, length-replicate, get_or-replicate}
use lib.Seq.{get_or-set_same, get_or-set_other}
use borrow.Author.Tests.{eq-eqb, ne_eqb, not-false}
use Rattle.lists.specs.Lists.{every}
use Rattle.lists.proofs.Bools.{every_of, every_at, every_not, every_fails, second_fails, not_two, and_1, and_2}
use Rattle.model.specs.Turns.{Turns}
use Rattle.instance.specs.declared.ways.Row.{Row}
use Rattle.instance.specs.declared.columns.Size.{Size}
use Rattle.instance.specs.Columns.{slope_places, row_in, Held}
use Rattle.instance.specs.Flags.{clear_at, Flagged}
use Rattle.instance.proofs.Rows.{slope_at}

-- ---- one flag

pub clear_is : (flags : List ℕ) (m : ℕ) → eqb (get_or flags m 0) 0 ≡ clear_at flags m
unfolding clear_at
clear_is flags m = refl

pub flag_new : (flags : List ℕ) (m : ℕ) → m < length flags → clear_at (set flags m 1) m ≡ false
unfolding clear_at
flag_new flags m h = rw (get_or-set_same flags m 1 0 h)

pub flag_other : (flags : List ℕ) (k m : ℕ) → (m ≡ k → ⊥) → clear_at (set flags k 1) m ≡ clear_at flags m
unfolding clear_at
flag_other flags k m d = rw (get_or-set_other flags k m 1 0 d)

-- each turn's slope has one
pub slope_inside : (p : Size) (cols : List ℕ) (t : ℕ) {r : Row} → Held p cols → t < p.count → r ≡ row_in cols t → r.slope < slope_places
slope_inside p cols t held h e = omega (arith, held.slopes t h, slope_at p cols t h e)

-- ---- none is set where no turn is meant

pub flags_none : (T : Turns) (meant : ℕ → Bool) (x : ℕ) {flags : List ℕ} → flags ≡ replicate slope_places 0 → ((t : ℕ) → t < x → meant t ≡ false) → Flagged T meant x flags
unfolding clear_at
flags_none T meant x e none =
    rw e (record {
      places = length-replicate {A = ℕ} slope_places 0;
      clear = λ m h. rw (get_or-replicate {A = ℕ} slope_places m 0 0 h) (sym (every_of (λ u. not (meant u && eqb m (T.slope u))) x (λ t l. rw (none t l))));
    })

-- ---- one turn more: j, which is meant from then on

module _ (T : Turns) (old new : ℕ → Bool) (x y j : ℕ) (flags : List ℕ) (w : Flagged T old x flags) (range : T.slope j < slope_places) (inside : j < y) (added : new j ≡ true)
    (stays : (t : ℕ) → t < x → old t ≡ true → (t < y) × (new t ≡ true)) (only : (t : ℕ) → t < y → new t ≡ true → (t ≡ j) ⊎ ((t < x) × (old t ≡ true))) where
  pub flags_put : Flagged T new y (set flags (T.slope j) 1)
  flags_put = record { places = length-set flags (T.slope j) 1 ∙ w.places; clear = λ m h. one m h (ℕ_discrete m (T.slope j)) }
    where
      one : (m : ℕ) → m < slope_places → Dec (m ≡ T.slope j) → clear_at (set flags (T.slope j) 1) m ≡ every (λ u. not (new u && eqb m (T.slope u))) y
      one m h (yes q) =
          rw q (flag_new flags (T.slope j) (omega (arith, w.places)))
          ∙ sym (every_fails (λ u. not (new u && eqb m (T.slope u))) y j inside (rw (added, eq-eqb m (T.slope j) q)))
      one m h (no q) = flag_other flags (T.slope j) m q ∙ w.clear m h ∙ same (every (λ u. not (old u && eqb m (T.slope u))) x) refl
        where
          newer : every (λ u. not (old u && eqb m (T.slope u))) x ≡ true → (t : ℕ) → (t ≡ j) ⊎ ((t < x) × (old t ≡ true)) → eqb m (T.slope t) ≡ false
          newer e t (inl d) = ne_eqb m (T.slope t) (λ r. q (r ∙ ap T.slope d))
          newer e t (inr (l, o)) = second_fails (old t) (eqb m (T.slope t)) (every_at (λ u. not (old u && eqb m (T.slope u))) x e t l) o

          same : (b : Bool) → every (λ u. not (old u && eqb m (T.slope u))) x ≡ b → b ≡ every (λ u. not (new u && eqb m (T.slope u))) y
          same true e = sym (every_of (λ u. not (new u && eqb m (T.slope u))) y (λ t l. not_two (new t) (eqb m (T.slope t)) (λ p. newer e t (only t l p))))
          same false e =
              let (t, l, f) = every_not (λ u. not (old u && eqb m (T.slope u))) x e in
              let both : (old t && eqb m (T.slope t)) ≡ true = not-false (old t && eqb m (T.slope t)) f in
              let (l', n') = stays t l (and_1 (old t) (eqb m (T.slope t)) both) in
              sym (every_fails (λ u. not (new u && eqb m (T.slope u))) y t l' (rw (n', and_2 (old t) (eqb m (T.slope t)) both)))

-- ---- the next turn, where it is meant and where it is not

module _ (T : Turns) (meant : ℕ → Bool) (x : ℕ) (flags : List ℕ) (w : Flagged T meant x flags) where
  pub flags_next : T.slope x < slope_places → meant x ≡ true → Flagged T meant (x + 1) (set flags (T.slope x) 1)
  flags_next range e = flags_put T meant meant x (x + 1) x flags w range (omega arith) e (λ t l p. (omega arith, p)) (λ t l p. only t p l (ℕ_discrete t x))
    where
      only : (t : ℕ) → meant t ≡ true → t < x + 1 → Dec (t ≡ x) → (t ≡ x) ⊎ ((t < x) × (meant t ≡ true))
      only t p l (yes q) = inl q
      only t p l (no q) = inr (omega arith, p)

  pub flags_skip : meant x ≡ false → Flagged T meant (x + 1) flags
  unfolding every
  flags_skip e = record { places = w.places; clear = λ m h. w.clear m h ∙ rw (add-one x, e) }
