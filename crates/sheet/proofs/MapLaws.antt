-- What the test of a map says. Assumes nothing.
use Prim.Native.Nat.{ℕ, zero, suc}
use mathlib.Core.Path.{◌≡◌, refl, sym}
use mathlib.Core.Bool.{Bool, true, false, not, ◌&&◌, cond, true≢false}
use mathlib.Core.List.{List}
use mathlib.Core.Logic.{◌⊎◌, inl, inr, ◌↔◌, ◌≢◌}
use native.Mathlib.Omega.{arith}
use lib.Dec.{ltb, eqb}
use borrow.Author.Tests.{ltb-true, ltb-false, lt-ltb, le-ltb, eqb-true, eqb-false, eq-eqb, ne_eqb, not-true, not-false}
use Rattle.lists.proofs.Bools.{and_1, and_2}
use Rattle.sheet.specs.declared.kind.Maps.{Maps}
use Rattle.sheet.specs.Record.{bad_map_for, cursor_after, first_cursor}
use Rattle.sheet.specs.Accepted.{GoodMap, WrongMap, cursor_of}

-- ---- a number is neither of two

module _ (m a b : ℕ) where
  one_test : (m ≡ a) ⊎ (m ≡ b) → (not (eqb m a) && not (eqb m b)) ≡ false
  one_test (inl e) = rw (eq-eqb m a e)
  one_test (inr e) = rw (eq-eqb m b e) (fails (not (eqb m a)))
    where
      fails : (t : Bool) → (t && false) ≡ false
      fails true = refl
      fails false = refl

  test_one : (not (eqb m a) && not (eqb m b)) ≡ false → (m ≡ a) ⊎ (m ≡ b)
  test_one h = go (eqb m a) refl h
    where
      go : (t : Bool) → eqb m a ≡ t → (not t && not (eqb m b)) ≡ false → (m ≡ a) ⊎ (m ≡ b)
      go true q e = inl (eqb-true m a q)
      go false q e = inr (eqb-true m b (not-false (eqb m b) e))

  neither_test : m ≢ a → m ≢ b → (not (eqb m a) && not (eqb m b)) ≡ true
  neither_test p q = rw (ne_eqb m a p, ne_eqb m b q)

  test_neither : (not (eqb m a) && not (eqb m b)) ≡ true → (m ≢ a) × (m ≢ b)
  test_neither h =
      (eqb-false m a (not-true (eqb m a) (and_1 (not (eqb m a)) (not (eqb m b)) h)), eqb-false m b (not-true (eqb m b) (and_2 (not (eqb m a)) (not (eqb m b)) h)))

-- ---- a map

module _ (maps : Maps) (m : ℕ) where
  map_good : (first : Bool) → GoodMap maps first m → bad_map_for maps first m ≡ false
  unfolding bad_map_for
  map_good true g = rw (le-ltb maps.full m g.below, one_test m maps.first maps.full (g.full refl))
  map_good false g = rw (le-ltb maps.full m g.below)

  good_map : (first : Bool) → bad_map_for maps first m ≡ false → GoodMap maps first m
  unfolding bad_map_for
  good_map first e = go (ltb maps.full m) refl first e
    where
      go : (b : Bool) → ltb maps.full m ≡ b → (f : Bool) → cond b true (cond f (not (eqb m maps.first) && not (eqb m maps.full)) false) ≡ false → GoodMap maps f m
      go true q f h = absurd (true≢false h)
      go false q true h = record { below = ltb-false maps.full m q; full = λ k. test_one m maps.first maps.full h }
      go false q false h = record { below = ltb-false maps.full m q; full = λ k. absurd (true≢false (sym k)) }

  pub good_map_iff : (first : Bool) → (bad_map_for maps first m ≡ false) ↔ GoodMap maps first m
  good_map_iff first = (good_map first, map_good first)

-- ---- the map of record i

-- the cursor before the first record says so, and no other does
first_zero : (s : List ℕ) (i : ℕ) → ((cursor_of s i).first ≡ true) ↔ (i ≡ 0)
unfolding cursor_of first_cursor cursor_after
first_zero s zero = (λ e. refl, λ e. refl)
first_zero s (suc i) = (λ e. absurd (true≢false (sym e)), λ e. absurd (omega arith))

module _ (maps : Maps) (s : List ℕ) (i m : ℕ) where
  bad_map_lem : bad_map_for maps (cursor_of s i).first m ≡ true → WrongMap maps i m
  unfolding bad_map_for
  bad_map_lem e = go (ltb maps.full m) refl (cursor_of s i).first refl e
    where
      go : (b : Bool) → ltb maps.full m ≡ b → (f : Bool) → (cursor_of s i).first ≡ f → cond b true (cond f (not (eqb m maps.first) && not (eqb m maps.full)) false) ≡ true → WrongMap maps i m
      go true q f c h = inl (ltb-true maps.full m q)
      go false q true c h = let n = test_neither m maps.first maps.full h in inr ((first_zero s i).0 c, n.0, n.1)
      go false q false c h = absurd (true≢false (sym h))

  map_bad : WrongMap maps i m → bad_map_for maps (cursor_of s i).first m ≡ true
  unfolding bad_map_for
  map_bad (inl h) = rw (lt-ltb maps.full m h)
  map_bad (inr h) = rw ((first_zero s i).1 h.0, neither_test m maps.first maps.full h.1 h.2) (always (ltb maps.full m))
    where
      always : (b : Bool) → cond b true true ≡ true
      always true = refl
      always false = refl

  pub bad_map_iff : (bad_map_for maps (cursor_of s i).first m ≡ true) ↔ WrongMap maps i m
  bad_map_iff = (bad_map_lem, map_bad)
