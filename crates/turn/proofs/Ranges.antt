-- A turn's tests say what their names say, and a turn has no fault just if its values are in range. Assumes nothing.
use Prim.Native.Nat.{ℕ, ◌+◌, ◌<◌, ◌≤◌}
use mathlib.Core.Path.{◌≡◌, refl}
use mathlib.Core.Bool.{Bool, true, false, cond, true≢false}
use mathlib.Core.Logic.{◌⊎◌, inl, inr, ◌↔◌}
use native.Mathlib.Omega.{arith}
use lib.Dec.{ltb, eqb}
use borrow.Author.Tests.{eqb-true, eqb-false, ltb-true, ltb-false, eq-eqb, ne_eqb, lt-ltb, le-ltb}
use Rattle.refusal.specs.Number.{bad_time, bad_worth, bad_driver}
use Rattle.refusal.specs.Cause.{first_of, ◌when◌}
use Rattle.refusal.proofs.Order.{numbered, clear_cons}
use Rattle.turn.specs.declared.Turn.{Turn}
use Rattle.turn.specs.declared.Counts.{Counts}
use Rattle.turn.specs.Turn.{Refusals}
use Rattle.turn.specs.Turn.{outside_range, past_shift, turn_causes, shift_minutes, most_worth, most_driver, Numbered, InRange}

-- ---- each test: a number is 0, or another is above its bound

either_true : (z x top : ℕ) → cond (eqb z 0) true (ltb top x) ≡ true → (z ≡ 0) ⊎ (top < x)
either_true z x top e = go (eqb z 0) refl e
  where
    go : (b : Bool) → eqb z 0 ≡ b → cond b true (ltb top x) ≡ true → (z ≡ 0) ⊎ (top < x)
    go true q h = inl (eqb-true z 0 q)
    go false q h = inr (ltb-true top x h)

true_either : (z x top : ℕ) → (z ≡ 0) ⊎ (top < x) → cond (eqb z 0) true (ltb top x) ≡ true
true_either z x top (inl h) = rw (eq-eqb z 0 h)
true_either z x top (inr h) = rw (lt-ltb top x h) (always (eqb z 0))
  where
    always : (b : Bool) → cond b true true ≡ true
    always true = refl
    always false = refl

either_false : (z x top : ℕ) → cond (eqb z 0) true (ltb top x) ≡ false → (1 ≤ z) × (x ≤ top)
either_false z x top e = go (eqb z 0) refl e
  where
    go : (b : Bool) → eqb z 0 ≡ b → cond b true (ltb top x) ≡ false → (1 ≤ z) × (x ≤ top)
    go true q h = absurd (true≢false h)
    go false q h = (below (eqb-false z 0 q), ltb-false top x h)
      where
        below : (z ≡ 0 → ⊥) → 1 ≤ z
        below n = omega arith

false_either : (z x top : ℕ) → 1 ≤ z → x ≤ top → cond (eqb z 0) true (ltb top x) ≡ false
false_either z x top h l = rw (ne_eqb z 0 (omega arith), le-ltb top x l)

pub outside_iff : (x top : ℕ) → (outside_range x top ≡ true) ↔ ((x ≡ 0) ⊎ (top < x))
unfolding outside_range
outside_iff x top = (either_true x x top, true_either x x top)

pub inside_iff : (x top : ℕ) → (outside_range x top ≡ false) ↔ ((1 ≤ x) × (x ≤ top))
unfolding outside_range
inside_iff x top = (either_false x x top, λ h. false_either x x top h.0 h.1)

pub past_iff : (start len : ℕ) → (past_shift start len ≡ true) ↔ ((len ≡ 0) ⊎ (shift_minutes < start + len))
unfolding past_shift
past_iff start len = (either_true len (start + len) shift_minutes, true_either len (start + len) shift_minutes)

pub within_iff : (start len : ℕ) → (past_shift start len ≡ false) ↔ ((1 ≤ len) × (start + len ≤ shift_minutes))
unfolding past_shift
within_iff start len = (either_false len (start + len) shift_minutes, λ h. false_either len (start + len) shift_minutes h.0 h.1)

-- ---- a turn

module _ (refusals : Refusals) (limits : Counts) (t : Turn) where
  pub in_range_fine : InRange limits t → first_of (turn_causes refusals limits t) ≡ 0
  unfolding first_of turn_causes
  in_range_fine r =
      rw (
        (inside_iff t.slope limits.slopes).1 (r.slope_from, r.slope_to),
        (inside_iff t.groomer limits.groomers).1 (r.groomer_from, r.groomer_to),
        (within_iff t.start t.length).1 (r.length_from, r.end_to),
        (inside_iff t.worth most_worth).1 (r.worth_from, r.worth_to),
        le-ltb most_driver t.driver r.driver_to,
      )

  -- the other way if no refusal is 0
  module _ (n : Numbered refusals) where
    pub turn_numbered : numbered (turn_causes refusals limits t) ≡ true
    unfolding turn_causes
    turn_numbered = rw (lt-ltb 0 refusals.slope n.slope, lt-ltb 0 refusals.groomer n.groomer)

    pub fine_in_range : first_of (turn_causes refusals limits t) ≡ 0 → InRange limits t
    unfolding turn_causes
    fine_in_range e =
        let a = clear_cons (refusals.slope when outside_range t.slope limits.slopes) _ (omega (arith, n.slope)) e in
        let b = clear_cons (refusals.groomer when outside_range t.groomer limits.groomers) _ (omega (arith, n.groomer)) a.1 in
        let c = clear_cons (bad_time when past_shift t.start t.length) _ (omega arith) b.1 in
        let d = clear_cons (bad_worth when outside_range t.worth most_worth) _ (omega arith) c.1 in
        let f = clear_cons (bad_driver when ltb most_driver t.driver) _ (omega arith) d.1 in
        let slope = (inside_iff t.slope limits.slopes).0 a.0 in
        let groomer = (inside_iff t.groomer limits.groomers).0 b.0 in
        let time = (within_iff t.start t.length).0 c.0 in
        let worth = (inside_iff t.worth most_worth).0 d.0 in
        record {
          slope_from = slope.0;
          slope_to = slope.1;
          groomer_from = groomer.0;
          groomer_to = groomer.1;
          length_from = time.0;
          end_to = time.1;
          worth_from = worth.0;
          worth_to = worth.1;
          driver_to = ltb-false most_driver t.driver f.0;
        }

    pub fine_iff : (first_of (turn_causes refusals limits t) ≡ 0) ↔ InRange limits t
    fine_iff = (fine_in_range, in_range_fine)
