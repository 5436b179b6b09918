-- Whether a shift has one turn a slope and no drivers, by cases in the form in which the code leaves them. Assumes nothing.
use Prim.Native.Nat.{ℕ, ◌+◌, ◌≤◌, ◌<◌}
use mathlib.Core.Path.{◌≡◌, refl, ap, ◌∙◌}
use mathlib.Core.Bool.{Bool, true, false, not, ◌&&◌}
use mathlib.Core.List.{List}
use lib.ListN.{set, replicate}
use native.Mathlib.Omega.{arith}
use native.Mathlib.Numerals.{add-one}
use lib.Dec.{eqb}
use Rattle.lists.specs.Lists.{every}
use Rattle.model.specs.Turns.{Turns, by_slope}
use Rattle.instance.specs.declared.ways.Row.{Row}
use Rattle.instance.specs.declared.columns.Size.{Size}
use Rattle.instance.specs.Ways.{turn_row}
use Rattle.instance.specs.Columns.{slope_places, row_in, turns_by, Held}
use Rattle.instance.specs.Flags.{clear_at, Flagged}
use Rattle.instance.proofs.Rows.{row_is, slope_at, count_is}
use Rattle.instance.proofs.Flagging.{slope_inside, flags_none, flags_next}
use Rattle.best_spec.specs.Single.{alone_below, single_turn, single_turns}

-- ---- the flags

pub flags_start : (T : Turns) (flags : List ℕ) → flags ≡ replicate slope_places 0 → Flagged T (λ u. true) 0 flags
flags_start T flags e = flags_none T (λ u. true) 0 e (λ t l. absurd (omega arith))

turned : (a b : Bool) → (a && b) ≡ (b && a)
turned true true = refl
turned true false = refl
turned false true = refl
turned false false = refl

module _ (p : Size) (cols flags : List ℕ) (x : ℕ) {r : Row} (h : x < p.count) (e : r ≡ row_in cols x) (held : Held p cols) (w : Flagged (turns_by p cols) (λ u. true) x flags) where
  pub flags_more : {flags' : List ℕ} → flags' ≡ set flags r.slope 1 → Flagged (turns_by p cols) (λ u. true) (x + 1) flags'
  flags_more f =
      let q = f ∙ ap (λ (m : ℕ). set flags m 1) (slope_at p cols x h e) in
      rw q (flags_next (turns_by p cols) (λ u. true) x flags w (held.slopes x h) refl)

  pub single_more : {first all : Bool} → first ≡ clear_at flags r.slope → all ≡ every (single_turn (turns_by p cols)) x → (all && (first && eqb r.driver 0)) ≡ every (single_turn (turns_by p cols)) (x + 1)
  unfolding every single_turn alone_below by_slope turn_row
  single_more {first} {all} f a =
      let d : r.driver ≡ (turns_by p cols).driver x = ap (λ (b : Row). b.driver) (e ∙ row_is p cols x h) in
      let c : clear_at flags r.slope ≡ every (λ u. not (eqb ((turns_by p cols).slope x) ((turns_by p cols).slope u))) x =
      w.clear r.slope (slope_inside p cols x held h e) ∙ rw (slope_at p cols x h e) in
      turned all (first && eqb r.driver 0) ∙ rw (add-one x, f, c, d, a)

pub single_start : (T : Turns) → true ≡ every (single_turn T) 0
unfolding every
single_start T = refl

pub single_done : (p : Size) (cols : List ℕ) (x : ℕ) {all : Bool} → p.count ≤ x → x ≤ p.count → all ≡ every (single_turn (turns_by p cols)) x → all ≡ single_turns (turns_by p cols)
unfolding single_turns
single_done p cols x h l e = let z : x ≡ (turns_by p cols).count = omega (arith, count_is p cols) in e ∙ rw z

pub ruleset flags_cases = (flags_start, slope_inside, flags_more)

pub ruleset single_cases = (single_start, single_more, single_done)
