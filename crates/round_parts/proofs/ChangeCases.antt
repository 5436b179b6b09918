-- The change of a round by its cases, each premise in the form in which the code leaves it. Assumes nothing.
use Prim.Native.Nat.{ℕ, ◌+◌, ◌*◌, ◌/◌, ◌≤◌, ◌<◌, max}
use mathlib.Core.Path.{◌≡◌, refl, ap, ◌∙◌}
use mathlib.Core.List.{List}
use native.Mathlib.Omega.{arith}
use Rattle.std.proofs.Math.Nat.{max_comm}
use native.Mathlib.Numerals.{add-one}
use Rattle.lists.specs.Lists.{below}
use Rattle.turn.specs.Turn.{most_worth}
use Rattle.instance.specs.declared.ways.Row.{Row}
use Rattle.instance.specs.declared.columns.Size.{Size}
use Rattle.instance.specs.Columns.{row_in, turns_by, Held}
use Rattle.instance.proofs.Rows.{worth_at}
use Rattle.refine_spec.specs.Rounds.{next_change, greatest_of}
use Rattle.refine_spec.specs.Shift.{greatest_worth}

pub next_is : (c : ℕ) {r : ℕ} → r ≡ max (15 * c / 16) 1 → r ≡ next_change c
unfolding next_change
next_is c e = e ∙ max_comm (15 * c / 16) 1

pub next_most : (c : ℕ) {r : ℕ} → c ≤ most_worth → r ≡ max (15 * c / 16) 1 → r ≤ most_worth
next_most c l e = omega arith

pub ruleset change_cases = (next_is, next_most)

-- the greatest worth of the first t turns
pub record GreatestOf (p : Size) (cols : List ℕ) (t greatest : ℕ) : Type 0 where
  pub within : t ≤ p.count
  pub is : greatest ≡ greatest_of (turns_by p cols).worth (below t)
  pub most : greatest ≤ most_worth

module _ (p : Size) (cols : List ℕ) (w : Held p cols) where
  pub greatest_start : GreatestOf p cols 0 0
  unfolding greatest_of
  greatest_start = record { within = omega arith; is = refl; most = omega arith }

  module _ {t : ℕ} (h : t < p.count) where
    pub greatest_more : {g x r : ℕ} {a : Row} → GreatestOf p cols t g → a ≡ row_in cols t → x ≡ a.worth → r ≡ max g x → GreatestOf p cols (t + 1) r
    unfolding greatest_of
    greatest_more s e f q =
        let z = worth_at p cols t h e in
        record { within = omega arith; is = rw (add-one t) (omega (arith, s.is, f, q)); most = omega (arith, s.most, f, q, w.worths t h) }

  pub greatest_done : {t g : ℕ} → p.count ≤ t → GreatestOf p cols t g → g ≡ greatest_worth (turns_by p cols)
  unfolding greatest_worth turns_by
  greatest_done {t} h s = let q : t ≡ p.count = omega (arith, s.within) in s.is ∙ ap (λ (n : ℕ). greatest_of (turns_by p cols).worth (below n)) q

pub ruleset greatest_cases = (greatest_start, greatest_more, greatest_done)
