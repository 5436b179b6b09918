-- Only windows of a plan's own kind are ever open in it: the others start without worth, and no step opens one. Assumes nothing.
use mathlib.Core.Path.{◌≡◌, refl, ap, ◌∙◌}
use mathlib.Core.Bool.{Bool, true, false, cond}
use mathlib.Core.List.{List}
use Prim.Native.Nat.{ℕ, ◌≤◌, ◌<◌}
use native.Mathlib.Omega.{arith}
use native.Mathlib.Decide.{dec_lt}
use lib.IntN.{ℤ, pos}
use lib.ListN.{get_or-eq_default}
use Rattle.model.specs.Turns.{Turns}
use Rattle.model.specs.Steps.{Step, part, is_open, left, initial}
use Rattle.model.specs.Choice.{chosen}
use Rattle.lists.proofs.Sums.{tab_length}
use Rattle.model.proofs.Residuals.{open_left, left_open, initial_left}
use Rattle.model.proofs.Planned.{Taking}
use Rattle.model.proofs.Choices.{chosen_mono}
use Rattle.charge_spec.specs.Hall.{Hall, window_count}
use Rattle.charge_spec.specs.Plan.{turns_among, worth_in}
use Rattle.charge_spec.proofs.Windows.{among_worth}

-- past the last turn nothing is left
past_left : (T : Turns) (t : ℕ) → T.count ≤ t → left (initial T) t ≡ 0
unfolding initial left
past_left T t l = ap part (get_or-eq_default (initial T) (pos 0) (omega (arith, tab_length T.count (λ t. pos (T.worth t)))))

module _ (kind : ℕ → Bool) where
  abbrev pub OnlyKind : List ℤ → Type 0
  OnlyKind s = (t : ℕ) → is_open s t ≡ true → kind t ≡ true

  pub first_only : (H : Hall) → OnlyKind (initial (turns_among H kind))
  first_only H t o = go (dec_lt t (turns_among H kind).count) (kind t) refl
    where
      go : Dec (t < (turns_among H kind).count) → (b : Bool) → kind t ≡ b → b ≡ true
      go (yes l) true e = refl
      go (yes l) false e = absurd (omega (arith, open_left (initial (turns_among H kind)) t o, initial_left (turns_among H kind) t l, among_worth H kind t ∙ ap (λ (b : Bool). cond b (H.windows.worth t) 0) e))
      go (no l) b e = absurd (omega (arith, open_left (initial (turns_among H kind)) t o, past_left (turns_among H kind) t (omega arith)))

  pub after_only : {next : List ℤ → Step → List ℤ} {taken : List ℤ → Step → ℕ → ℕ} → Taking next taken → (s : List ℤ) (x : Step) → OnlyKind s → OnlyKind (next s x)
  after_only {next} takes s x h t o = h t (left_open s t (omega (arith, open_left (next s x) t o, takes.after s x t)))

-- what the windows of a kind are worth in a choice, the choice is worth
pub kind_worth : (H : Hall) (kind : ℕ → Bool) (S : List Bool) → chosen (window_count H) S (turns_among H kind).worth ≤ worth_in H S
unfolding worth_in
kind_worth H kind S = chosen_mono (window_count H) S S (turns_among H kind).worth H.windows.worth (λ t l e. (e, rw (among_worth H kind t) (go t (kind t))))
  where
    go : (t : ℕ) (b : Bool) → cond b (H.windows.worth t) 0 ≤ H.windows.worth t
    go t true = omega arith
    go t false = omega arith
