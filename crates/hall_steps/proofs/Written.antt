-- The steps of one kind as they are written: few, about windows of the hall, and read back. Assumes nothing.
use mathlib.Core.Path.{◌≡◌, sym, ◌∙◌, ap}
use mathlib.Core.Bool.{Bool, true, false, cond}
use mathlib.Core.List.{List}
use Prim.Native.Nat.{ℕ, ◌*◌, ◌≤◌, ◌<◌}
use native.Mathlib.Omega.{arith}
use lib.IntN.{ℤ}
use lib.ListN.{length, get_or, drop}
use Rattle.lists.proofs.Bools.{cond_most}
use Rattle.wire.specs.Number.{puts}
use Rattle.wire.proofs.Puts.{puts_front}
use Rattle.turn.specs.Turn.{most_worth}
use Rattle.sheet.specs.Kind.{most_turns}
use Rattle.model.specs.Steps.{Step, initial, after_step_by}
use Rattle.model.specs.Rules.{Right}
use Rattle.model.proofs.Limits.{AllWithin, amount_within}
use Rattle.model.proofs.Planned.{plan_by_right, planned_right, steps_few}
use Rattle.board.specs.Board.{step_at, steps_in, step_bytes}
use Rattle.board.proofs.StepBytes.{SmallSteps, step_bytes_length, steps_at, steps_read}
use Rattle.board.proofs.WrittenSteps.{each_inside, each_small, steps_small}
use Rattle.instance.specs.Columns.{turns_by}
use Rattle.instance.proofs.Rows.{count_is}
use Rattle.charge_spec.specs.Hall.{Hall, window_count, is_wide, is_small}
use Rattle.charge_spec.specs.Plan.{turns_among, small_takes, wide_steps, small_steps}
use Rattle.charge_spec.proofs.Windows.{among_count, among_worth}
use Rattle.charge_spec.proofs.Takes.{small_taking}
use Rattle.charge_spec.proofs.Open.{OnlyKind, first_only, after_only}
use Rattle.charge_spec.proofs.Limits.{first_within, next_within, small_few}
use Rattle.hall_steps.specs.declared.one_kind.OneKind.{OneKind}
use Rattle.hall_steps.specs.OneKind.{kind_hall, steps_by}
use Rattle.hall_steps.specs.Bounds.{HallHeld}

-- each step's turn is one of n
abbrev Inside : ℕ → List Step → Type 0
Inside n xs = (d : Step) (i : ℕ) → i < length xs → (get_or xs i d).turn < n

-- as many steps as windows at most, about these, and with numbers of two bytes
record Good (n : ℕ) (xs : List Step) : Type 0 where
  few : length xs ≤ n
  inside : Inside n xs
  small : SmallSteps xs

module _ (H : Hall) (supplied : 0 < H.units) (few : window_count H ≤ most_turns) (worths : (t : ℕ) → t < window_count H → H.windows.worth t ≤ most_worth) where
  few_of_kind : (kind : ℕ → Bool) → (turns_among H kind).count ≤ most_turns
  few_of_kind kind = omega (arith, among_count H kind)

  wide_good : Good (window_count H) (wide_steps H)
  unfolding wide_steps
  wide_good =
      let T = turns_among H (is_wide H) in
      record {
        few = omega (arith, steps_few T, among_count H (is_wide H));
        inside = λ d i h. omega (arith, each_inside (planned_right T) d i h, among_count H (is_wide H));
        small = steps_small T (few_of_kind (is_wide H)) (λ t l. rw (among_worth H (is_wide H) t) (cond_most (is_wide H t) (worths t (omega (arith, among_count H (is_wide H))))));
      }

  -- only small windows are open, and residuals are in range
  abbrev SmallRange : List ℤ → Type 0
  SmallRange s = OnlyKind (is_small H) s × AllWithin most_worth s

  small_goes : (s : List ℤ) (x : Step) → SmallRange s → Right (turns_among H (is_small H)) s x → SmallRange (after_step_by (small_takes H) s x)
  small_goes s x (k, h) q = (after_only (is_small H) (small_taking H) s x k, next_within H supplied most_worth s x k (amount_within (turns_among H (is_small H)) most_worth h q).1 h)

  small_good : Good (window_count H) (small_steps H)
  unfolding small_steps
  small_good =
      let T = turns_among H (is_small H) in
      let right = plan_by_right T (after_step_by (small_takes H)) (window_count H) (initial T) in
      record {
        few = small_few H supplied;
        inside = λ d i h. omega (arith, each_inside right d i h, among_count H (is_small H));
        small = each_small T (few_of_kind (is_small H)) (after_step_by (small_takes H)) SmallRange (λ s r. r.1) small_goes (first_only (is_small H) H, first_within H supplied worths) right;
      }

module _ (a : OneKind) (cols : List ℕ) (held : HallHeld a.units a.size cols) where
  good : Good a.size.count (steps_by a cols)
  unfolding steps_by turns_by
  good = rw (← count_is a.size cols) (go a.wide)
    where
      H : Hall
      H = kind_hall a cols

      few : window_count H ≤ most_turns
      few = omega (arith, held.held.few, count_is a.size cols)

      worths : (t : ℕ) → t < window_count H → H.windows.worth t ≤ most_worth
      worths t l = held.held.worths t (omega (arith, count_is a.size cols))

      go : (b : Bool) → Good (window_count H) (cond b (wide_steps H) (small_steps H))
      go true = wide_good H held.units_from few worths
      go false = small_good H held.units_from few worths

  module _ {m : ℕ} (e : m ≡ length (steps_by a cols)) where
    pub written_few : m ≤ a.size.count
    written_few = omega (arith, e, good.few)

    module _ (l : List ℕ) {l' : List ℕ} (room : 4 * a.size.count ≤ length l) (p : l' ≡ puts l 0 (step_bytes (steps_by a cols))) where
      pub written_read : steps_in m l' ≡ steps_by a cols
      written_read =
          let fits : length (step_bytes (steps_by a cols)) ≤ length l = omega (arith, step_bytes_length (steps_by a cols), good.few) in
          rw (e, p) (steps_read good.small (puts l 0 (step_bytes (steps_by a cols))) (drop (length (step_bytes (steps_by a cols))) l) (puts_front (step_bytes (steps_by a cols)) l fits))

      pub written_inside : (i : ℕ) → i < m → (step_at l' i).turn < a.size.count
      written_inside i h =
          let d = step_at l' i in
          let q : (step_at l' i).turn ≡ (get_or (steps_by a cols) i d).turn = ap (λ (x : Step). x.turn) (sym (steps_at m l' i d h)) ∙ ap (λ (xs : List Step). (get_or xs i d).turn) written_read in
          omega (arith, q, good.inside d i (omega (arith, e)))
