-- minute: a round moves one groomer more; after the last the minute's list is there.
use mathlib.Core.Path.{◌≡◌, ◌∙◌, ap}
use mathlib.Core.List.{List}
use Prim.Native.Nat.{ℕ, ◌+◌, ◌<◌}
use native.Mathlib.Omega.{arith}
use lib.ListN.{length, set, get_or}
use Rattle.std.proofs.lemmas.List.{get_or_default}
use Rattle.play_spec.specs.declared.Standing.{Standing}
use Rattle.play_spec.specs.Standing.{fresh_of}
use Rattle.play_spec.specs.Minutes.{step_of}
use Rattle.play_spec.proofs.Moves.{Mid, mid_next, mid_end}
use Rattle.play.proofs.moving.minute.Goals as goal

-- the round, whatever stands for a place that the list does not have
round_next : (n : ℕ) (ys : List Standing) (table : List ℕ) (m g : ℕ) (l : List Standing) (none r : Standing) → g < n → g < length l → r ≡ step_of (get_or l g none) table g m → Mid n ys table m g l → Mid n ys table m (g + 1) (set l g r)
round_next n ys table m g l none r less within e i =
    let q : r ≡ step_of (get_or l g fresh_of) table g m = e ∙ ap (λ (s : Standing). step_of s table g m) (get_or_default l g none fresh_of within) in
    rw q (mid_next n ys table m g l less i)

pub loop-g-preserved : goal.loop-g-preserved
loop-g-preserved c =
    let within : c.loop-g.g < length c.loop-g.list = omega (arith, c.requires.0) in
    round_next c.args.n c.args.list.now c.args.table.now c.args.m c.loop-g.g c.loop-g.list _ c.step.result c.loop-g-test.true within c.step.ensures c.loop-g.invariant

pub returns : goal.returns
returns c = mid_end c.args.n c.args.list.now c.args.table.now c.args.m c.loop-g.g c.loop-g.list c.loop-g-test.false c.loop-g.invariant
