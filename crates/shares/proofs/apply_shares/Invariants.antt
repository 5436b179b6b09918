-- Invariant: the step has gone through the windows below t, and the table has the shares of its amount.
use Rattle.shares.specs.Taking.{hall_by, SharesBy}
use Rattle.local_ratio.specs.Bounds.{Residuals}
use Rattle.local_ratio.specs.Blocks.{Stepped}
use Rattle.instance.specs.Columns.{row_in}
use Rattle.charge_spec.specs.Plan.{small_takes}
use mathlib.Core.Path.{◌≡◌}
use Rattle.shares.proofs.apply_shares.Given as goal

abbrev pub invariant-loop-t : goal.invariant-loop-t
invariant-loop-t l = (l.x ≡ row_in l.cols l.s.turn) × SharesBy l.s.units l.s.amount l.shares × Residuals l.fn.p.count l.residuals × Stepped (small_takes (hall_by l.s.units l.fn.p l.cols)) l.s.turn l.s.amount l.from l.t l.initial.residuals l.residuals
