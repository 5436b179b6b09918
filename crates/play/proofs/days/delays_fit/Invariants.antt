-- `delays_fit` meets its contract: whether each delay is within its limit.
-- Invariant: the first delay-index delays are within the limit.
use mathlib.Core.Path.{◌≡◌}
use mathlib.Core.Bool.{true}
use Rattle.play_spec.specs.Day.{delays_fit}
use Rattle.play.proofs.days.delays_fit.Given as goal

abbrev pub invariant-loop-delay : goal.invariant-loop-delay
invariant-loop-delay l = delays_fit l.delays l.delay-index ≡ true
