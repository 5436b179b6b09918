-- opens_with: a list of three bytes is compared byte by byte.
use Rattle.std.proofs.Common.{arith, ◌∙◌}
use Rattle.wire.proofs.Marks.{same_three}
use Rattle.wire.proofs.opens_with.Goals as goal

pub returns : goal.returns
returns c = c.eq.ensures ∙ same_three c.args.mark c.args.s.now (omega arith) (omega arith)
