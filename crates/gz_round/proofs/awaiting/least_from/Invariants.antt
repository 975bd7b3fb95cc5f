use Rattle.gz_round.specs.Awaiting.{IsLeastBelow}
use Rattle.gz_round.proofs.awaiting.least_from.Given as goal

abbrev pub invariant-loop-mark : goal.invariant-loop-mark
invariant-loop-mark l = IsLeastBelow l.marks l.low l.mark-index l.best
