use Rattle.gz_history.specs.Broken.{ReturnedBefore}
use Rattle.gz_history.proofs.sources.returning.Given as goal

abbrev pub invariant-loop-i : goal.invariant-loop-i
invariant-loop-i l = ReturnedBefore l.calls l.i
