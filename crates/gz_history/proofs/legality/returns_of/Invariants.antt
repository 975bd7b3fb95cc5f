use Rattle.gz_history.specs.Broken.{ReturnedUpTo}
use Rattle.gz_history.proofs.legality.returns_of.Given as goal

abbrev pub invariant-loop-j : goal.invariant-loop-j
invariant-loop-j l = ReturnedUpTo l.calls l.i l.j
