use Rattle.gz_history.specs.Broken.{KeptAsked}
use Rattle.gz_history.proofs.legality.each_asked.Given as goal

abbrev pub invariant-loop-a : goal.invariant-loop-a
invariant-loop-a l = KeptAsked l.calls l.a-index
