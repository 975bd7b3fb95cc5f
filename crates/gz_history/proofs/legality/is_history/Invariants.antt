use Rattle.gz_history.specs.Broken.{AreInOrder}
use Rattle.gz_history.proofs.legality.is_history.Given as goal

abbrev pub invariant-loop-i : goal.invariant-loop-i
invariant-loop-i l = AreInOrder l.calls l.i
