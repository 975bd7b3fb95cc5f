use Rattle.gz_history.specs.Broken.{KeptBefore}
use Rattle.gz_history.specs.Legal.{KeepOrder}
use Rattle.gz_history.proofs.order.first_doubtful.Given as goal

abbrev pub invariant-loop-i : goal.invariant-loop-i
invariant-loop-i l = KeptBefore KeepOrder l.calls l.i
