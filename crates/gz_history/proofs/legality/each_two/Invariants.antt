use Rattle.gz_history.specs.Broken.{relation_of, KeptBefore}
use Rattle.gz_history.proofs.legality.each_two.Given as goal

abbrev pub invariant-loop-i : goal.invariant-loop-i
invariant-loop-i l = KeptBefore (relation_of l.rule) l.calls l.i
